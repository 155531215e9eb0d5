-- A gap that is closed in order, turn by turn. Assumes nothing: these are definitions.
use Rattle.std.specs.Prelude.{cond, List, ℕ, zero, suc, get_or, set}
use Rattle.store_types.specs.declared.Grant.{Grant}
use Rattle.calls.specs.Rights.{names}

-- what goes to the place of the next grant that stays, and the place behind it
unfoldable pub stays : (party section : ℕ) → (grant old : Grant) → Grant
stays p x g old = cond (names p x g) old g

unfoldable pub next_place : (party section : ℕ) → (place : ℕ) → Grant → ℕ
next_place p x k g = cond (names p x g) k (suc k)

-- what no place of a list says
abbrev pub no_grant : Grant
no_grant = record { party = 0; section = 0; rights = 0 }

-- the list, and how many stay
pub record Closed : Type 0 where
  pub grants : List Grant
  pub count : ℕ

-- the grants from place i on, of which so many are left; those that stay go to place k and the ones behind it
unfoldable pub closed : (party section : ℕ) → (left i k : ℕ) → List Grant → Closed
closed p x zero i k gs = record { grants = gs; count = k }
closed p x (suc m) i k gs =
    let g = get_or gs i no_grant in closed p x m (suc i) (next_place p x k g) (set gs k (stays p x g (get_or gs k no_grant)))
