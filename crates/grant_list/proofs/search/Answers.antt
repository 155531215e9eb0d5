-- `grant_list::search` meets its contract. Assumes nothing.
use mathlib.Core.Path.{◌≡◌, refl, sym, ◌∙◌}
use mathlib.Core.Bool.{Bool, ◌||◌, or_assoc, or-false}
use mathlib.Core.List.{List}
use Prim.Native.Nat.{ℕ, suc, ◌+◌, ◌≤◌, ◌<◌}
use native.Mathlib.Numerals.{add-one}
use native.Mathlib.Omega.{arith}
use lib.ListN.{length, get_or, drop}
use lib.Seq.{drop-cons, drop-length}
use Rattle.lists.specs.Lists.{some_holds}
use Rattle.store_types.specs.declared.Grant.{Grant}
use Rattle.calls.specs.Rights.{held}
use Rattle.grant_list.specs.Gap.{no_grant}
use Rattle.grant_list.proofs.search.Goals as goal

-- a turn at place i, where f is what was found before it; and none is left
module _ (holds : Grant → Bool) (ys : List Grant) (i : ℕ) (f : Bool) where
  turned : i < length ys → ((f || holds (get_or ys i no_grant)) || some_holds holds (drop (i + 1) ys)) ≡ (f || some_holds holds (drop i ys))
  unfolding some_holds
  turned inside = rw (drop-cons ys i no_grant, add-one i) (or_assoc f (holds (get_or ys i no_grant)) (some_holds holds (drop (suc i) ys)))

  ended : i ≡ length ys → (f || some_holds holds (drop i ys)) ≡ f
  unfolding some_holds
  ended all = rw (all, drop-length ys) (or-false f)

pub loop-g-init : goal.loop-g-init
unfolding held
loop-g-init c = refl

pub loop-g-preserved : goal.loop-g-preserved
loop-g-preserved c =
    rw c.or_gives-found.ensures (turned _ _ c.loop-g.g-index c.loop-g.found c.loop-g-test.true ∙ c.loop-g.invariant)

pub returns : goal.returns
returns c = sym (ended _ _ c.loop-g.g-index c.loop-g.found (omega arith)) ∙ c.loop-g.invariant
