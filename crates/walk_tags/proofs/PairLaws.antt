-- The table of pairs of kinds keeps its rule: computed once over all kind words. Assumes nothing.
use mathlib.Core.Path.{◌≡◌, refl, sym}
use mathlib.Core.Bool.{Bool, true, false, ◌&&◌, false≢true}
use mathlib.Core.Logic.{◌⊎◌, ⊎_elim, by_cases}
use Prim.Native.Nat.{ℕ, zero, suc, ◌<◌}
use native.Mathlib.Decide.{ℕ_discrete}
use native.Mathlib.Omega.{arith}
use lib.ListN.{get_or}
use Rattle.lists.proofs.Tests.{and_left, and_right}
use Rattle.walk_tags.specs.Needs.{BeginWord, pair_table, pair_fits, is_kind_word, bit_of}

same : Bool → Bool → Bool
same true b = b
same false true = false
same false false = true

same_true : (a b : Bool) → same a b ≡ true → a ≡ b
unfolding same
same_true true b e = sym e
same_true false true e = absurd (false≢true e)
same_true false false e = refl

all_below : (n : ℕ) → (ℕ → Bool) → Bool
all_below zero f = true
all_below (suc n) f = f n && all_below n f

at_below : (n : ℕ) (f : ℕ → Bool) → all_below n f ≡ true → (c : ℕ) → c < n → f c ≡ true
unfolding all_below
at_below zero f e c p = absurd (omega arith)
at_below (suc n) f e c p =
    by_cases (ℕ_discrete c n) (λ q. rw q (and_left (f n) (all_below n f) e))
    (λ q. at_below n f (and_right (f n) (all_below n f) e) c (omega arith))

-- entry c beside a kind word k
entry_right : (c k : ℕ) → Bool
entry_right c k = same (bit_of (get_or pair_table c 0) k) (pair_fits c k)

-- beside an open begin, marked or not, and beside itself
row_right : (c : ℕ) → Bool
row_right c = entry_right c 1 && (entry_right c 17 && entry_right c c)

table_classes : all_below 32 row_right ≡ true
unfolding bit_of pair_table pair_fits is_kind_word all_below row_right entry_right same
table_classes = refl

pub pair_right : (c k : ℕ) → c < 32 → BeginWord k ⊎ (k ≡ c) → bit_of (get_or pair_table c 0) k ≡ pair_fits c k
unfolding row_right entry_right
pair_right c k p w =
    let row = at_below 32 row_right table_classes c p in
    let rest = and_right (entry_right c 1) (entry_right c 17 && entry_right c c) row in
    ⊎_elim
    (⊎_elim (λ e. rw e (same_true _ _ (and_left (entry_right c 1) (entry_right c 17 && entry_right c c) row)))
    (λ e. rw e (same_true _ _ (and_left (entry_right c 17) (entry_right c c) rest))))
    (λ e. rw e (same_true _ _ (and_right (entry_right c 17) (entry_right c c) rest)))
    w
