-- Tables of tests, of which the first that holds decides: one table behind another. Assumes nothing.
use mathlib.Core.Path.{◌≡◌, refl, sym, ◌∙◌}
use mathlib.Core.Bool.{Bool, true, false, not, true≢false}
use mathlib.Core.List.{List, [], ◌∷◌, ◌++◌}
use Prim.Native.Nat.{ℕ}
use lib.Dec.{eqb}
use Rattle.lists.specs.Lists.{all_hold, first}
use Rattle.lists.proofs.Tests.{and_left, and_right}

-- what stands behind is the default of what stands before
pub first_append : {A : Type 0} (xs ys : List (Bool × A)) (d : A) → first (xs ++ ys) d ≡ first xs (first ys d)
unfolding first
first_append [] ys d = refl
first_append ((true, a) ∷ xs) ys d = refl
first_append ((false, a) ∷ xs) ys d = first_append xs ys d

-- where the default is not what comes out, a test has decided, and no default matters
pub first_decided : {A : Type 0} (xs : List (Bool × A)) (d e : A) → (first xs d ≡ d → ⊥) → first xs e ≡ first xs d
unfolding first
first_decided [] d e n = absurd (n refl)
first_decided ((true, a) ∷ xs) d e n = refl
first_decided ((false, a) ∷ xs) d e n = first_decided xs d e n

-- REFUSALS, whose default is 0 and of which each is another number
abbrev pub refuses : List (Bool × ℕ) → Bool
refuses xs = all_hold (λ (x : Bool × ℕ). not (eqb x.1 0)) xs

none_passed : (xs : List (Bool × ℕ)) (d : ℕ) → refuses xs ≡ true → first xs 0 ≡ 0 → first xs d ≡ d
unfolding first all_hold
none_passed [] d r e = refl
none_passed ((true, k) ∷ xs) d r e = absurd (true≢false (sym (and_left (not (eqb k 0)) _ r) ∙ rw e))
none_passed ((false, k) ∷ xs) d r e = none_passed xs d (and_right (not (eqb k 0)) _ r) e

-- the refusal of the first table is that of both, and where it has none the second decides
pub refused_before : (xs ys : List (Bool × ℕ)) → (first xs 0 ≡ 0 → ⊥) → first (xs ++ ys) 0 ≡ first xs 0
refused_before xs ys n = first_append xs ys 0 ∙ first_decided xs 0 (first ys 0) n

pub refused_behind : (xs ys : List (Bool × ℕ)) → refuses xs ≡ true → first xs 0 ≡ 0 → first (xs ++ ys) 0 ≡ first ys 0
refused_behind xs ys r e = first_append xs ys 0 ∙ none_passed xs (first ys 0) r e
