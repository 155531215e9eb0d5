-- Lists of numbers that are the same, by the test and by equality. Assumes nothing.
use mathlib.Core.Path.{◌≡◌, refl, ap, sym, ◌∙◌}
use mathlib.Core.Bool.{Bool, true, false, false≢true}
use mathlib.Core.List.{List, [], ◌∷◌}
use Prim.Native.Nat.{ℕ}
use borrow.Author.Tests.{eq-eqb, eqb-true}
use lib.Dec.{eqb}
use Rattle.lists.specs.Lists.{same}
use Rattle.lists.proofs.Tests.{and_left, and_right, fails}

pub same_refl : (xs : List ℕ) → same xs xs ≡ true
unfolding same
same_refl [] = refl
same_refl (x ∷ xs) = rw (eq-eqb x x refl) (same_refl xs)

pub same_equal : (xs ys : List ℕ) → same xs ys ≡ true → xs ≡ ys
unfolding same
same_equal [] [] e = refl
same_equal [] (y ∷ ys) e = absurd (false≢true e)
same_equal (x ∷ xs) [] e = absurd (false≢true e)
same_equal (x ∷ xs) (y ∷ ys) e =
    rw (eqb-true x y (and_left (eqb x y) (same xs ys) e), same_equal xs ys (and_right (eqb x y) (same xs ys) e))

-- a test that tells equal lists
pub same_told : (xs ys : List ℕ) (t : Bool) → (t ≡ true → xs ≡ ys) → (xs ≡ ys → t ≡ true) → t ≡ same xs ys
same_told xs ys true f g = sym (ap (same xs) (sym (f refl)) ∙ same_refl xs)
same_told xs ys false f g = sym (fails (same xs ys) (λ e. false≢true (g (same_equal xs ys e))))
