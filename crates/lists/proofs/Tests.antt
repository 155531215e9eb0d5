-- Laws on tests: a goal by the two answers, and what both answers of a conjunction or disjunction say of its parts.
-- Assumes nothing.
use mathlib.Core.Path.{◌≡◌, refl, sym, ◌∙◌}
use mathlib.Core.Bool.{Bool, true, false, ◌&&◌, ◌||◌, not, cond, true≢false, false≢true}
use Prim.Native.Nat.{ℕ}
use borrow.Author.Tests.{eqb-true, eqb-false, not-true, not-false}
use lib.Dec.{eqb}

-- a goal by the two answers of a test
pub by_test : {G : Type 0} (t : Bool) → (t ≡ true → G) → (t ≡ false → G) → G
by_test true f g = f refl
by_test false f g = g refl

-- a test that cannot be passed fails
pub fails : (t : Bool) → (t ≡ true → ⊥) → t ≡ false
fails t h = by_test t (λ e. absurd (h e)) (λ e. e)

-- either answer gives the same
pub either_way : {A : Type 0} (t : Bool) (a : A) → cond t a a ≡ a
either_way true a = refl
either_way false a = refl

pub and_left : (a b : Bool) → (a && b) ≡ true → a ≡ true
and_left true b e = refl
and_left false b e = absurd (false≢true e)

pub and_right : (a b : Bool) → (a && b) ≡ true → b ≡ true
and_right true b e = e
and_right false b e = absurd (false≢true e)

pub and_both : {a b : Bool} → a ≡ true → b ≡ true → (a && b) ≡ true
and_both {a} {b} p q = rw (p, q)

pub or_left_false : (a b : Bool) → (a || b) ≡ false → a ≡ false
or_left_false true b e = e
or_left_false false b e = refl

pub or_right_false : (a b : Bool) → (a || b) ≡ false → b ≡ false
or_right_false true b e = absurd (true≢false e)
or_right_false false b e = e

-- two numbers, by a test `if !same` of the code
pub not_same : (a b : ℕ) {t : Bool} → t ≡ eqb a b → not t ≡ true → a ≡ b → ⊥
not_same a b e n = eqb-false a b (sym e ∙ not-true _ n)

pub are_same : (a b : ℕ) {t : Bool} → t ≡ eqb a b → not t ≡ false → a ≡ b
are_same a b e n = eqb-true a b (sym e ∙ not-false _ n)
