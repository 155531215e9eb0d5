-- The order of lists is one: nothing before itself, transitive, and of two that differ one is before the other. Assumes nothing.
use mathlib.Core.Path.{◌≡◌, refl, sym, ◌∙◌}
use mathlib.Core.List.{List, [], ◌∷◌}
use mathlib.Core.Logic.{◌⊎◌, inl, inr, ⊎_elim, by_cases}
use Prim.Native.Nat.{ℕ, ◌<◌}
use native.Mathlib.Omega.{arith}
use native.Mathlib.Decide.{ℕ_discrete, dec_lt}
use borrow.Author.Tests.{lt-ltb, le-ltb, eq-eqb, ne_eqb}
use Rattle.std.specs.declared.cmp.Ordering.{Ordering}
use Rattle.std.specs.declared.cmp.Ordering.TheVariants.{Less, Equal, Greater}
use Rattle.std.specs.Cmp.Lexicographic.{slice_cmp}
use Rattle.std.specs.Ordering.{nat_cmp}
use Rattle.name_index.specs.Order.{step, order}

pub step_less : (a b : ℕ) (r : Ordering) → a < b → step a b r ≡ Less
unfolding step
step_less a b r h = rw (lt-ltb a b h)

pub step_more : (a b : ℕ) (r : Ordering) → b < a → step a b r ≡ Greater
unfolding step
step_more a b r h = rw (le-ltb a b (omega arith), lt-ltb b a h)

pub step_equal : (a b : ℕ) (r : Ordering) → a ≡ b → step a b r ≡ r
unfolding step
step_equal a b r h = rw (le-ltb a b (omega arith), le-ltb b a (omega arith))

-- a goal by the order of two numbers
pub by_order : {G : Type 0} (a b : ℕ) → (a < b → G) → (a ≡ b → G) → (b < a → G) → G
by_order a b f g h =
    by_cases (dec_lt a b) f (λ not_less. by_cases (ℕ_discrete a b) g (λ differ. h (omega arith)))

-- what a step says
step_before : (a b : ℕ) (r : Ordering) → step a b r ≡ Less → (a < b) ⊎ ((a ≡ b) × (r ≡ Less))
step_before a b r e =
    by_order a b
    (λ l. inl l)
    (λ q. inr (q, sym (step_equal a b r q) ∙ e))
    (λ l. cc (step_more a b r l))

step_same : (a b : ℕ) (r : Ordering) → step a b r ≡ Equal → (a ≡ b) × (r ≡ Equal)
step_same a b r e =
    by_order a b
    (λ l. cc (step_less a b r l))
    (λ q. (q, sym (step_equal a b r q) ∙ e))
    (λ l. cc (step_more a b r l))

pub order_refl : (x : List ℕ) → order x x ≡ Equal
unfolding order
order_refl [] = refl
order_refl (a ∷ x) = step_equal a a (order x x) refl ∙ order_refl x

pub order_equal : (x y : List ℕ) → order x y ≡ Equal → x ≡ y
unfolding order
order_equal [] [] e = refl
order_equal [] (b ∷ y) e = cc
order_equal (a ∷ x) [] e = cc
order_equal (a ∷ x) (b ∷ y) e =
    let s = step_same a b (order x y) e in
    rw (s.0, order_equal x y s.1)

pub order_trans : (x y z : List ℕ) → order x y ≡ Less → order y z ≡ Less → order x z ≡ Less
unfolding order
order_trans [] y [] e f = absurd (none y e f)
  where
    none : (y : List ℕ) → order [] y ≡ Less → order y [] ≡ Less → ⊥
    none [] e f = cc
    none (b ∷ y) e f = cc
order_trans [] y (c ∷ z) e f = refl
order_trans (a ∷ x) [] z e f = cc
order_trans (a ∷ x) (b ∷ y) [] e f = cc
order_trans (a ∷ x) (b ∷ y) (c ∷ z) e f =
    ⊎_elim
    (λ l. ⊎_elim (λ m. step_less a c (order x z) (omega arith)) (λ m. step_less a c (order x z) (omega arith)) (step_before b c (order y z) f))
    (λ l. ⊎_elim
    (λ m. step_less a c (order x z) (omega arith))
    (λ m. step_equal a c (order x z) (l.0 ∙ m.0) ∙ order_trans x y z l.1 m.1)
    (step_before b c (order y z) f))
    (step_before a b (order x y) e)

pub order_other : (x y : List ℕ) → (order x y ≡ Less → ⊥) → (order x y ≡ Equal → ⊥) → order y x ≡ Less
unfolding order
order_other [] [] n m = absurd (m refl)
order_other [] (b ∷ y) n m = absurd (n refl)
order_other (a ∷ x) [] n m = refl
order_other (a ∷ x) (b ∷ y) n m =
    by_order a b
    (λ l. absurd (n (step_less a b (order x y) l)))
    (λ q. step_equal b a (order y x) (sym q) ∙ order_other x y (λ e. n (step_equal a b (order x y) q ∙ e)) (λ e. m (step_equal a b (order x y) q ∙ e)))
    (λ l. step_less b a (order y x) l)

-- the order of the library, byte by byte, is this one
pub order_is : (x y : List ℕ) → slice_cmp nat_cmp x y ≡ order x y
unfolding order
order_is [] [] = refl
order_is [] (b ∷ y) = refl
order_is (a ∷ x) [] = refl
order_is (a ∷ x) (b ∷ y) =
    by_order a b
    (λ l. rw (step_less a b (order x y) l, lt-ltb a b l))
    (λ q. rw (step_equal a b (order x y) q, ← order_is x y, le-ltb a b (omega arith), eq-eqb a b q))
    (λ l. rw (step_more a b (order x y) l, le-ltb a b (omega arith), ne_eqb a b (omega arith)))
