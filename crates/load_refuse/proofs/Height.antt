-- The height that a load takes, found from below. Assumes nothing.
use mathlib.Core.Path.{◌≡◌, refl}
use Prim.Native.Nat.{ℕ, zero, suc, ◌+◌, ◌*◌, ◌^◌, ◌≤◌, ◌<◌}
use native.Mathlib.Nat.{pow-zero, pow-suc, mul_assoc, mul-le-mul_left, pow-le-pow_right}
use native.Mathlib.Numerals.{add-one}
use native.Mathlib.Omega.{arith}
use borrow.Author.Tests.{ltb-true, ltb-false}
use lib.Dec.{ltb}
use Rattle.lists.proofs.Tests.{by_test}
use Rattle.tree.specs.Book.{load_under}
use Rattle.tree_laws.proofs.Load.{Least, load_least, steps_suffice}

more : (r h m : ℕ) → 2 ≤ r → h ≤ m → r ^ h ≤ r ^ m
more r h m q l = pow-le-pow_right (omega arith) l

-- two heights of which each is the least are one
no_lower : (r n h m : ℕ) → 2 ≤ r → Least r n h → Least r n m → h < m → ⊥
no_lower r n h zero q a b l = omega arith
no_lower r n h (suc m) q a b l =
    omega (arith, a.fits, b.least m refl, mul-le-mul_left 2 (more r (suc h) (suc m) q (omega arith)))

one_least : (r n h m : ℕ) → 2 ≤ r → Least r n h → Least r n m → h ≡ m
one_least r n h m q a b =
    by_test (ltb h m) (λ e. absurd (no_lower r n h m q a b (ltb-true h m e)))
    (λ e. by_test (ltb m h) (λ f. absurd (no_lower r n m h q b a (ltb-true m h f)))
    (λ f. omega (arith, ltb-false h m e, ltb-false m h f)))

-- SEARCHING: p is twice the power above h, and no lower height fits
pub record Searched (r n h p : ℕ) : Type 0 where
  pub power : p ≡ 2 * r ^ suc h
  pub least : (i : ℕ) → h ≡ suc i → 2 * r ^ suc i ≤ n

pub search_starts : (r n : ℕ) → Searched r n 0 (2 * r)
search_starts r n = record { power = rw (pow-suc, pow-zero) (omega arith); least = λ i e. absurd (omega arith) }

pub search_goes : (r n h p : ℕ) → Searched r n h p → p ≤ n → Searched r n (h + 1) (p * r)
search_goes r n h p a l =
    rw add-one (record {
      power = rw (a.power, mul_assoc, pow-suc r (suc h));
      least = λ i e. let same : h ≡ i = omega arith in rw (← same, ← a.power) l;
    })

-- a height is below its power, so the search ends
pub height_below : (r n h p : ℕ) → 2 ≤ r → Searched r n h p → h < p
height_below r n h p q a = rw a.power omega (arith, steps_suffice r (suc h) q)

pub search_ends : (r n h p : ℕ) → 2 ≤ r → Searched r n h p → n < p → h ≡ load_under r n
search_ends r n h p q a l =
    one_least r n h (load_under r n) q (record { fits = rw (← a.power) l; least = a.least }) (load_least r n q)

-- a tree of the least height has leaves enough
pub leaves_enough : (r n u : ℕ) → Least r n u → 1 ≤ u → r ^ u ≤ n
leaves_enough r n zero m l = absurd (omega arith)
leaves_enough r n (suc i) m l = omega (arith, m.least i refl)

-- and is no more than there are leaves
pub height_most : (r n : ℕ) → 2 ≤ r → load_under r n ≤ n
height_most r n q = go (load_under r n) (load_least r n q)
  where
    go : (u : ℕ) → Least r n u → u ≤ n
    go zero m = omega arith
    go (suc i) m = omega (arith, m.least i refl, steps_suffice r (suc i) q)
