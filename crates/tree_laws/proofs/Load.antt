-- Load: the height is the smallest that fits, the tags are 0 to n − 1 in order, and the book is sane. Assumes nothing.
use mathlib.Core.Path.{◌≡◌, refl, ap, ◌∙◌}
use mathlib.Core.Bool.{Bool, true, false}
use Prim.Native.Nat.{ℕ, zero, suc, ◌+◌, ◌*◌, ◌^◌, ◌≤◌, ◌<◌}
use native.Mathlib.Nat.{add-zero, zero-add, pow-succ', mul-le-mul_right}
use native.Mathlib.Omega.{arith}
use borrow.Author.Tests.{lt-ltb, le-ltb, ltb-true, ltb-false}
use lib.Dec.{ltb}
use lib.ListN.{length}
use Rattle.lists.specs.Lists.{numbers}
use Rattle.lists.proofs.Numbers.{length_numbers}
use Rattle.tree.specs.Good.{Good}
use Rattle.tree.specs.Forest.{leaves, size, spread}
use Rattle.tree.specs.Book.{tags, under_from, load_under, loaded}
use Rattle.tree.specs.Promise.{Sane}
use Rattle.tree_laws.proofs.Spread.{leaves_spread_zero, leaves_spread, good_spread_zero, good_spread, some_power}
use Rattle.tree_laws.proofs.Insertion.{sane_of}

-- the clauses of the search for the height: it stops where n fits
under_ends : (h r n : ℕ) → under_from 0 h r n ≡ h
unfolding under_from
under_ends h r n = refl

under_stops : (k h r n : ℕ) → n < 2 * r ^ suc h → under_from (suc k) h r n ≡ h
unfolding under_from
under_stops k h r n l = rw (lt-ltb _ _ l)

under_goes : (k h r n : ℕ) → 2 * r ^ suc h ≤ n → under_from (suc k) h r n ≡ under_from k (suc h) r n
unfolding under_from
under_goes k h r n l = rw (le-ltb _ _ l)

-- n steps from height 0 suffice
pub steps_suffice : (r n : ℕ) → 2 ≤ r → n < r ^ n
steps_suffice r zero h = omega (arith, some_power r 0 h)
steps_suffice r (suc n) h = omega (arith, steps_suffice r n h, pow-succ' r n, mul-le-mul_right (r ^ n) h)

-- where the search begins no higher than it must, it ends at the least height that fits
pub record Least (r n h : ℕ) : Type 0 where
  pub fits : n < 2 * r ^ suc h
  pub least : (i : ℕ) → h ≡ suc i → 2 * r ^ suc i ≤ n

least_from : (k h r n : ℕ) → n < 2 * r ^ suc (k + h) → ((i : ℕ) → h ≡ suc i → 2 * r ^ suc i ≤ n) → Least r n (under_from k h r n)
least_from zero h r n l m = rw under_ends (record { fits = rw zero-add at l; least = m })
least_from (suc k) h r n l m =
    let higher : k + suc h ≡ suc k + h = omega arith in
    go (ltb n (2 * r ^ suc h)) refl (λ q. least_from k (suc h) r n (rw higher l) (λ i e. rw (← e) q))
  where
    go : (t : Bool) → ltb n (2 * r ^ suc h) ≡ t → (2 * r ^ suc h ≤ n → Least r n (under_from k (suc h) r n)) → Least r n (under_from (suc k) h r n)
    go true e onward = let q = ltb-true _ _ e in rw (under_stops k h r n q) (record { fits = q; least = m })
    go false e onward = let q = ltb-false _ _ e in rw (under_goes k h r n q) (onward q)

pub load_least : (r n : ℕ) → 2 ≤ r → Least r n (load_under r n)
unfolding load_under
load_least r n h =
    least_from n 0 r n (rw add-zero (omega (arith, steps_suffice r n h, pow-succ' r n, mul-le-mul_right (r ^ n) h))) (λ i e. absurd (omega arith))

-- a row spread at its least height
enough : (h r n : ℕ) → Least r n (suc h) → r ^ suc h ≤ length (numbers 0 n)
enough h r n m = omega (arith, m.least h refl, length_numbers 0 n)

leaves_least : (h r n : ℕ) → 2 ≤ r → Least r n h → leaves (spread h r (numbers 0 n)) ≡ numbers 0 n
leaves_least zero r n q m = leaves_spread_zero r (numbers 0 n)
leaves_least (suc h) r n q m = leaves_spread (suc h) r (numbers 0 n) q (enough h r n m)

good_least : (s h r n : ℕ) → 2 ≤ s → 2 ≤ r → Least r n h → Good s r (spread h r (numbers 0 n)) h
good_least s zero r n t q m = good_spread_zero s r (numbers 0 n)
good_least s (suc h) r n t q m = good_spread s (suc h) r (numbers 0 n) t q (enough h r n m)

low_least : (h r n : ℕ) → Least r n h → (h ≡ 0 → ⊥) → 2 * r ^ h ≤ n
low_least zero r n m some = absurd (some refl)
low_least (suc h) r n m some = m.least h refl

-- a loaded book holds the tags 0 to n − 1 in order
pub tags_loaded : (s r n : ℕ) → 2 ≤ r → tags (loaded s r n) ≡ numbers 0 n
unfolding loaded
tags_loaded s r n q = leaves_least (load_under r n) r n q (load_least r n q)

pub size_loaded : (s r n : ℕ) → 2 ≤ r → size (loaded s r n).root ≡ n
size_loaded s r n q = ap length (tags_loaded s r n q) ∙ length_numbers 0 n

-- and is sane
pub sane_loaded : (s r n : ℕ) → 2 ≤ s → 2 ≤ r → Sane (loaded s r n)
unfolding loaded
sane_loaded s r n t q =
    let h = load_under r n in
    let m = load_least r n q in
    let sized = size_loaded s r n q in
    sane_of (loaded s r n) t q (record {
      high = omega (arith, m.fits, mul-le-mul_right (r ^ suc h) t);
      low = λ some. omega (arith, low_least h r n m some);
      good = good_least s h r n t q m;
    })
