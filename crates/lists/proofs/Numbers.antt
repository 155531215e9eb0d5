-- Numbers in order: how many, and each. Assumes nothing.
use mathlib.Core.Path.{◌≡◌, refl, ap}
use Prim.Native.Nat.{ℕ, zero, suc, ◌+◌, ◌<◌}
use native.Mathlib.Nat.{not-suc-le-zero, le_of_suc-le-suc}
use native.Mathlib.Omega.{arith}
use lib.ListN.{length, get_or}
use Rattle.lists.specs.Lists.{numbers}

pub length_numbers : (x n : ℕ) → length (numbers x n) ≡ n
unfolding numbers
length_numbers x zero = refl
length_numbers x (suc n) = ap suc (length_numbers (suc x) n)

pub getD_numbers : (x n i d : ℕ) → i < n → get_or (numbers x n) i d ≡ x + i
unfolding numbers
getD_numbers x zero i d h = absurd (not-suc-le-zero h)
getD_numbers x (suc n) zero d h = omega arith
getD_numbers x (suc n) (suc i) d h = omega (arith, getD_numbers (suc x) n i d (le_of_suc-le-suc h))
