-- Numbers in bytes, low byte first: a number is read back from its bytes, and bytes are those of the number that they are.
-- Assumes nothing.
use mathlib.Core.Path.{◌≡◌, refl, ap}
use mathlib.Core.Bool.{true}
use mathlib.Core.List.{List, [], ◌∷◌, ◌++◌}
use Prim.Native.Nat.{ℕ, zero, suc, ◌/◌, ◌%◌, ◌^◌, ◌≤◌, ◌<◌}
use native.Mathlib.Nat.{pow-zero, pow-suc, pow-succ', not-suc-le-zero, le_of_suc-le-suc, mod-lt, mod-eq_of_lt, mod-add-div, div-eq_of_lt, div-lt_iff_lt-mul, add-mul-div_left, add-mul-mod_self_left, zero-add}
use native.Mathlib.Omega.{arith}
use borrow.Author.Tests.{lt-ltb, ltb-true}
use lib.ListN.{length, take}
use Rattle.lists.specs.Lists.{all_hold}
use Rattle.lists.proofs.Tests.{and_both}
use Rattle.lists.proofs.AllHold.{all_first, all_rest}
use Rattle.little_endian.specs.Numbers.{byte_limit, is_byte, low_first, number_in}

-- THE BYTES OF A NUMBER: so many, and each is one
pub length_low : (k v : ℕ) → length (low_first k v) ≡ k
unfolding low_first
length_low zero v = refl
length_low (suc k) v = ap suc (length_low k (v / byte_limit))

pub low_bytes : (k v : ℕ) → all_hold is_byte (low_first k v) ≡ true
unfolding low_first all_hold is_byte
low_bytes zero v = refl
low_bytes (suc k) v = and_both (lt-ltb (v % byte_limit) byte_limit (mod-lt v (omega arith))) (low_bytes k (v / byte_limit))

-- a number that fits is read back, whatever stands behind it
pub number_low : (k v : ℕ) (rest : List ℕ) → v < byte_limit ^ k → number_in k (low_first k v ++ rest) ≡ v
unfolding low_first number_in
number_low zero v rest l = omega (arith, pow-zero byte_limit)
number_low (suc k) v rest l =
    let few : v / byte_limit < byte_limit ^ k = (div-lt_iff_lt-mul {k = byte_limit} (omega arith)).1 (rw (pow-suc byte_limit k) at l) in
    rw (number_low k (v / byte_limit) rest few) (mod-add-div v byte_limit)

-- THE NUMBER OF BYTES: it fits, and they are its own
first_byte : (b : ℕ) (bs : List ℕ) → all_hold is_byte (b ∷ bs) ≡ true → b < byte_limit
unfolding is_byte
first_byte b bs h = ltb-true b byte_limit (all_first is_byte b bs h)

pub number_fits : (k : ℕ) (bs : List ℕ) → all_hold is_byte bs ≡ true → number_in k bs < byte_limit ^ k
unfolding number_in
number_fits zero bs h = omega (arith, pow-zero byte_limit)
number_fits (suc k) [] h = omega (arith, number_fits k [] h, pow-succ' byte_limit k)
number_fits (suc k) (b ∷ bs) h =
    omega (arith, first_byte b bs h, number_fits k bs (all_rest is_byte b bs h), pow-succ' byte_limit k)

pub low_number : (k : ℕ) (bs : List ℕ) → all_hold is_byte bs ≡ true → k ≤ length bs → low_first k (number_in k bs) ≡ take k bs
unfolding low_first number_in
low_number zero bs h l = refl
low_number (suc k) [] h l = absurd (not-suc-le-zero l)
low_number (suc k) (b ∷ bs) h l =
    let small = first_byte b bs h in
    rw (
      add-mul-mod_self_left b byte_limit (number_in k bs),
      mod-eq_of_lt small,
      add-mul-div_left b (number_in k bs) {y = byte_limit} (omega arith),
      div-eq_of_lt small,
      zero-add,
      low_number k bs (all_rest is_byte b bs h) (le_of_suc-le-suc l),
    )
