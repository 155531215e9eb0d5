-- One bit more in a word, and one number more in a set. Assumes nothing.
use mathlib.Core.Path.{◌≡◌, refl, ap, sym, ◌∙◌}
use mathlib.Core.Bool.{◌||◌}
use mathlib.Core.List.{List, ◌∷◌, []}
use mathlib.Core.Logic.{by_cases}
use Prim.Native.Nat.{ℕ, zero, suc, ◌*◌, ◌/◌, ◌%◌, ◌^◌, ◌≤◌, ◌<◌, max}
use native.Mathlib.Nat.{pow-zero, pow-succ', pow-le-pow_right, div-one, div-div-eq-div-mul, mul-add-div_right, mul-add-mod_self_right, mul-div_cancel_left, mul-mod_right, zero-div, div-eq_of_lt, mod-eq_of_lt, max-le, max-zero, le-max_right, one-mul, add-zero}
use native.Mathlib.Decide.{ℕ_discrete}
use native.Mathlib.Omega.{arith}
use borrow.Author.Tests.{eq-eqb, ne_eqb}
use lib.Bits.{bit_or, or_step}
use lib.Dec.{eqb}
use lib.ListN.{length, get_or, set, replicate, length-set, get_or-replicate, length-replicate, get_or-eq_default}
use lib.Seq.{get_or-set_same, get_or-set_other}
use native.Mathlib.Decide.{dec_le}
use Rattle.store_types.specs.Limits.{most_tags}
use Rattle.tree.specs.Row.{member}
use Rattle.number_set.specs.Bits.{word_bits, set_words, bit, in_set, Holds}

-- BITS of two words joined
half : (a j : ℕ) → a / 2 ^ suc j ≡ a / 2 / 2 ^ j
half a j = rw (pow-succ' 2 j) (sym (div-div-eq-div-mul a 2 (2 ^ j)))

low_joined : (a b : ℕ) → max (a % 2) (b % 2) < 2
low_joined a b =
    let both : max (a % 2) (b % 2) ≤ 1 = max-le (omega arith) (omega arith) in
    omega arith

or_half : (a b : ℕ) → bit_or a b / 2 ≡ bit_or (a / 2) (b / 2)
or_half a b = rw (or_step a b, mul-add-div_right {m = 2} (omega arith) (bit_or (a / 2) (b / 2)) (max (a % 2) (b % 2)), div-eq_of_lt (low_joined a b)) (add-zero _)

or_low : (a b : ℕ) → bit_or a b % 2 ≡ max (a % 2) (b % 2)
or_low a b = rw (or_step a b, mul-add-mod_self_right (bit_or (a / 2) (b / 2)) 2 (max (a % 2) (b % 2))) (mod-eq_of_lt (low_joined a b))

or_bit : (j a b : ℕ) → bit (bit_or a b) j ≡ max (bit a j) (bit b j)
or_bit zero a b = rw (pow-zero 2, div-one (bit_or a b), div-one a, div-one b) (or_low a b)
or_bit (suc j) a b = rw (half (bit_or a b) j, half a j, half b j, or_half a b) (or_bit j (a / 2) (b / 2))

-- a power of 2 has its one bit
power_own : (k : ℕ) → bit (2 ^ k) k ≡ 1
power_own zero = refl
power_own (suc k) = rw (half (2 ^ suc k) k, pow-succ' 2 k, mul-div_cancel_left (2 ^ k) {n = 2} (omega arith)) (power_own k)

power_other : (k j : ℕ) → (j ≡ k → ⊥) → bit (2 ^ k) j ≡ 0
power_other zero zero ne = absurd (ne refl)
power_other zero (suc j) ne = rw (half 1 j, zero-div (2 ^ j))
power_other (suc k) zero ne = rw (pow-zero 2, div-one (2 ^ suc k), pow-succ' 2 k) (mul-mod_right 2 (2 ^ k))
power_other (suc k) (suc j) ne =
    rw (half (2 ^ suc k) j, pow-succ' 2 k, mul-div_cancel_left (2 ^ k) {n = 2} (omega arith)) (power_other k j (λ e. ne (ap suc e)))

-- as the code writes it
mask : (x : ℕ) → 1 * 2 ^ (x % word_bits) % 4294967296 ≡ 2 ^ (x % word_bits)
mask x =
    let small : x % word_bits ≤ 31 = omega arith in
    let below : 2 ^ (x % word_bits) ≤ 2 ^ 31 = pow-le-pow_right {n = 2} (omega arith) small in
    rw (one-mul (2 ^ (x % word_bits))) (mod-eq_of_lt (omega arith))

-- ONE NUMBER MORE
added : (bits : List ℕ) (x y : ℕ) → x / word_bits < length bits →
    in_set (set bits (x / word_bits) (bit_or (get_or bits (x / word_bits) 0) (1 * 2 ^ (x % word_bits) % 4294967296))) y ≡ (eqb y x || in_set bits y)
unfolding in_set
added bits x y inside =
    let w = get_or bits (x / word_bits) 0 in
    by_cases (ℕ_discrete (y / word_bits) (x / word_bits))
    (λ same. rw (mask x, same, get_or-set_same bits (x / word_bits) (bit_or w (2 ^ (x % word_bits))) 0 inside, or_bit (y % word_bits) w (2 ^ (x % word_bits)))
    (by_cases (ℕ_discrete (y % word_bits) (x % word_bits))
    (λ own. let e : y ≡ x = omega arith in
    rw (eq-eqb y x e, own, power_own (x % word_bits), ne_eqb (max (bit w (x % word_bits)) 1) 0 (λ z. omega (arith, le-max_right (bit w (x % word_bits)) 1))))
    (λ other. rw (ne_eqb y x (λ z. other (rw z)), power_other (x % word_bits) (y % word_bits) other, max-zero (bit w (y % word_bits))))))
    (λ apart. rw (mask x, get_or-set_other bits (x / word_bits) (y / word_bits) (bit_or w (2 ^ (x % word_bits))) 0 apart, ne_eqb y x (λ z. apart (rw z))))

-- a set of a list, with one number more
pub holds_more : {bits xs : List ℕ} (x : ℕ) → x < most_tags → Holds bits xs →
    Holds (set bits (x / word_bits) (bit_or (get_or bits (x / word_bits) 0) (1 * 2 ^ (x % word_bits) % 4294967296))) (x ∷ xs)
unfolding member
holds_more {bits} x small h =
    let inside : x / word_bits < length bits = omega (arith, h.long) in
    record { long = length-set bits (x / word_bits) _ ∙ h.long; tells = λ y. added bits x y inside ∙ rw (h.tells y) }

-- and the empty one
pub holds_none : Holds (replicate {A = ℕ} set_words 0) []
unfolding in_set member
holds_none =
    let many = length-replicate {A = ℕ} set_words 0 in
    record {
      long = many;
      tells = λ x. let none : get_or {A = ℕ} (replicate set_words 0) (x / word_bits) 0 ≡ 0 =
          by_cases (dec_le (suc (x / word_bits)) set_words) (λ l. get_or-replicate set_words (x / word_bits) 0 0 l)
          (λ l. get_or-eq_default (replicate set_words 0) 0 {n = x / word_bits} (omega (arith, many))) in
          rw (none, zero-div (2 ^ (x % word_bits)));
    }
