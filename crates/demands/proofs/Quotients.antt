-- Quotients of labels by the powers of b: the ancestors of a label. Assumes nothing.
use mathlib.Core.Path.{◌≡◌, sym}
use mathlib.Core.Logic.{◌↔◌}
use Prim.Native.Nat.{ℕ, zero, suc, ◌+◌, ◌*◌, ◌/◌, ◌%◌, ◌^◌, ◌≤◌, ◌<◌}
use native.Mathlib.Nat.{pow-suc, pow-zero, one-le-pow, div-one, mod-lt, mod-add-div', div-div-eq-div-mul, div-eq_of_lt-le, le-div_iff_mul-le, div-lt_iff_lt-mul, lt_of_not-le}
use native.Mathlib.Omega.{arith}

module _ (b : ℕ) (pos : 1 ≤ b) where
  pub power_pos : (j : ℕ) → 0 < b ^ j
  power_pos j = one-le-pow j b pos

  -- the ancestor of a height is under that of the next
  pub quotient_up : (j l : ℕ) → l / b ^ suc j ≡ l / b ^ j / b
  quotient_up j l = rw pow-suc (sym (div-div-eq-div-mul l (b ^ j) b))

  pub quotient_leaf : (l : ℕ) → l / b ^ 0 ≡ l
  quotient_leaf l = rw pow-zero (div-one l)

  -- labels with one ancestor have all above it
  same_more : (k h l m : ℕ) → m / b ^ h ≡ l / b ^ h → m / b ^ (h + k) ≡ l / b ^ (h + k)
  same_more zero h l m e = let z : h + 0 ≡ h = omega arith in rw z e
  same_more (suc k) h l m e =
      let z : h + suc k ≡ suc (h + k) = omega arith in
      rw (z, quotient_up (h + k) m, quotient_up (h + k) l, same_more k h l m e)

  pub same_above : (h j l m : ℕ) → h ≤ j → m / b ^ h ≡ l / b ^ h → m / b ^ j ≡ l / b ^ j
  same_above h j l m le e = let d : (k : ℕ) × (j ≡ h + k) = difference h j le in rw d.1 (same_more d.0 h l m e)
    where
      difference : (h j : ℕ) → h ≤ j → (k : ℕ) × (j ≡ h + k)
      difference zero j l = (j, omega arith)
      difference (suc h) zero l = absurd (omega arith)
      difference (suc h) (suc j) l = let d = difference h j (omega arith) in (d.0, omega (arith, d.1))

  -- where a label lies tells its quotient
  pub quotient_from : (c j l : ℕ) → (c ≤ l / b ^ j) ↔ (c * b ^ j ≤ l)
  quotient_from c j l = le-div_iff_mul-le (power_pos j)

  pub quotient_below : (c j l : ℕ) → (l / b ^ j < c) ↔ (l < c * b ^ j)
  quotient_below c j l = div-lt_iff_lt-mul (power_pos j)

  pub quotient_grows : (j l m : ℕ) → l ≤ m → l / b ^ j ≤ m / b ^ j
  quotient_grows j l m le =
      (quotient_from (l / b ^ j) j m).1 (omega (arith, (quotient_from (l / b ^ j) j l).0 (omega arith)))

  -- the left sibling of a node that is not the first child has the same parent
  pub sibling_parent : (p q : ℕ) → suc p ≡ q → (q % b ≡ 0 → ⊥) → p / b ≡ q / b
  sibling_parent p q e some =
      let whole = mod-add-div' q b in
      let low : 1 ≤ q % b = lt_of_not-le λ none. some (omega arith) in
      let high : q % b < b = mod-lt q pos in
      div-eq_of_lt-le b (omega arith) (omega arith)

  -- and back: same parent, and digits that follow
  pub sibling_next : (p q d : ℕ) → p / b ≡ q / b → p % b ≡ d → q % b ≡ suc d → suc p ≡ q
  sibling_next p q d same x y =
      let own = mod-add-div' p b in
      let other = mod-add-div' q b in
      let parents : p / b * b ≡ q / b * b = rw same in
      omega arith

  pub sibling_digit : (p q d : ℕ) → suc p ≡ q → q % b ≡ suc d → p % b ≡ d
  sibling_digit p q d e y =
      let same = sibling_parent p q e (λ z. omega arith) in
      let own = mod-add-div' p b in
      let other = mod-add-div' q b in
      let parents : p / b * b ≡ q / b * b = rw same in
      omega arith
