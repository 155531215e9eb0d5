-- The tables of s, r and H fit where the widest number does. Assumes nothing.
use mathlib.Core.Path.{◌≡◌}
use mathlib.Core.Bool.{true}
use Prim.Native.Nat.{ℕ, ◌*◌, ◌-◌, ◌^◌, ◌≤◌}
use native.Mathlib.Nat.{one-mul, mul-le-mul, mul-le-mul_right, pow-le-pow_left}
use native.Mathlib.Omega.{arith}
use borrow.Author.Tests.{leb-true}
use Rattle.store_types.specs.Limits.{label_limit, most_levels}
use Rattle.tree.specs.Book.{base, power_width}
use Rattle.calls.specs.Store.{labels_fit, power_fits}
use Rattle.powers.specs.Tables.{TableFits}

-- f is 4 to 256
pub degrees_product : {s r : ℕ} → 2 ≤ s → s ≤ 16 → 2 ≤ r → r ≤ 16 → (4 ≤ s * r) × (s * r ≤ 256)
degrees_product a b c d = (mul-le-mul a c, mul-le-mul b d)

-- s, r and H in their ranges, and labels that fit
pub record Fits (s r h : ℕ) : Type 0 where
  pub s_least : 2 ≤ s
  pub s_most : s ≤ 16
  pub r_least : 2 ≤ r
  pub r_most : r ≤ 16
  pub high : h ≤ most_levels
  pub labels : power_fits s r h ≡ true

pub product_range : {s r h : ℕ} → Fits s r h → (4 ≤ s * r) × (s * r ≤ 256)
product_range f = degrees_product f.s_least f.s_most f.r_least f.r_most

module _ {s r h : ℕ} (f : Fits s r h) where
  -- b^H is at most 2^32
  pub power_below : (s * r - 1) ^ h ≤ label_limit
  unfolding labels_fit power_width base
  power_below = leb-true ((s * r - 1) ^ h) label_limit f.labels

  -- r is below b
  pub lows_below : r ^ h ≤ label_limit
  lows_below =
      let less : r ≤ s * r - 1 = omega (arith, mul-le-mul_right r f.s_least, f.r_least) in
      omega (arith, pow-le-pow_left less h, power_below)

  pub widths_fit : TableFits 1 (s * r - 1) h
  widths_fit =
      record { height = omega (arith, f.high); grows = omega (arith, product_range f); last = rw (one-mul ((s * r - 1) ^ h)) (omega (arith, power_below)) }

  pub lows_fit : TableFits 1 r h
  lows_fit = record { height = omega (arith, f.high); grows = omega (arith, f.r_least); last = rw (one-mul (r ^ h)) (omega (arith, lows_below)) }

  pub highs_fit : TableFits s r h
  highs_fit = record { height = omega (arith, f.high); grows = omega (arith, f.r_least); last = omega (arith, mul-le-mul f.s_most lows_below) }
