-- Tables of s and r up to a height: what plans and the numbering of paths ask of them. Assumes nothing.
use mathlib.Core.Path.{◌≡◌, ◌∙◌}
use mathlib.Core.List.{List}
use Prim.Native.Nat.{ℕ, ◌*◌, ◌-◌, ◌^◌, ◌≤◌}
use native.Mathlib.Nat.{one-mul, mul-one, pow-zero, pow-succ'}
use native.Mathlib.Omega.{arith}
use Rattle.powers.specs.Tables.{entry, entry_limit, table}
use Rattle.shape.specs.Packed.{Packed, widths_in, lows_in, highs_in, s_in, r_in}
use Rattle.shape.specs.declared.Tables as by_height
use Rattle.powers.proofs.TableLaws.{table_at, table_bound}
use Rattle.shape.proofs.Fits.{Fits, product_range, widths_fit, highs_fit}
use Rattle.splits.specs.Needs.{SplitsFit}

abbrev pub TablesTo : (s r top : ℕ) → (tables : by_height.Tables) → Type 0
TablesTo s r top t = Packed t (table 1 (s * r - 1) top) (table 1 r top) (table s r top)

module _ {s r top : ℕ} (f : Fits s r top) (low : 1 ≤ top) {t : by_height.Tables} (packed : TablesTo s r top t) where
  lows_at : (h : ℕ) → h ≤ top → entry (lows_in t) h ≡ r ^ h
  lows_at h l = rw packed.lows_are (table_at 1 r top h l ∙ one-mul (r ^ h))

  highs_at : (h : ℕ) → h ≤ top → entry (highs_in t) h ≡ s * r ^ h
  highs_at h l = rw packed.highs_are (table_at s r top h l)

  pub r_said : r_in t ≡ r
  r_said = lows_at 1 low ∙ pow-succ' r 0 ∙ rw pow-zero (mul-one r)

  pub s_said : s_in t ≡ s
  s_said = highs_at 0 (omega arith) ∙ rw pow-zero (mul-one s)

  pub widths_most : (h : ℕ) → entry (widths_in t) h ≤ entry_limit
  widths_most h =
      rw packed.widths_are (omega (arith, table_bound 1 (s * r - 1) top (omega (arith, product_range f)) h, (widths_fit f).last))

  pub highs_most : (h : ℕ) → entry (highs_in t) h ≤ entry_limit
  highs_most h = rw packed.highs_are (omega (arith, table_bound s r top (omega (arith, f.r_least)) h, (highs_fit f).last))

  pub splits_said : (j : ℕ) → j ≤ top → SplitsFit j t
  splits_said j l =
      record {
        degree_s = rw s_said f.s_least;
        degree_r = rw r_said f.r_least;
        height = omega (arith, f.high);
        lows = λ h m. rw r_said (lows_at h (omega arith));
        highs = λ h m. rw (r_said, s_said) (highs_at h (omega arith));
      }
