-- The search for the least height with room for some tags, height by height. Assumes nothing.
use mathlib.Core.Path.{◌≡◌}
use Prim.Native.Nat.{ℕ, suc, ◌+◌, ◌*◌, ◌-◌, ◌^◌, ◌≤◌, ◌<◌}
use native.Mathlib.Nat.{mul-le-mul_left, mul_assoc, pow-suc}
use native.Mathlib.Omega.{arith}
use Rattle.shape.specs.Needs.{SearchFits}

-- the search has come to height top, whose limit is `most`; the one below has no room
pub record Searching (n limit r h top most : ℕ) : Type 0 where
  pub low : h ≤ top
  pub high : top ≤ h + most
  pub some : 1 ≤ most
  pub limit_is : most ≡ limit * r ^ (top - h)
  pub below : h < top → limit * r ^ (top - h - 1) ≤ n

module _ {n limit r h top most : ℕ} (f : SearchFits n limit r h) (a : Searching n limit r h top most) where
  double : most * 2 ≤ most * r
  double = mul-le-mul_left most f.least

  pub search_goes : most ≤ n → Searching n limit r h (top + 1) (most * r)
  search_goes l =
      let further : top + 1 - h ≡ suc (top - h) = omega (arith, a.low) in
      let back : suc (top - h) - 1 ≡ top - h = omega arith in
      record {
        low = omega (arith, a.low);
        high = omega (arith, a.high, double, a.some);
        some = omega (arith, double, a.some);
        limit_is = rw (further, a.limit_is, pow-suc, mul_assoc);
        below = λ m. rw (further, back, ← a.limit_is) l;
      }
