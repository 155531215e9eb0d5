-- What a split takes; and a path of trees cut up into what stands left of the cursor's, its own tree, and what stands behind it. Assumes
-- nothing.
use mathlib.Core.Path.{◌≡◌, ap, ◌∙◌}
use Prim.Native.Nat.{ℕ, zero, suc, pred, ◌+◌, ◌*◌, ◌-◌, ◌/◌, ◌^◌, ◌≤◌}
use native.Mathlib.Nat.{suc-mul, one-mul, mul-le-mul_right}
use native.Mathlib.Omega.{arith}
use Rattle.powers.specs.Tables.{entry}
use Rattle.shape.specs.Packed.{lows_in, s_in, r_in}
use Rattle.shape.specs.declared.Tables as by_height
use Rattle.tree.specs.Grown.{in_splits}
use Rattle.tree_laws.proofs.Spread.{some_power}
use Rattle.tree_laws.proofs.PathLaws.{path_below}
use Rattle.splits.specs.Needs.{SplitsFit, PathFit}

-- A LIMIT LESS THE LEAST LEAVES is what a split takes
pub split_takes : (s r j hi lo : ℕ) → 1 ≤ s → hi ≡ s * r ^ j → lo ≡ r ^ j → hi ≡ lo + (s - 1) * r ^ j
split_takes s r j hi lo some e f =
    let one_more : s ≡ suc (s - 1) = omega arith in
    omega (arith, ap (λ (m : ℕ). m * r ^ j) one_more, suc-mul (s - 1) (r ^ j))

pub split_some : (s r j : ℕ) → 2 ≤ s → 2 ≤ r → 1 ≤ (s - 1) * r ^ j
split_some s r j s_least r_least =
    let least = some_power r j r_least in
    let more : 1 ≤ s - 1 = omega arith in
    omega (arith, mul-le-mul_right (r ^ j) more, one-mul (r ^ j))

-- THE PARTS in numbers, where each is the least leaves of a node of height j
pub record CutUp (s r j count c e each : ℕ) : Type 0 where
  pub some : 1 ≤ each
  pub each_is : each ≡ r ^ j
  pub fits : pred c / each * each + (each + e) ≤ count
  pub above : pred c / each * each ≤ c
  pub within : c ≤ pred c / each * each + each
  pub split : in_splits s r (pred j) e ≤ e
  pub most : count ≤ 200000

pub cut_up : {j count c e each : ℕ} {t : by_height.Tables} → 1 ≤ j → PathFit j count c e t → each ≡ entry (lows_in t) j → CutUp (s_in t) (r_in t) j count c e each
cut_up {j} {count} {c} {e} {each} {t} low h is = go j low h (is ∙ h.splits.lows j (omega arith))
  where
    go : (j : ℕ) → 1 ≤ j → PathFit j count c e t → each ≡ r_in t ^ j → CutUp (s_in t) (r_in t) j count c e each
    go zero low h power = absurd (omega arith)
    go (suc i) low h power =
        let d = path_below (s_in t) h.splits.degree_r h.path in
        record {
          some = omega (arith, some_power (r_in t) (suc i) h.splits.degree_r);
          each_is = power;
          fits = rw power d.fits;
          above = rw power (omega (arith, d.above));
          within = rw power d.within;
          split = d.splits_fit;
          most = h.most;
        }

-- tables that suffice for a height do for those below it
pub splits_lower : {j : ℕ} {t : by_height.Tables} → SplitsFit j t → (i : ℕ) → i ≤ j → SplitsFit i t
splits_lower h i l =
    record {
      degree_s = h.degree_s;
      degree_r = h.degree_r;
      height = omega (arith, h.height);
      lows = λ k m. h.lows k (omega arith);
      highs = λ k m. h.highs k (omega arith);
    }
