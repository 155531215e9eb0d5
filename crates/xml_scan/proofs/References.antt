-- References, by the tests of their strings in order. Assumes nothing.
use mathlib.Core.Path.{◌≡◌, refl}
use mathlib.Core.Bool.{Bool, true, false}
use mathlib.Core.List.{List}
use Prim.Native.Nat.{ℕ, zero, suc}
use native.Mathlib.Omega.{arith}
use Rattle.std.specs.Prelude.{Some, None}
use Rattle.lists.specs.Lists.{first}
use Rattle.lists.specs.Fronts.{starts_with}
use Rattle.xml.specs.Bytes.{lt_name, gt_name, amp_name, apos_name, quot_name}
use Rattle.xml.specs.Grammar.{reference_text}
use Rattle.xml.specs.Scan.{reference_length}
use Rattle.xml_scan.specs.Post.{nonzero}

-- whether a text begins with the reference of a name
abbrev pub refers : (name : List ℕ) → List ℕ → Bool
refers n cs = starts_with (reference_text n) cs

module _ (cs : List ℕ) where
  pub is_lt : refers lt_name cs ≡ true → Some 4 ≡ nonzero (reference_length cs)
  unfolding reference_length first nonzero
  is_lt e = rw e

  module _ (no_lt : refers lt_name cs ≡ false) where
    pub is_gt : refers gt_name cs ≡ true → Some 4 ≡ nonzero (reference_length cs)
    unfolding reference_length first nonzero
    is_gt e = rw (no_lt, e)

    module _ (no_gt : refers gt_name cs ≡ false) where
      pub is_amp : refers amp_name cs ≡ true → Some 5 ≡ nonzero (reference_length cs)
      unfolding reference_length first nonzero
      is_amp e = rw (no_lt, no_gt, e)

      module _ (no_amp : refers amp_name cs ≡ false) where
        pub is_apos : refers apos_name cs ≡ true → Some 6 ≡ nonzero (reference_length cs)
        unfolding reference_length first nonzero
        is_apos e = rw (no_lt, no_gt, no_amp, e)

        module _ (no_apos : refers apos_name cs ≡ false) where
          pub is_quot : refers quot_name cs ≡ true → Some 6 ≡ nonzero (reference_length cs)
          unfolding reference_length first nonzero
          is_quot e = rw (no_lt, no_gt, no_amp, no_apos, e)

          pub is_no_reference : refers quot_name cs ≡ false → None ≡ nonzero (reference_length cs)
          unfolding reference_length first nonzero
          is_no_reference e = rw (no_lt, no_gt, no_amp, no_apos, e)

-- what is found of a length that is 0 where nothing stands
pub nonzero_none : (l : ℕ) → None ≡ nonzero l → l ≡ 0
unfolding nonzero
nonzero_none zero e = refl
nonzero_none (suc l) e = cc

pub nonzero_some : (l n : ℕ) → Some n ≡ nonzero l → (n ≡ l) × (n ≡ 0 → ⊥)
unfolding nonzero
nonzero_some zero n e = cc
nonzero_some (suc l) n e = let q : n ≡ suc l = cc in (q, λ z. omega arith)
