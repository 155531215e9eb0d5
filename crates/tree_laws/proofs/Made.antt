-- What load and split make: s complete trees, the smallest height, and the tags. Assumes nothing.
use mathlib.Core.Path.{◌≡◌, refl, ◌∙◌}
use mathlib.Core.List.{List}
use Prim.Native.Nat.{ℕ, zero, suc, ◌*◌, ◌^◌, ◌≤◌, ◌<◌}
use native.Mathlib.Nat.{pow-zero, mul-one, mul-le-mul_right, pow-le-pow_right, lt_of_not-le}
use native.Mathlib.Omega.{arith}
use lib.ListN.{length}
use Rattle.tree.specs.Forest.{spread, trees}
use Rattle.tree.specs.Book.{load_under, loaded}
use Rattle.tree.specs.Promise.{SplitsComplete, LoadSmallest, LoadTags, InsertionTags}
use Rattle.tree_laws.proofs.Spread.{trees_leaf_row, spread_zero, leaves_spread, complete_spread}
use Rattle.tree_laws.proofs.Load.{load_least, tags_loaded}
use Rattle.tree_laws.proofs.Flat.{trees_spread}
use Rattle.tree_laws.proofs.Insertion.{tags_inserted}

-- how many trees a spread row has
trees_made : (j r s : ℕ) (xs : List ℕ) → 2 ≤ r → length xs ≡ s * r ^ j → trees (spread j r xs) ≡ s
trees_made zero r s xs l n = rw spread_zero (trees_leaf_row xs ∙ (n ∙ rw (pow-zero, mul-one)))
trees_made (suc j) r s xs l n = trees_spread j r s xs l n

leaves_made : (j r s : ℕ) (xs : List ℕ) → 1 ≤ s → 2 ≤ r → length xs ≡ s * r ^ j → r ^ j ≤ length xs
leaves_made j r s xs some l n = omega (arith, mul-le-mul_right (r ^ j) some)

pub splits_complete : SplitsComplete
unfolding SplitsComplete
splits_complete s r j xs some l n =
    record {
      complete = complete_spread j r s xs l n;
      many = trees_made j r s xs l n;
      over = leaves_spread j r xs l (leaves_made j r s xs some l n);
    }

-- where the search ends is the smallest height
pub load_smallest : LoadSmallest
unfolding LoadSmallest loaded
load_smallest s r n l =
    let h = load_under r n in
    let m = load_least r n l in
    record {
      one = omega arith;
      fits = m.fits;
      least = λ i one fits. lower h m.least i one fits;
    }
  where
    lower : (h : ℕ) → ((i : ℕ) → h ≡ suc i → 2 * r ^ suc i ≤ n) → (i : ℕ) → 1 ≤ i → n < 2 * r ^ i → suc h ≤ i
    lower zero least i one fits = one
    lower (suc h) least i one fits =
        lt_of_not-le λ (low : i ≤ suc h).
        let grows : r ^ i ≤ r ^ suc h = pow-le-pow_right (omega arith) low in
        omega (arith, least h refl)

pub load_tags : LoadTags
unfolding LoadTags
load_tags s r n l = tags_loaded s r n l

pub insertion_tags : InsertionTags
unfolding InsertionTags
insertion_tags p x k h l = tags_inserted p x k h l
