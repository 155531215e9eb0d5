-- The trees over a row that are complete but for the cursor's (specs/Grown.antt): the one of the cursor between those left and right
-- of it, their leaves, how many there are, that their labels depend only on how many leaves there are, and such trees after the splits
-- of a node. Assumes nothing.
use mathlib.Core.Path.{◌≡◌, refl, ap, sym, ◌∙◌}
use mathlib.Core.List.{List, [], ◌∷◌, ◌++◌}
use Prim.Native.Nat.{ℕ, zero, suc, pred, ◌+◌, ◌*◌, ◌-◌, ◌/◌, ◌^◌, ◌≤◌, ◌<◌}
use native.Mathlib.Nat.{suc-mul, add-mul, mul_assoc, pow-succ', div-mul-le_self, lt-div-mul-add, lt_of_mul-lt-mul_right, mul-div_cancel, div-eq_of_eq-mul_left}
use native.Mathlib.Omega.{arith}
use lib.ListN.{length, take, drop, length-take, length-drop, take-append-drop}
use lib.Seq.{length-take-le, take_at, drop_at}
use Rattle.tree.specs.Forest.{Forest, node, leaves, labels, joined, leaf_row, parts, spread, trees}
use Rattle.tree.specs.Grown.{in_splits, path, PathFits, in_node}
use Rattle.tree_laws.proofs.Spread.{leaves_joined, trees_joined, leaves_leaf_row, spread_suc, some_power}
use Rattle.tree_laws.proofs.Labels.{labels_joined}
use Rattle.tree_laws.proofs.Flat.{trees_parts, trees_spread}
use Rattle.tree_laws.proofs.Aligned.{leaves_whole}

-- the splits of e tags take no more, each takes whole trees, and what is left is less than one takes
module _ (s r j e : ℕ) where
  pub splits_most : in_splits s r j e ≤ e
  unfolding in_splits
  splits_most = div-mul-le_self e ((s - 1) * r ^ j)

  pub splits_trees : in_splits s r j e ≡ e / ((s - 1) * r ^ j) * (s - 1) * r ^ j
  unfolding in_splits
  splits_trees = sym (mul_assoc (e / ((s - 1) * r ^ j)) (s - 1) (r ^ j))

  pub splits_rest : 1 ≤ (s - 1) * r ^ j → e < in_splits s r j e + (s - 1) * r ^ j
  unfolding in_splits
  splits_rest some = lt-div-mul-add {a = e} some

-- THE PARTS OF A ROW under trees of height j + 1: the leaves before the cursor's tree, which are whole trees; that tree's, with
-- those that are spread one height lower; and those behind it, which are whole trees again
abbrev pub path_before : (r j c : ℕ) → ℕ
path_before r j c = pred c / r ^ suc j * r ^ suc j

pub record PathParts (s r j c e count : ℕ) : Type 0 where
  pub behind : ℕ
  pub whole : path_before r j c + ((r ^ suc j + e) + behind * r ^ suc j) ≡ count
  pub fits : path_before r j c + (r ^ suc j + e) ≤ count
  pub behind_is : count - path_before r j c - (r ^ suc j + e) ≡ behind * r ^ suc j
  pub above : path_before r j c < c
  pub within : c ≤ path_before r j c + r ^ suc j
  pub splits_fit : in_splits s r j e ≤ e
  pub below : PathFits r j (c - path_before r j c + in_splits s r j e) (e - in_splits s r j e) (r ^ suc j + e)

-- a number below m times e is among the first m parts of e
part_below : (c e m : ℕ) → 1 ≤ e → c < m * e → c / e < m
part_below c e m some l = lt_of_mul-lt-mul_right e (omega (arith, div-mul-le_self c e))

pub path_below : (s : ℕ) {r j c e count : ℕ} → 2 ≤ r → PathFits r (suc j) c e count → PathParts s r j c e count
path_below s {r} {j} {c} {e} {count} r_least h =
    let each = r ^ suc j in
    let some = some_power r (suc j) r_least in
    let i = pred c / each in
    let m = h.trees in
    let inside : i < m = part_below (pred c) each m some (omega (arith, h.low, h.high)) in
    let left : m ≡ i + suc (m - suc i) = omega arith in
    let cut : m * each ≡ i * each + suc (m - suc i) * each = ap (λ (n : ℕ). n * each) left ∙ add-mul i (suc (m - suc i)) each in
    let low = div-mul-le_self (pred c) each in
    let high = lt-div-mul-add {a = pred c} some in
    let fit = splits_most s r j e in
    let t = in_splits s r j e in
    let n = e / ((s - 1) * r ^ j) * (s - 1) in
    let all : (r + n) * r ^ j ≡ each + t = add-mul r n (r ^ j) ∙ omega (arith, pow-succ' r j, splits_trees s r j e) in
    record {
      behind = m - suc i;
      whole = omega (arith, suc-mul (m - suc i) each, h.whole);
      fits = omega (arith, suc-mul (m - suc i) each, h.whole);
      behind_is = omega (arith, suc-mul (m - suc i) each, h.whole);
      splits_fit = fit;
      above = omega (arith, h.low);
      within = omega (arith, h.low);
      below = record { trees = r + n; whole = omega arith; low = omega (arith, h.low); high = omega (arith, h.low) };
    }

-- the row in these parts
abbrev pub part_before : (r j c : ℕ) → List ℕ → List ℕ
part_before r j c xs = take (path_before r j c) xs

abbrev pub part_own : (r j c e : ℕ) → List ℕ → List ℕ
part_own r j c e xs = take (r ^ suc j + e) (drop (path_before r j c) xs)

abbrev pub part_behind : (r j c e : ℕ) → List ℕ → List ℕ
part_behind r j c e xs = drop (r ^ suc j + e) (drop (path_before r j c) xs)

pub parts_whole : (r j c e : ℕ) (xs : List ℕ) → part_before r j c xs ++ (part_own r j c e xs ++ part_behind r j c e xs) ≡ xs
parts_whole r j c e xs = rw (take-append-drop (r ^ suc j + e) (drop (path_before r j c) xs)) (take-append-drop (path_before r j c) xs)

module _ {s r j c e : ℕ} (xs : List ℕ) (d : PathParts s r j c e (length xs)) where
  pub before_long : length (part_before r j c xs) ≡ path_before r j c
  before_long = length-take-le (path_before r j c) xs (omega (arith, d.fits))

  pub own_long : length (part_own r j c e xs) ≡ r ^ suc j + e
  own_long = length-take-le (r ^ suc j + e) (drop (path_before r j c) xs) (rw length-drop (omega (arith, d.fits)))

  pub behind_long : length (part_behind r j c e xs) ≡ d.behind * r ^ suc j
  behind_long = simp length-drop d.behind_is

-- the clauses of `path`
pub path_zero : (s r c e : ℕ) (xs : List ℕ) → path s r 0 c e xs ≡ leaf_row xs
unfolding path
path_zero s r c e xs = refl

module _ (s r j c e : ℕ) where
  pub path_suc : (xs : List ℕ) → path s r (suc j) c e xs
      ≡ joined (spread (suc j) r (part_before r j c xs))
      (node (path s r j (c - path_before r j c + in_splits s r j e) (e - in_splits s r j e) (part_own r j c e xs)) (spread (suc j) r (part_behind r j c e xs)))
  unfolding path
  path_suc xs = refl

  -- over a row that is given in its parts
  pub path_node : (before own behind : List ℕ) → length before ≡ path_before r j c → length own ≡ r ^ suc j + e →
      path s r (suc j) c e (before ++ (own ++ behind))
      ≡ joined (spread (suc j) r before) (node (path s r j (c - path_before r j c + in_splits s r j e) (e - in_splits s r j e) own) (spread (suc j) r behind))
  path_node before own behind n m =
      let b = path_before r j c in
      let l = r ^ suc j + e in
      rw (path_suc (before ++ (own ++ behind)), take_at before (own ++ behind) b n, drop_at before (own ++ behind) b n, take_at own behind l m, drop_at own behind l m)

-- THE LEAVES are the row
pub leaves_path : (s r j c e : ℕ) (xs : List ℕ) → 2 ≤ r → PathFits r j c e (length xs) → leaves (path s r j c e xs) ≡ xs
unfolding leaves
leaves_path s r zero c e xs r_least h = rw (path_zero s r c e xs) (leaves_leaf_row xs)
leaves_path s r (suc j) c e xs r_least h =
    let d = path_below s r_least h in
    let t = in_splits s r j e in
    let inner = leaves_path s r j (c - path_before r j c + t) (e - t) (part_own r j c e xs) r_least (rw (own_long xs d) d.below) in
    rw (
      path_suc s r j c e xs,
      leaves_joined (spread (suc j) r (part_before r j c xs)),
      leaves_whole j r (pred c / r ^ suc j) (part_before r j c xs) r_least (before_long xs d),
      inner,
      leaves_whole j r d.behind (part_behind r j c e xs) r_least (behind_long xs d),
    ) (parts_whole r j c e xs)

-- HOW MANY TREES there are
pub trees_path : (s r j c e : ℕ) (xs : List ℕ) → 2 ≤ r → (h : PathFits r (suc j) c e (length xs)) → trees (path s r (suc j) c e xs) ≡ h.trees
trees_path s r j c e xs r_least h =
    let d = path_below s r_least h in
    let each = r ^ suc j in
    let i = pred c / each in
    let before = trees_spread j r i (part_before r j c xs) r_least (before_long xs d) in
    let behind = trees_spread j r d.behind (part_behind r j c e xs) r_least (behind_long xs d) in
    let same : (i + suc d.behind) * each ≡ h.trees * each = add-mul i (suc d.behind) each ∙ omega (arith, suc-mul d.behind each, d.whole, h.whole) in
    rw (path_suc s r j c e xs, trees_joined (spread (suc j) r (part_before r j c xs))) (omega (arith, same_factor (i + suc d.behind) h.trees each (some_power r (suc j) r_least) same))
  where
    same_factor : (m n e : ℕ) → 1 ≤ e → m * e ≡ n * e → m ≡ n
    same_factor m n e some q = sym (mul-div_cancel m some) ∙ ap (λ (l : ℕ). l / e) q ∙ mul-div_cancel n some

-- THE LABELS depend only on how many tags there are: first those of whole trees
leaf_labels : (w : ℕ → ℕ) (xs ys : List ℕ) (j a : ℕ) → length xs ≡ length ys → labels (leaf_row xs) w j a ≡ labels (leaf_row ys) w j a
unfolding labels leaf_row
leaf_labels w [] [] j a e = refl
leaf_labels w [] (y ∷ ys) j a e = absurd (omega arith)
leaf_labels w (x ∷ xs) [] j a e = absurd (omega arith)
leaf_labels w (x ∷ xs) (y ∷ ys) j a e = rw (leaf_labels w xs ys j (a + w j) (omega arith))

parts_labels : (w : ℕ → ℕ) (c e j : ℕ) (g : List ℕ → Forest) →
    ((us vs : List ℕ) (b : ℕ) → length us ≡ length vs → labels (g us) w j b ≡ labels (g vs) w j b) → (xs ys : List ℕ) (a : ℕ) → length xs ≡ length ys →
    labels (parts c e g xs) w (suc j) a ≡ labels (parts c e g ys) w (suc j) a
unfolding labels parts
parts_labels w zero e j g under xs ys a same = refl
parts_labels w (suc zero) e j g under xs ys a same = rw (under xs ys a same)
parts_labels w (suc (suc c)) e j g under xs ys a same =
    rw (under (take e xs) (take e ys) a (simp (length-take, same)), parts_labels w (suc c) e j g under (drop e xs) (drop e ys) (a + w (suc j)) (simp (length-drop, same)))

spread_labels : (w : ℕ → ℕ) (j r : ℕ) (xs ys : List ℕ) (a : ℕ) → length xs ≡ length ys → labels (spread j r xs) w j a ≡ labels (spread j r ys) w j a
unfolding spread
spread_labels w zero r xs ys a e = leaf_labels w xs ys 0 a e
spread_labels w (suc j) r xs ys a e = rw e (parts_labels w (length ys / r ^ suc j) (r ^ suc j) j (λ zs. spread j r zs) (λ us vs b same. spread_labels w j r us vs b same) xs ys a e)

spread_trees : (j r : ℕ) (xs : List ℕ) → trees (spread (suc j) r xs) ≡ length xs / r ^ suc j
spread_trees j r xs = rw (spread_suc j r (length xs / r ^ suc j) xs refl) (trees_parts (length xs / r ^ suc j) (r ^ suc j) (λ ys. spread j r ys) xs)

pub path_labels : (w : ℕ → ℕ) (s r j c e : ℕ) (xs ys : List ℕ) (a : ℕ) → length xs ≡ length ys → labels (path s r j c e xs) w j a ≡ labels (path s r j c e ys) w j a
unfolding labels
path_labels w s r zero c e xs ys a same = rw (path_zero s r c e xs, path_zero s r c e ys) (leaf_labels w xs ys 0 a same)
path_labels w s r (suc j) c e xs ys a same =
    let t = in_splits s r j e in
    let before : length (part_before r j c xs) ≡ length (part_before r j c ys) = simp (length-take, same) in
    let own : length (part_own r j c e xs) ≡ length (part_own r j c e ys) = simp (length-take, length-drop, same) in
    let behind : length (part_behind r j c e xs) ≡ length (part_behind r j c e ys) = simp (length-drop, same) in
    rw (
      path_suc s r j c e xs,
      path_suc s r j c e ys,
      labels_joined (spread (suc j) r (part_before r j c xs)),
      labels_joined (spread (suc j) r (part_before r j c ys)),
      spread_trees j r (part_before r j c xs),
      spread_trees j r (part_before r j c ys),
      before,
      spread_labels w (suc j) r (part_before r j c xs) (part_before r j c ys) a before,
      path_labels w s r j (c - path_before r j c + t) (e - t) (part_own r j c e xs) (part_own r j c e ys) _ own,
      spread_labels w (suc j) r (part_behind r j c e xs) (part_behind r j c e ys) _ behind,
    )

-- AFTER THE SPLITS OF A NODE of height h over l leaves, which k tags behind its first p bring to its limit
pub record NodeFits (s r h p l k : ℕ) : Type 0 where
  pub most : in_node s r h l k ≤ k
  pub fits : PathFits r h (p + in_node s r h l k) (k - in_node s r h l k) (l + k)
  pub trees_are : (l + in_node s r h l k) / r ^ h ≡ fits.trees
  pub some : 1 ≤ fits.trees

pub node_fits : (s r h p l k : ℕ) → 2 ≤ s → 2 ≤ r → p ≤ l → l < s * r ^ h → s * r ^ h ≤ l + k → NodeFits s r h p l k
unfolding in_node
node_fits s r h p l k s_least r_least place room full =
    let limit = s * r ^ h in
    let e = k - (limit - l) in
    let n = e / ((s - 1) * r ^ h) * (s - 1) in
    let all : (s + n) * r ^ h ≡ limit + in_splits s r h e = add-mul s n (r ^ h) ∙ omega (arith, splits_trees s r h e) in
    let fit = splits_most s r h e in
    record {
      most = omega arith;
      fits = record { trees = s + n; whole = omega arith; low = omega arith; high = omega arith };
      trees_are = div-eq_of_eq-mul_left (some_power r h r_least) (omega arith);
      some = omega arith;
    }
