-- A book as an L-Tree under its root (document 01, "The tree"): load, one insertion, a row of insertions, what moved.
-- Assumes nothing: these are definitions.
use Rattle.std.specs.Prelude.{Bool, ◌&&◌, ◌||◌, cond, List, [], ◌∷◌, ℕ, zero, suc, ◌*◌, ◌-◌, ◌^◌, max, ltb, leb, eqb, length, get_or}
use Rattle.lists.specs.Lists.{numbers}
use Rattle.tree.specs.Row.{place, insert_at, rises}
use Rattle.tree.specs.Forest.{Forest, leaves, size, labels, spread, put, full, within_limits}
use Rattle.tree.specs.Forest as forest

-- s and r; the height of the root's children, one less than document 01's H; and the root's children
pub record Book : Type 0 where
  pub s : ℕ
  pub r : ℕ
  pub under : ℕ
  pub root : Forest

-- H
abbrev pub height : Book → ℕ
height k = suc k.under

-- the tags in book order
abbrev pub tags : Book → List ℕ
tags k = leaves k.root

-- the labels in book order, the root's number being 0; width j is that of a child of height j
abbrev pub labels_of : (width : ℕ → ℕ) → Book → List ℕ
labels_of w k = labels k.root w k.under 0

-- whether the labels rise strictly, all below the width of H
abbrev pub labels_in_order : (width : ℕ → ℕ) → Book → Bool
labels_in_order w k = rises (w (height k)) (labels_of w k)

-- the label of a tag
unfoldable pub label_of : (width : ℕ → ℕ) → Book → (tag : ℕ) → ℕ
label_of w k x = get_or (labels_of w k) (place x (tags k)) 0

-- b = f − 1 with f = s times r, and document 01's widths: the powers of b
unfoldable pub base : (s r : ℕ) → ℕ
base s r = s * r - 1

unfoldable pub power_width : (s r : ℕ) → ℕ → ℕ
power_width s r j = base s r ^ j

-- LOAD. H is the smallest height of at least 1 with n < 2 times r^H: the search goes up from h + 1, and n steps suffice
unfoldable pub under_from : (steps h r n : ℕ) → ℕ
under_from zero h r n = h
under_from (suc k) h r n = let higher = under_from k (suc h) r n in cond (ltb n (2 * r ^ suc h)) h higher

unfoldable pub load_under : (r n : ℕ) → ℕ
load_under r n = under_from n 0 r n

-- the book of tags 0 to n − 1 in order
unfoldable pub loaded : (s r n : ℕ) → Book
loaded s r n = let h = load_under r n in record { s = s; r = r; under = h; root = spread h r (numbers 0 n) }

-- INSERTION of tag x behind the first p tags. A root that comes to its limit is split: a new root one higher holds the
-- s complete trees.
unfoldable pub root_full : Book → Bool
root_full k = full k.s k.r (height k) (size k.root)

unfoldable pub root_split : (p x : ℕ) → Book → Book
root_split p x k =
    record { s = k.s; r = k.r; under = height k; root = spread (height k) k.r (insert_at p (x ∷ []) (tags k)) }

unfoldable pub put_inside : (p x : ℕ) → Book → Book
put_inside p x k = record { s = k.s; r = k.r; under = k.under; root = put k.root k.s k.r k.under p x }

unfoldable pub inserted : (p x : ℕ) → Book → Book
inserted p x k = cond (root_full k) (root_split p x k) (put_inside p x k)

-- the height of the node split, 0 if none
unfoldable pub split_of : (p : ℕ) → Book → ℕ
split_of p k = cond (root_full k) (height k) (forest.split_height k.root k.s k.r k.under p)

-- A ROW of count tags x, x + 1, .. goes in one after the other, each right behind the one before
unfoldable pub inserted_row : (count p x : ℕ) → Book → Book
inserted_row zero p x k = k
inserted_row (suc n) p x k = inserted_row n (suc p) (suc x) (inserted p x k)

-- its split height: the greatest of the single ones
unfoldable pub split_of_row : (count p x : ℕ) → Book → ℕ
split_of_row zero p x k = 0
split_of_row (suc n) p x k = max (split_of p k) (split_of_row n (suc p) (suc x) (inserted p x k))

-- MOVED: the tags of a row whose labels in two books differ, and of a book's own tags those that another book moved
unfoldable pub moved_among : (width : ℕ → ℕ) → List ℕ → (before after : Book) → List ℕ
moved_among w [] k m = []
moved_among w (x ∷ xs) k m =
    let rest = moved_among w xs k m in cond (eqb (label_of w k x) (label_of w m x)) rest (x ∷ rest)

unfoldable pub moved : (width : ℕ → ℕ) → (before after : Book) → ℕ
moved w k m = length (moved_among w (tags k) k m)

-- LIMITS of a book: those of its nodes, and of the root l < s times r^H, and at least 2 times r^(H − 1) if H is 2 or more
unfoldable pub root_within : Book → Bool
root_within k =
    ltb (size k.root) (k.s * k.r ^ height k) && (eqb k.under 0 || leb (2 * k.r ^ k.under) (size k.root))

unfoldable pub book_within : Book → Bool
book_within k = root_within k && within_limits k.root k.s k.r k.under
