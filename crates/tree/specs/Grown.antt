-- A whole row of tags at one place, worked out without single insertions (document 02, CR 5): the book that inserting them tag
-- after tag, each right behind the one before, leaves (RowsGrow in Promise). The last tag put in is the cursor. A split at a
-- height leaves complete trees, so from then on each split at that height takes (s − 1) times r^j tags and leaves the cursor in
-- the last of its trees, at the same leaf of it; what is left of the row goes on one height lower.
-- Assumes nothing: these are definitions.
use Rattle.std.specs.Prelude.{◌≡◌, cond, List, ℕ, zero, suc, pred, ◌+◌, ◌*◌, ◌-◌, ◌/◌, ◌^◌, ◌≤◌, ltb, leb, eqb, length, take, drop}
use Rattle.tree.specs.Row.{insert_at}
use Rattle.tree.specs.Forest.{Forest, nil, leaf, node, leaves, size, joined, spread, leaf_row}
use Rattle.tree.specs.Book.{Book, height, tags}

-- of e tags behind a cursor in complete trees of height j: how many go in with splits at that height
unfoldable pub in_splits : (s r j e : ℕ) → ℕ
in_splits s r j e = let each = (s - 1) * r ^ j in e / each * each

-- the trees of height j over a row, complete but for the cursor's: the cursor is the c-th leaf, from 1 on, and its tree has e
-- leaves more, right behind it, which are spread the same way one height lower
unfoldable pub path : (s r j c e : ℕ) → List ℕ → Forest
path s r zero c e xs = leaf_row xs
path s r (suc j) c e xs =
    let each = r ^ suc j in
    let before = pred c / each * each in
    let t = in_splits s r j e in
    let mine = drop before xs in
    joined (spread (suc j) r (take before xs))
    (node (path s r j (c - before + t) (e - t) (take (each + e) mine)) (spread (suc j) r (drop (each + e) mine)))

-- where there are such trees over so many leaves: the cursor stands among those of complete trees
pub record PathFits (r j c e count : ℕ) : Type 0 where
  pub trees : ℕ
  pub whole : trees * r ^ j + e ≡ count
  pub low : 1 ≤ c
  pub high : c ≤ trees * r ^ j

-- A NODE of height h over l leaves, which k tags bring to its limit: how many go in with its splits, the first over all of its
-- leaves; and its trees afterwards, with new tags behind its first p leaves
unfoldable pub in_node : (s r h l k : ℕ) → ℕ
in_node s r h l k = let first = s * r ^ h - l in first + in_splits s r h (k - first)

unfoldable pub grown_node : (s r h p : ℕ) → (new row : List ℕ) → Forest
grown_node s r h p ns xs =
    let t = in_node s r h (length xs) (length ns) in path s r h (p + t) (length ns - t) (insert_at p ns xs)

-- IN A FOREST: the highest tree that k leaves more bring to its limit, 0 where there is none
unfoldable pub full_height : Forest → (s r j k p : ℕ) → ℕ
full_height nil s r j k p = 0
full_height (leaf z f) s r j k p = 0
full_height (node g f) s r j k p =
    let right = full_height f s r j k (p - size g) in
    let inside = full_height g s r (pred j) k p in
    cond (ltb (size g) p) right (cond (leb (s * r ^ j) (size g + k)) j inside)

-- with new tags behind the first p leaves, where that of height h grows; where h is 0 they stand beside the p-th leaf
unfoldable pub grown_in : Forest → (s r j h p : ℕ) → (new : List ℕ) → Forest
grown_in nil s r j h p ns = leaf_row ns
grown_in (leaf z f) s r j h p ns = leaf_row (insert_at p ns (leaves (leaf z f)))
grown_in (node g f) s r j h p ns =
    let right = grown_in f s r j h (p - size g) ns in
    let inside = grown_in g s r (pred j) h p ns in
    let split = grown_node s r j p ns (leaves g) in
    cond (ltb (size g) p) (node g right) (cond (eqb j h) (joined split f) (node inside f))

-- IN A BOOK: the least height from h on whose root has room for n tags, found in so many steps
unfoldable pub height_for : (steps s r n h : ℕ) → ℕ
height_for zero s r n h = h
height_for (suc m) s r n h = let higher = height_for m s r n (suc h) in cond (ltb n (s * r ^ h)) h higher

-- H afterwards: k steps suffice
abbrev pub grown_height : (k : ℕ) → Book → ℕ
grown_height k b = height_for k b.s b.r (size b.root + k) (height b)

-- the greatest height of a split: that of the root's last one, where the root is split at all
unfoldable pub grown_split : (k p : ℕ) → Book → ℕ
grown_split k p b =
    let top = grown_height k b in
    let inner = full_height b.root b.s b.r b.under k p in
    cond (ltb (height b) top) (pred top) inner

unfoldable pub grown : (p : ℕ) → (new : List ℕ) → Book → Book
grown p ns b =
    let h = grown_split (length ns) p b in
    let up : Book = record { s = b.s; r = b.r; under = h; root = grown_node b.s b.r h p ns (tags b) } in
    let inner : Book = record { s = b.s; r = b.r; under = b.under; root = grown_in b.root b.s b.r b.under h p ns } in
    cond (ltb (height b) (grown_height (length ns) b)) up inner
