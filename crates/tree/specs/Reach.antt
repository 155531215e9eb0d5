-- The ancestors of a place: what the reach of an insertion is measured by (document 02, CR 11, stated for any widths); how many
-- tags one insertion moves at most, and all since a load.
-- Assumes nothing: these are definitions.
use Rattle.std.specs.Prelude.{cond, ℕ, zero, suc, pred, ◌+◌, ◌*◌, ◌-◌, ◌^◌, ltb, eqb}
use Rattle.tree.specs.Forest.{Forest, nil, leaf, node, size}
use Rattle.tree.specs.Book.{Book, height, split_of}

-- Of the tree of height h that a tag behind the first p leaves goes into: how many leaves stand left of it (at h = 0:
-- left of the new tag), and how many are under it
unfoldable pub left_in : Forest → (j h p : ℕ) → ℕ
left_in nil j h p = 0
left_in (leaf z f) j h p = p
left_in (node g f) j h p =
    let right = left_in f j h (p - size g) in
    let inside = left_in g (pred j) h p in
    cond (ltb (size g) p) (size g + right) (cond (eqb j h) 0 inside)

unfoldable pub size_in : Forest → (j h p : ℕ) → ℕ
size_in nil j h p = 0
size_in (leaf z f) j h p = 0
size_in (node g f) j h p =
    let right = size_in f j h (p - size g) in
    let inside = size_in g (pred j) h p in
    cond (ltb (size g) p) right (cond (eqb j h) (size g) inside)

-- the same in a book, where the root is the tree of height H
unfoldable pub left_of : (h p : ℕ) → Book → ℕ
left_of h p k = cond (ltb k.under h) 0 (left_in k.root k.under h p)

unfoldable pub size_of : (h p : ℕ) → Book → ℕ
size_of h p k = cond (ltb k.under h) (size k.root) (size_in k.root k.under h p)

-- where the renumbered part ends: the leaves left of, and under, the parent of the split node, or of the new tag where
-- no node is split
unfoldable pub border : (p : ℕ) → Book → ℕ
border p k = left_of (suc (split_of p k)) p k + size_of (suc (split_of p k)) p k

-- HOW MANY one insertion moves at most, by the height of the split: f − 2 where it is 0 and no node is split, s times
-- r^(j + 1) − 2 with a split at j below the root, s times r^j − 1 with a split of the root, where j is H
unfoldable pub reach_bound : (s r height split : ℕ) → ℕ
reach_bound s r h zero = s * r - 2
reach_bound s r h (suc j) = cond (eqb (suc j) h) (s * r ^ suc j - 1) (s * r ^ suc (suc j) - 2)

-- and s − 1 times what m insertions behind a load of n0 tags move together at most (demand 3)
abbrev pub account_bound : (s r n0 m height : ℕ) → ℕ
account_bound s r n0 m h = (s - 1) * (s * r * m + 2 * (n0 + m)) + s * r * ((h - 1) * m + n0)
