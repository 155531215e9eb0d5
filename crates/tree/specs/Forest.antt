-- The L-Tree (document 01, "The tree"): leaves, labels, complete trees, insertion with its split, and the limits of a node.
-- Assumes nothing: these are definitions.
use Rattle.std.specs.Prelude.{Bool, true, false, ◌&&◌, cond, List, [], ◌∷◌, ◌++◌, ℕ, zero, suc, pred, ◌+◌, ◌*◌, ◌-◌, ◌/◌, ◌^◌, ltb, leb, eqb, length, take, drop}
use Rattle.tree.specs.Row.{insert_at}

-- The children of one node in order: each is a leaf, which holds a tag number, or a node over children of its own.
-- All children of a node have one height; a leaf's is 0. Functions take the height of the forest's trees as j.
pub data Forest : Type 0 where
  nil : Forest
  leaf : (tag : ℕ) → (right : Forest) → Forest
  node : (children right : Forest) → Forest

-- the tags under a forest, in book order
unfoldable pub leaves : Forest → List ℕ
leaves nil = []
leaves (leaf x f) = x ∷ leaves f
leaves (node g f) = leaves g ++ leaves f

-- l: the number of leaves under a node
abbrev pub size : Forest → ℕ
size f = length (leaves f)

-- how many trees stand side by side in a forest
abbrev pub trees : Forest → ℕ
trees nil = 0
trees (leaf x f) = suc (trees f)
trees (node g f) = suc (trees f)

-- the labels of the leaves, in book order: a node's i-th child of height j has the node's number plus i times width j
-- (document 01: b^j), and a leaf's number is its label; a is the number of the forest's first tree
unfoldable pub labels : Forest → (width : ℕ → ℕ) → (j a : ℕ) → List ℕ
labels nil w j a = []
labels (leaf x f) w j a = a ∷ labels f w j (a + w j)
labels (node g f) w j a = labels g w (pred j) a ++ labels f w j (a + w j)

-- the trees of one forest, then those of another
unfoldable pub joined : Forest → Forest → Forest
joined nil g = g
joined (leaf x f) g = leaf x (joined f g)
joined (node h f) g = node h (joined f g)

-- a leaf for each tag
unfoldable pub leaf_row : List ℕ → Forest
leaf_row [] = nil
leaf_row (x ∷ xs) = leaf x (leaf_row xs)

-- count nodes over a row: each over `each` leaves in order, the last over all that remain
unfoldable pub parts : (count each : ℕ) → (under : List ℕ → Forest) → List ℕ → Forest
parts zero e g xs = nil
parts (suc zero) e g xs = node (g xs) nil
parts (suc (suc k)) e g xs = node (g (take e xs)) (parts (suc k) e g (drop e xs))

-- The trees of height j over a row: l / r^j of them, each over r^j leaves in order, the last over all that remain, and
-- so at each height below. Over s times r^j leaves these are the s complete r-ary trees of a split.
unfoldable pub spread : (j r : ℕ) → List ℕ → Forest
spread zero r xs = leaf_row xs
spread (suc j) r xs = parts (length xs / r ^ suc j) (r ^ suc j) (λ ys. spread j r ys) xs

-- whether a node of height j over so many leaves comes to its limit with one leaf more
abbrev pub full : (s r j size : ℕ) → Bool
full s r j l = eqb (suc l) (s * r ^ j)

-- INSERTION of one tag x behind the first p leaves: beside the p-th leaf, as its right sibling, or, where p is 0, as
-- first child of the leftmost node of height 1. The highest node that comes to its limit is split: it is replaced by s
-- complete trees over the same leaves. Nothing below it is looked at.
unfoldable pub put : Forest → (s r j p x : ℕ) → Forest
put nil s r j p x = leaf x nil
put (leaf z f) s r j zero x = leaf x (leaf z f)
put (leaf z f) s r j (suc p) x = leaf z (put f s r j p x)
put (node g f) s r j p x =
    let right = put f s r j (p - size g) x in
    let inside = put g s r (pred j) p x in
    let split = spread j r (insert_at p (x ∷ []) (leaves g)) in
    cond (ltb (size g) p) (node g right) (cond (full s r j (size g)) (joined split f) (node inside f))

-- the height of the node that this splits, 0 if none
unfoldable pub split_height : Forest → (s r j p : ℕ) → ℕ
split_height nil s r j p = 0
split_height (leaf z f) s r j p = 0
split_height (node g f) s r j p =
    let right = split_height f s r j (p - size g) in
    let inside = split_height g s r (pred j) p in
    cond (ltb (size g) p) right (cond (full s r j (size g)) j inside)

-- LIMITS: all leaves have height 0, and a node of height j is over at least r^j leaves and fewer than s times r^j
unfoldable pub within_limits : Forest → (s r j : ℕ) → Bool
within_limits nil s r j = true
within_limits (leaf x f) s r zero = within_limits f s r zero
within_limits (leaf x f) s r (suc j) = false
within_limits (node g f) s r zero = false
within_limits (node g f) s r (suc j) =
    (leb (r ^ suc j) (size g) && ltb (size g) (s * r ^ suc j)) && (within_limits g s r j && within_limits f s r (suc j))
