-- The tree that labels along a row spell (document 01, "Sound means": the digits of the labels spell a tree).
-- It is right where some tree within its limits has these tags and labels; whoever reads tests that.
-- Assumes nothing: these are definitions.
use Rattle.std.specs.Prelude.{cond, List, [], ◌∷◌, ℕ, zero, suc, ◌+◌, ltb, length, take, drop}
use Rattle.tree.specs.Forest.{Forest, nil, node, leaf_row}

-- how many numbers at the front of a list are below a bound
unfoldable pub front_below : (bound : ℕ) → List ℕ → ℕ
front_below bound [] = 0
front_below bound (l ∷ ls) = let rest = front_below bound ls in cond (ltb l bound) (suc rest) 0

-- the nodes from number a on, each of the same width: a node is over the tags whose labels lie below its end
unfoldable pub spelled_nodes : (most width : ℕ) → (under : ℕ → List ℕ → List ℕ → Forest) → (a : ℕ) → (tags labels : List ℕ) → Forest
spelled_nodes zero width under a xs ls = nil
spelled_nodes (suc m) width under a [] ls = nil
spelled_nodes (suc m) width under a (x ∷ xs) ls =
    let size = front_below (a + width) ls in
    let right = spelled_nodes m width under (a + width) (drop size (x ∷ xs)) (drop size ls) in
    node (under a (take size (x ∷ xs)) (take size ls)) right

-- the forest of height j from number a on
unfoldable pub spelled : (j : ℕ) → (width : ℕ → ℕ) → (a : ℕ) → (tags labels : List ℕ) → Forest
spelled zero w a xs ls = leaf_row xs
spelled (suc j) w a xs ls = spelled_nodes (length xs) (w (suc j)) (λ number ys ms. spelled j w number ys ms) a xs ls
