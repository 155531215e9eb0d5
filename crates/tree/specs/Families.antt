-- Leaves by their parent, in book order: what "right sibling" speaks of (document 01, "The tree"). Assumes nothing: these
-- are definitions.
use Rattle.std.specs.Prelude.{◌≡◌, cond, ℕ, pred, ◌+◌, ◌≤◌, eqb, length}
use mathlib.Core.List.{List, [], ◌∷◌, ◌++◌, flatten}
use Rattle.tree.specs.Forest.{Forest, nil, leaf, node, leaves}
use Rattle.tree.specs.Book.{Book, tags}

-- of a forest of nodes of height j: the leaves of each node of height 1 below it
unfoldable pub families : Forest → (j : ℕ) → List (List ℕ)
families nil j = []
families (leaf x f) j = families f j
families (node g f) j = let inside = families g (pred j) in cond (eqb j 1) (leaves g ∷ []) inside ++ families f j

-- of a book; where the root's children are leaves, they are one family
unfoldable pub families_of : Book → List (List ℕ)
families_of k = let below = families k.root k.under in cond (eqb k.under 0) (tags k ∷ []) below

-- one leaf x has gone into one family: right behind its member that is the p-th leaf of all; where p is 0 to the front of
-- the first family. The others are as they were.
pub record Joins (p x : ℕ) (old new : List (List ℕ)) : Type 0 where
  pub before : List (List ℕ)
  pub front : List ℕ
  pub back : List ℕ
  pub after : List (List ℕ)
  pub was : old ≡ before ++ ((front ++ back) ∷ after)
  pub is : new ≡ before ++ ((front ++ (x ∷ back)) ∷ after)
  pub place : length (flatten before) + length front ≡ p
  pub sibling : 1 ≤ p → 1 ≤ length front
  pub first : p ≡ 0 → before ≡ []
