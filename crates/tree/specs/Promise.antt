-- What is promised of one book and one insertion, for any widths. Each statement is a type; docs/THEOREMS.md names its
-- proof or says that it is owed. Assumes nothing.
use Rattle.std.specs.Prelude.{◌≡◌, true, false, List, [], ◌∷◌, ℕ, suc, ◌*◌, ◌^◌, ◌≤◌, ◌<◌, length}
use Rattle.lists.specs.Lists.{numbers}
use Rattle.tree.specs.Row.{member, place, insert_at, all_below}
use Rattle.tree.specs.Forest.{leaves, size, trees, spread}
use Rattle.tree.specs.Good.{Complete}
use Rattle.tree.specs.Book.{Book, height, tags, labels_in_order, label_of, base, loaded, inserted, split_of, inserted_row, split_of_row, moved, book_within}
use Rattle.tree.specs.Families.{families_of, Joins}
use Rattle.tree.specs.Reach.{left_of, border, reach_bound}
use Rattle.tree.specs.Grown.{grown, grown_split}

-- widths that a tree of s and r may be numbered by; the powers of b are one choice
pub record Widths (s r : ℕ) (w : ℕ → ℕ) : Type 0 where
  pub first : 1 ≤ w 0
  pub grows : (j : ℕ) → base s r * w j ≤ w (suc j)

-- a book whose s and r are at least 2 and whose nodes keep their limits
pub record Sane (k : Book) : Type 0 where
  pub s_least : 2 ≤ k.s
  pub r_least : 2 ≤ k.r
  pub within : book_within k ≡ true

-- an insertion of a new tag x behind the first p tags of a sane book
pub record Step (w : ℕ → ℕ) (p x : ℕ) (k : Book) : Type 0 where
  pub widths : Widths k.s k.r w
  pub sane : Sane k
  pub place_fits : p ≤ size k.root
  pub new : member x (tags k) ≡ false

-- one insertion leaves a sane book
unfoldable pub StaysSane : Type 0
StaysSane = (p x : ℕ) (k : Book) → Sane k → p ≤ size k.root → Sane (inserted p x k)

-- labels rise strictly below the width of H
unfoldable pub LabelsRise : Type 0
LabelsRise = (w : ℕ → ℕ) (k : Book) → Widths k.s k.r w → Sane k → labels_in_order w k ≡ true

-- whether an insertion moves a tag: its label afterwards is another
unfoldable pub Moves : (w : ℕ → ℕ) → (p x tag : ℕ) → Book → Type 0
Moves w p x t k = label_of w k t ≡ label_of w (inserted p x k) t → ⊥

-- labels never fall in one insertion
unfoldable pub NeverFalls : Type 0
NeverFalls =
    (w : ℕ → ℕ) (p x t : ℕ) (k : Book) → Step w p x k → member t (tags k) ≡ true → label_of w k t ≤ label_of w (inserted p x k) t

-- THE REACH of one insertion: how many tags it moves at most, with no split, with a split below the root, with a root
-- split: reach_bound. (Each number below n stands in the book once: a tag that stood there twice would count twice.)
unfoldable pub ReachCounts : Type 0
ReachCounts =
    (w : ℕ → ℕ) (p x : ℕ) (k : Book) → Step w p x k → all_below (size k.root) (tags k) ≡ true →
    moved w k (inserted p x k) ≤ reach_bound k.s k.r (height k) (split_of p k)

-- and where they stand: under the parent of the split node (of the new tag, where none is split), none left of that
-- node (of the new tag); and right of the new tag all that stand there
pub record MovesWithin (w : ℕ → ℕ) (p x t : ℕ) (k : Book) : Type 0 where
  pub left : Moves w p x t k → left_of (split_of p k) p k ≤ place t (tags k)
  pub right : Moves w p x t k → place t (tags k) < border p k
  pub all_right : p ≤ place t (tags k) → place t (tags k) < border p k → Moves w p x t k

unfoldable pub ReachPlaces : Type 0
ReachPlaces = (w : ℕ → ℕ) (p x t : ℕ) (k : Book) → Step w p x k → member t (tags k) ≡ true → MovesWithin w p x t k

-- A WHOLE ROW (document 02, CR 5): what its single insertions leave is what is worked out directly, and so is the greatest height
-- of their splits
pub record RowGrows (m p x : ℕ) (k : Book) : Type 0 where
  pub book : inserted_row m p x k ≡ grown p (numbers x m) k
  pub split : split_of_row m p x k ≡ grown_split m p k

unfoldable pub RowsGrow : Type 0
RowsGrow = (m p x : ℕ) (k : Book) → Sane k → p ≤ size k.root → RowGrows m p x k

-- WHAT LOAD AND SPLIT MAKE. Over s times r^j leaves: s complete r-ary trees of height j, over these leaves in order
pub record SplitMade (s r j : ℕ) (row : List ℕ) : Type 0 where
  pub complete : Complete r (spread j r row) j
  pub many : trees (spread j r row) ≡ s
  pub over : leaves (spread j r row) ≡ row

unfoldable pub SplitsComplete : Type 0
SplitsComplete = (s r j : ℕ) (row : List ℕ) → 1 ≤ s → 2 ≤ r → length row ≡ s * r ^ j → SplitMade s r j row

-- H of a load: the smallest height of at least 1 with n < 2 times r^H
pub record Smallest (r n height : ℕ) : Type 0 where
  pub one : 1 ≤ height
  pub fits : n < 2 * r ^ height
  pub least : (i : ℕ) → 1 ≤ i → n < 2 * r ^ i → height ≤ i

unfoldable pub LoadSmallest : Type 0
LoadSmallest = (s r n : ℕ) → 2 ≤ r → Smallest r n (height (loaded s r n))

-- the tags of a loaded book are 0 to n − 1 in order, and those of an insertion the old ones with the new one at its place
unfoldable pub LoadTags : Type 0
LoadTags = (s r n : ℕ) → 2 ≤ r → tags (loaded s r n) ≡ numbers 0 n

unfoldable pub InsertionTags : Type 0
InsertionTags = (p x : ℕ) (k : Book) → Sane k → p ≤ size k.root → tags (inserted p x k) ≡ insert_at p (x ∷ []) (tags k)

-- and where no node is split, the new leaf has the parent of the tag at its place: at the front the first tag's, in an empty
-- book the root
unfoldable pub InsertionFamily : Type 0
InsertionFamily =
    (p x : ℕ) (k : Book) → Sane k → p ≤ size k.root → split_of p k ≡ 0 → Joins p x (families_of k) (families_of (inserted p x k))
