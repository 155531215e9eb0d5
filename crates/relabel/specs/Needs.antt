-- What the functions of this crate ask of their callers, and what they leave. Assumes nothing: these are definitions.
use Rattle.std.specs.Prelude.{◌≡◌, List, map, ℕ, ◌≤◌, ◌<◌}
use Rattle.store_types.specs.Limits.{most_tags}
use Rattle.store_types.specs.Layout.{Room}
use Rattle.tree.specs.Forest.{labels, leaf_row}
use Rattle.calls.specs.Words.{follow}
use Rattle.shape.specs.Sums.{cut}
use Rattle.edit_model.specs.Relabel.{Relabelled, relabel, along}

-- so many tags along next have a record
pub record RowThere (ws : List ℕ) (x count : ℕ) : Type 0 where
  pub most : count ≤ most_tags
  pub there : (i : ℕ) → i < count → Room ws (along i ws x)

-- labels for so many leaves along next from x on, a width apart from a on
unfoldable pub leaves_numbered : (ws : List ℕ) → (width a x count : ℕ) → Relabelled
leaves_numbered ws width a x count = let xs = follow count ws x in relabel xs (map cut (labels (leaf_row xs) (λ h. width) 0 a)) ws

-- what numbering a row leaves: the words, how many labels changed, and the tag behind the row
pub record RowNumbered (before after : List ℕ) (q : Relabelled) (x count behind changed : ℕ) : Type 0 where
  pub words : after ≡ q.words
  pub moved : changed ≡ q.moved
  pub next : behind ≡ along count before x
