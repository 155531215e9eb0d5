-- What the functions of this crate ask of their callers, and what they leave. Assumes nothing: these are definitions.
use Rattle.std.specs.Prelude.{◌≡◌, List, map, ℕ, ◌^◌, ◌≤◌, ◌<◌}
use Rattle.store_types.specs.Limits.{label_limit}
use Rattle.powers.specs.Tables.{entry, entry_limit, table_under}
use Rattle.shape.specs.Packed.{widths_in, lows_in, s_in, r_in}
use Rattle.shape.specs.declared.Tables as by_height
use Rattle.tree.specs.Forest.{labels, spread}
use Rattle.tree.specs.Grown.{path}
use Rattle.calls.specs.Words.{follow}
use Rattle.shape.specs.Sums.{cut}
use Rattle.edit_model.specs.Relabel.{Relabelled, relabel}

-- numbers for trees of height j over a row: from height 1 on there are leaves for one tree at least, or none at all
pub record TreesFit (j a count : ℕ) (tables : by_height.Tables) : Type 0 where
  pub degree : 2 ≤ r_in tables
  pub height : j ≤ table_under
  pub least : 1 ≤ j → 1 ≤ count → r_in tables ^ j ≤ count
  pub number : a < label_limit
  pub widths : (h : ℕ) → entry (widths_in tables) h ≤ entry_limit
  pub lows : (h : ℕ) → h ≤ j → entry (lows_in tables) h ≡ r_in tables ^ h

-- how many tags the next of so many parts takes: the last takes all that remain
pub record PartSize (parts each left size : ℕ) : Type 0 where
  pub last : parts ≡ 1 → size ≡ left
  pub other : (parts ≡ 1 → ⊥) → size ≡ each

-- numbers for a path of trees of height j
pub record NumbersFit (j a : ℕ) (tables : by_height.Tables) : Type 0 where
  pub number : a < label_limit
  pub widths : (h : ℕ) → entry (widths_in tables) h ≤ entry_limit

-- labels for so many tags along next from x on, by numbers from a on: of trees of height j
unfoldable pub trees_numbered : (ws widths : List ℕ) → (r j a x count : ℕ) → Relabelled
trees_numbered ws w r j a x count = let xs = follow count ws x in relabel xs (map cut (labels (spread j r xs) (entry w) j a)) ws

-- of trees that are complete but for the cursor's
unfoldable pub path_numbered : (ws : List ℕ) → (tables : by_height.Tables) → (j c e a x count : ℕ) → Relabelled
path_numbered ws t j c e a x count =
    let xs = follow count ws x in relabel xs (map cut (labels (path (s_in t) (r_in t) j c e xs) (entry (widths_in t)) j a)) ws
