-- What making a plan and doing it ask of their callers. Assumes nothing: these are definitions.
use Rattle.std.specs.Prelude.{◌≡◌, List, ℕ, pred, ◌+◌, ◌≤◌}
use Rattle.store_types.specs.Limits.{most_tags}
use Rattle.store_types.specs.Layout.{at_height, word_at, Records}
use Rattle.words.specs.Places.{TagOrNone, PlaceThere, behind}
use Rattle.powers.specs.Tables.{entry, entry_limit, table_top}
use Rattle.shape.specs.Packed.{widths_in, highs_in, numbers_in}
use Rattle.shape.specs.declared.Tables as by_height
use Rattle.shape.specs.Sums.{cut}
use Rattle.edit_model.specs.Relabel.{issued}
use Rattle.edit_model.specs.Insert.{Plan, numbers_at}
use Rattle.relabel.specs.Needs.{RowThere}
use Rattle.splits.specs.Needs.{SplitsFit, PathFit}
use Rattle.renumber.specs.Needs.{NumbersFit}

-- A PLAN of k tags is made: a place y, the number of its parent, and the widths
pub record PlainReads (ws : List ℕ) (y k parent : ℕ) (tables : by_height.Tables) : Type 0 where
  pub few : k ≤ most_tags
  pub place : PlaceThere ws y
  pub parent_is : parent ≡ entry (numbers_at ws (widths_in tables) (pred (word_at ws at_height)) y) 1
  pub parent_fits : parent ≤ entry_limit
  pub widths : (h : ℕ) → entry (widths_in tables) h ≤ entry_limit

-- a node of height h
pub record NodeFits (h k : ℕ) (tables : by_height.Tables) : Type 0 where
  pub few : k ≤ most_tags
  pub splits : SplitsFit h tables
  pub limit : entry (highs_in tables) h ≤ entry_limit

-- that k tags more bring to its limit, and the numbers of the ancestors of a place
pub record SplitFits (h l k : ℕ) (tables : by_height.Tables) : Type 0 where
  pub node : NodeFits h k tables
  pub size : l ≤ most_tags
  pub full : entry (highs_in tables) h ≤ l + k
  pub widths : (j : ℕ) → entry (widths_in tables) j ≤ entry_limit
  pub numbers : (j : ℕ) → entry (numbers_in tables) j ≤ entry_limit

-- the root
pub record RootReads (ws : List ℕ) (k h : ℕ) (tables : by_height.Tables) : Type 0 where
  pub records : Records ws (issued ws)
  pub node : NodeFits h k tables

-- and all of it, below the root
pub record PlanReads (ws : List ℕ) (k y : ℕ) (tables : by_height.Tables) (sizes : List ℕ) : Type 0 where
  pub records : Records ws (issued ws)
  pub place : TagOrNone (issued ws) y
  pub low : 1 ≤ word_at ws at_height
  pub high : word_at ws at_height ≤ table_top
  pub node : NodeFits (pred (word_at ws at_height)) k tables
  pub limits : (h : ℕ) → entry (highs_in tables) h ≤ entry_limit
  pub sizes_few : (h : ℕ) → 1 ≤ h → h ≤ pred (word_at ws at_height) → entry sizes h ≤ most_tags
  pub widths : (h : ℕ) → entry (widths_in tables) h ≤ entry_limit
  pub numbers_are : numbers_in tables ≡ numbers_at ws (widths_in tables) (pred (word_at ws at_height)) y
  pub numbers : (h : ℕ) → entry (numbers_in tables) h ≤ entry_limit

-- and done: the tags that it numbers are there, and its numbers fit
pub record Applicable (ws : List ℕ) (p : Plan) (tables : by_height.Tables) : Type 0 where
  pub records : Records ws (issued ws)
  pub left : TagOrNone (issued ws) p.left
  pub row : RowThere ws (behind ws p.left) p.count
  pub path : PathFit p.height p.count p.cursor p.rest tables
  pub numbers : NumbersFit p.height (cut p.number) tables
  pub by : p.by ≤ entry_limit
