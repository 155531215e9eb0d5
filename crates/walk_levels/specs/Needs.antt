-- What the tests of labels ask of their callers, and the parts of the walk that each decides.
-- Assumes nothing: these are definitions.
use Rattle.std.specs.Prelude.{Bool, false, cond, List, ℕ, ◌≤◌, eqb, get_or, replicate}
use Rattle.store_types.specs.Limits.{label_limit}
use Rattle.powers.specs.Tables.{entry_limit, entry, table_length, table_under}
use Rattle.shape.specs.Packed.{widths_in, lows_in, highs_in, numbers_in}
use Rattle.shape.specs.declared.Tables as by_height
use Rattle.walk_levels.specs.declared.Levels as kept
use Rattle.walk_model.specs.Levels.{Tables, Levels, Settled, closes, settle, place_label, all_close}

unfoldable pub tables_of : (widths lows highs : List ℕ) → Tables
tables_of w lo hi = record { widths = w; lows = lo; highs = hi }

-- the open nodes that the code keeps
unfoldable pub levels_of : kept.Levels → Levels
levels_of v = record { ends = v.ends; firsts = v.firsts }

-- before the first leaf, by the widths
abbrev pub first_levels : (widths : List ℕ) → kept.Levels
first_levels w = record { ends = w; firsts = replicate table_length 0 }

pub record LevelsFit (under : ℕ) (w lo hi : List ℕ) : Type 0 where
  pub height : under ≤ table_under
  pub widths : (h : ℕ) → get_or w h 0 ≤ entry_limit
  pub lows : (h : ℕ) → get_or lo h 0 ≤ entry_limit
  pub highs : (h : ℕ) → get_or hi h 0 ≤ entry_limit

-- the numbers of the watched nodes by height
abbrev pub NumbersSmall : List ℕ → Type 0
NumbersSmall ns = (h : ℕ) → get_or ns h 0 ≤ entry_limit

abbrev pub TablesFit : (under : ℕ) → by_height.Tables → Type 0
TablesFit u t = LevelsFit u (widths_in t) (lows_in t) (highs_in t) × NumbersSmall (numbers_in t)

-- the ancestors below the root: each has a width
pub record AncestorsFit (under : ℕ) (w : List ℕ) : Type 0 where
  pub height : under ≤ table_under
  pub widths : (h : ℕ) → 1 ≤ h → h ≤ under → 1 ≤ entry w h

-- one node's limits: its widths do not matter
unfoldable pub closes_from : (lows highs : List ℕ) → (h from i : ℕ) → Bool
closes_from lo hi h from i = closes (tables_of lo lo hi) h from i

-- one label at a place, closing nodes from height 1 on
unfoldable pub settle_from : (tables : by_height.Tables) → (under label i : ℕ) → kept.Levels → Settled
settle_from t u l i v = settle (tables_of (widths_in t) (lows_in t) (highs_in t)) u 1 false l i (levels_of v)

unfoldable pub place_from : (tables : by_height.Tables) → (under expect label i : ℕ) → kept.Levels → Settled
place_from t u expect l i v = place_label (tables_of (widths_in t) (lows_in t) (highs_in t)) u expect l i (levels_of v)

-- the label that is waited for where `next` comes next: none where the open node of height 1 ends there
unfoldable pub expected_label : (next end : ℕ) → ℕ
expected_label next end = cond (eqb next end) label_limit next

-- the widths do not matter where all open nodes close
unfoldable pub close_from : (lows highs : List ℕ) → (under i : ℕ) → kept.Levels → Bool
close_from lo hi u i v = all_close (tables_of lo lo hi) u 1 i (levels_of v)
