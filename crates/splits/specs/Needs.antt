-- What the functions of this crate ask of their callers, and what they leave. Assumes nothing: these are definitions.
use Rattle.std.specs.Prelude.{◌≡◌, ℕ, pred, ◌+◌, ◌*◌, ◌-◌, ◌/◌, ◌^◌, ◌≤◌}
use Rattle.store_types.specs.Limits.{most_tags}
use Rattle.powers.specs.Tables.{entry, table_under}
use Rattle.shape.specs.Packed.{lows_in, highs_in, s_in, r_in}
use Rattle.shape.specs.declared.Tables as by_height
use Rattle.tree.specs.Grown.{in_splits, PathFits}
use Rattle.edit_model.specs.Split.{Border}
use Rattle.splits.specs.declared.Border as border_code
use Rattle.splits.specs.declared.PathParts as parts_code

-- a path of trees of height j over a row: a limit is above the least leaves of a node, height by height
pub record SplitsFit (j : ℕ) (tables : by_height.Tables) : Type 0 where
  pub degree_s : 2 ≤ s_in tables
  pub degree_r : 2 ≤ r_in tables
  pub height : j ≤ table_under
  pub lows : (h : ℕ) → h ≤ j → entry (lows_in tables) h ≡ r_in tables ^ h
  pub highs : (h : ℕ) → h ≤ j → entry (highs_in tables) h ≡ s_in tables * r_in tables ^ h

pub record PathFit (j count c e : ℕ) (tables : by_height.Tables) : Type 0 where
  pub most : count ≤ most_tags
  pub path : PathFits (r_in tables) j c e count
  pub splits : SplitsFit j tables

-- its parts: what stands left of the cursor's tree, its own leaves, what stands behind it; and the cursor in it
pub record PartsAre (s r j count c e : ℕ) (q : parts_code.PathParts) : Type 0 where
  pub trees : q.trees ≡ pred c / r ^ j
  pub before : q.before ≡ pred c / r ^ j * r ^ j
  pub own : q.own ≡ r ^ j + e
  pub after : q.before + (q.own + q.after) ≡ count
  pub at : q.at ≡ c - pred c / r ^ j * r ^ j + in_splits s r (pred j) e
  pub rest : q.rest ≡ e - in_splits s r (pred j) e

-- THE BORDER of a node: the struct of the code as the record of the mirror
pub record BorderIs (b : border_code.Border) (border : Border) : Type 0 where
  pub tag_is : b.tag.0 ≡ border.tag
  pub steps_are : b.steps ≡ border.steps
