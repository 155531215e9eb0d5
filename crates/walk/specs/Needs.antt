-- What the pass asks, and the parts of the walk that each function decides.
-- Assumes nothing: these are definitions.
use Rattle.std.specs.Prelude.{◌≡◌, Bool, ◌&&◌, cond, List, ℕ, ◌+◌, ◌≤◌, ltb, leb, eqb, length, get_or}
use Rattle.store_types.specs.Limits.{no_tag, most_tags}
use Rattle.store_types.specs.Layout.{at_first, at_stamp, header_words, at_next, at_kind, word_at, field, label_at, Records}
use Rattle.words.specs.Offsets.{offset_of}
use Rattle.walk_model.specs.Walk.{Shape, State, open_after, depth_after, placed}
use Rattle.walk_tags.specs.Needs.{Open, marks_at}
use Rattle.shape.specs.Packed.{widths_in, lows_in, highs_in}
use Rattle.shape.specs.declared.Tables as by_height
use Rattle.shape.specs.Sums.{cut}
use Rattle.walk_levels.specs.declared.Levels as kept
use Rattle.walk_levels.specs.Needs.{TablesFit, tables_of, levels_of, first_levels, close_from, expected_label}
use Rattle.walk.specs.declared.State as code

-- labels of two leaves of one node are 1 apart, and a node of height 1 has room for one
pub record PassFits (ws : List ℕ) (n under : ℕ) (tables : by_height.Tables) : Type 0 where
  pub records : Records ws n
  pub tables_fit : TablesFit under tables
  pub unit : get_or (widths_in tables) 0 0 ≡ 1
  pub wide : 1 ≤ get_or (widths_in tables) 1 0

unfoldable pub shape_with : (widths lows highs : List ℕ) → (under n : ℕ) → Shape
shape_with w lo hi u n = record { tables = tables_of w lo hi; under = u; n = n }

abbrev pub shape_in : (tables : by_height.Tables) → (under n : ℕ) → Shape
shape_in t u n = shape_with (widths_in t) (lows_in t) (highs_in t) u n

-- the label that comes next behind a tag, or at the front
unfoldable pub label_due : List ℕ → (prior : ℕ) → ℕ
label_due ws prior = cond (eqb prior no_tag) 0 (cut (label_at ws prior + 1))

-- before the first tag
abbrev pub first_state : (tag at : ℕ) → code.State
first_state x p =
    record { place = 0; tag = record { 0 = x }; at = record { 0 = p }; prior = record { 0 = no_tag }; parent = record { 0 = no_tag }; depth = 0; marks = 0; expect = 0 }

-- where the code stands, with the levels that it keeps beside it
unfoldable pub state_with : List ℕ → code.State → kept.Levels → State
state_with ws v levels =
    record {
      tag = v.tag.0;
      prior = v.prior.0;
      open_begin = v.parent.0;
      depth = v.depth;
      marks = v.marks;
      expect = label_due ws v.prior.0;
      levels = levels_of levels;
    }

-- what it carries is right: where the tag's record stands, the label that is waited for, the begins that are open
pub record Standing (ws : List ℕ) (n : ℕ) (levels : kept.Levels) (v : code.State) : Type 0 where
  pub there : v.at.0 ≡ offset_of v.tag.0
  pub waits : v.expect ≡ expected_label (label_due ws v.prior.0) (get_or levels.ends 1 0)
  pub around : Open ws n v.parent.0
  pub marks_few : v.marks ≤ v.place

-- a tag's number and label
unfoldable pub label_passes : List ℕ → Shape → (i : ℕ) → State → Bool
label_passes ws shape i v = ltb v.tag shape.n && (placed ws shape i v).ok

-- and where it stands behind that tag: end is where the open node of height 1 ends
pub record Behind (ws : List ℕ) (end : ℕ) (v q : code.State) : Type 0 where
  pub place : q.place ≡ v.place + 1
  pub tag : q.tag.0 ≡ field ws v.tag.0 at_next
  pub there : q.at.0 ≡ offset_of q.tag.0
  pub prior : q.prior.0 ≡ v.tag.0
  pub parent : q.parent.0 ≡ open_after ws v.parent.0 v.tag.0 (field ws v.tag.0 at_kind)
  pub depth : q.depth ≡ depth_after ws v.tag.0 (field ws v.tag.0 at_kind)
  pub marks : q.marks ≡ marks_at ws v.tag.0 v.marks
  pub expect : q.expect ≡ expected_label (cut (label_at ws v.tag.0 + 1)) end

unfoldable pub start_with : (words widths : List ℕ) → State
start_with ws w =
    record { tag = word_at ws at_first; prior = no_tag; open_begin = no_tag; depth = 0; marks = 0; expect = 0; levels = levels_of (first_levels w) }

-- behind the last tag
pub record EndsFit (ws : List ℕ) (n under marks : ℕ) (tables : by_height.Tables) : Type 0 where
  pub long : header_words ≤ length ws
  pub few : n ≤ most_tags
  pub marks_few : marks ≤ most_tags
  pub tables_fit : TablesFit under tables

unfoldable pub ends_from : (words : List ℕ) → (n under : ℕ) → (lows highs : List ℕ) → kept.Levels → (tag open_begin marks : ℕ) → Bool
ends_from ws n u lo hi levels x o marks =
    (eqb x no_tag && eqb o no_tag) && (close_from lo hi u n levels && leb (word_at ws at_stamp) (n + marks))
