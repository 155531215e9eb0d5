-- The soundness walk over words: the header, then one pass along next. Follows the code of crate walk.
-- Assumes nothing: these are definitions.
use Rattle.std.specs.Prelude.{Bool, false, ◌&&◌, ◌||◌, not, cond, List, ℕ, zero, suc, pred, ◌+◌, ◌*◌, ◌-◌, ◌^◌, ◌%◌, ltb, leb, eqb, replicate}
use Rattle.store_types.specs.Limits.{no_tag}
use Rattle.store_types.specs.Layout.{at_s, at_r, at_height, at_count, at_first, at_stamp, at_next, at_prior, at_mate, at_up, at_kind, at_depth, word_at, field, label_at}
use Rattle.powers.specs.Tables.{entry, table_length}
use Rattle.shape.specs.Tables.{widths_of, lows_of, highs_of}
use Rattle.shape.specs.Sums.{cut}
use Rattle.shape.specs.Needs.{frame_passes}
use Rattle.walk_model.specs.Levels.{Tables, Levels, Settled, place_label, all_close}

-- ONE TAG x of kind word c, where o is the innermost open begin or no tag
unfoldable pub marked_word : List ℕ → (tag : ℕ) → Bool
marked_word ws o = not (eqb o no_tag) && leb 16 (field ws o at_kind)

-- the up of a begin or text is o, and it is marked if o is
unfoldable pub inner_fits : List ℕ → (o x c : ℕ) → Bool
inner_fits ws o x c = eqb (field ws x at_up) o && (leb 16 c || not (marked_word ws o))

-- an end and o are each other's mates, and have the same up and mark; the up is no tag or a tag
unfoldable pub end_fits : List ℕ → (n o x c : ℕ) → Bool
end_fits ws n o x c =
    (not (eqb o no_tag) && (eqb (field ws x at_mate) o && eqb (field ws o at_mate) x))
    && ((eqb (field ws x at_up) (field ws o at_up) && eqb (c - 1) (field ws o at_kind)) && (eqb (field ws x at_up) no_tag || ltb (field ws x at_up) n))

unfoldable pub kind_fits : List ℕ → (n o x c : ℕ) → Bool
kind_fits ws n o x c =
    cond (leb 32 c) false
    (cond (eqb (c % 16) 3) (eqb (field ws x at_mate) x && inner_fits ws o x c)
    (cond (eqb (c % 16) 1) (inner_fits ws o x c) (cond (eqb (c % 16) 2) (end_fits ws n o x c) false)))

-- the innermost open begin behind it
unfoldable pub open_after : List ℕ → (o x c : ℕ) → ℕ
open_after ws o x c = cond (eqb (c % 16) 3) o (cond (eqb (c % 16) 1) x (field ws x at_up))

-- DEPTH (document 02, CR 7), where d begins are open before the tag: the word of an end is one less, that of another tag is d.
-- Nothing is subtracted, so that an end fits nowhere where none is open
unfoldable pub depth_fits : List ℕ → (x c d : ℕ) → Bool
depth_fits ws x c d = eqb (field ws x at_depth + cond (eqb (c % 16) 2) 1 0) d

-- how many are open behind it: its word, one more for a begin
unfoldable pub depth_after : List ℕ → (x c : ℕ) → ℕ
depth_after ws x c = field ws x at_depth + cond (eqb (c % 16) 1) 1 0

-- THE PASS: the next tag, the one before it, the innermost open begin and how many are open, marked tags so far, the next child's
-- label, levels
pub record State : Type 0 where
  pub tag : ℕ
  pub prior : ℕ
  pub open_begin : ℕ
  pub depth : ℕ
  pub marks : ℕ
  pub expect : ℕ
  pub levels : Levels

pub record Shape : Type 0 where
  pub tables : Tables
  pub under : ℕ
  pub n : ℕ

unfoldable pub placed : List ℕ → Shape → (i : ℕ) → State → Settled
placed ws shape i v = place_label shape.tables shape.under v.expect (label_at ws v.tag) i v.levels

unfoldable pub tag_passes : List ℕ → Shape → (i : ℕ) → State → Bool
tag_passes ws shape i v =
    ((ltb v.tag shape.n && (placed ws shape i v).ok)
    && (eqb (field ws v.tag at_prior) v.prior && kind_fits ws shape.n v.open_begin v.tag (field ws v.tag at_kind)))
    && depth_fits ws v.tag (field ws v.tag at_kind) v.depth

unfoldable pub passed : List ℕ → Shape → (i : ℕ) → State → State
passed ws shape i v =
    let x = v.tag in
    let c = field ws x at_kind in
    record {
      tag = field ws x at_next;
      prior = x;
      open_begin = open_after ws v.open_begin x c;
      depth = depth_after ws x c;
      marks = v.marks + cond (leb 16 c) 1 0;
      expect = cut (label_at ws x + entry shape.tables.widths 0);
      levels = (placed ws shape i v).levels;
    }

-- at the end: no tag follows, none is open, every node is within its limits, and the stamp is
unfoldable pub ends_well : List ℕ → Shape → State → Bool
ends_well ws shape v =
    (eqb v.tag no_tag && eqb v.open_begin no_tag)
    && (all_close shape.tables shape.under 1 shape.n v.levels && leb (word_at ws at_stamp) (shape.n + v.marks))

unfoldable pub walk : List ℕ → Shape → (left i : ℕ) → State → Bool
walk ws shape zero i v = ends_well ws shape v
walk ws shape (suc m) i v = let rest = walk ws shape m (suc i) (passed ws shape i v) in tag_passes ws shape i v && rest

-- THE HEADER, before any tag is read: its frame, and the limits of the root
unfoldable pub header_passes : List ℕ → Bool
header_passes ws =
    let s = word_at ws at_s in
    let r = word_at ws at_r in
    let h = word_at ws at_height in
    let n = word_at ws at_count in
    frame_passes ws && (ltb n (s * r ^ h) && (eqb h 1 || leb (2 * r ^ pred h) n))

unfoldable pub shape_of : List ℕ → Shape
shape_of ws =
    record {
      tables = record { widths = widths_of ws; lows = lows_of ws; highs = highs_of ws };
      under = pred (word_at ws at_height);
      n = word_at ws at_count;
    }

unfoldable pub start : List ℕ → State
start ws =
    record {
      tag = word_at ws at_first;
      prior = no_tag;
      open_begin = no_tag;
      depth = 0;
      marks = 0;
      expect = 0;
      levels = record { ends = (shape_of ws).tables.widths; firsts = replicate table_length 0 };
    }

unfoldable pub words_pass : List ℕ → Bool
words_pass ws = let rest = walk ws (shape_of ws) (word_at ws at_count) 0 (start ws) in header_passes ws && rest
