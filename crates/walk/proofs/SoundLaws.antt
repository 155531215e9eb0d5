-- The whole walk (walk_model's Walk): the header is the frame and the root, tables of a header that passes fit, and the three
-- parts decide. Assumes nothing.
use mathlib.Core.Path.{◌≡◌, sym, ◌∙◌}
use mathlib.Core.Bool.{Bool, true, false, ◌&&◌, not, and-false, and-eq-true_iff}
use mathlib.Core.List.{List}
use Prim.Native.Nat.{ℕ, pred, ◌*◌, ◌-◌, ◌≤◌, ◌<◌}
use native.Mathlib.Nat.{pow-zero, one-le-pow, one-mul}
use native.Mathlib.Numerals.{sub-one}
use native.Mathlib.Omega.{arith}
use borrow.Author.Tests.{leb-true, not-true, not-false}
use lib.ListN.{length, get_or, replicate}
use Rattle.store_types.specs.Limits.{most_levels, word_limit}
use Rattle.store_types.specs.Layout.{at_s, at_r, at_height, at_count, header_words, word_at, Records}
use Rattle.powers.proofs.TableLaws.{table_at, table_bound}
use Rattle.powers.specs.Tables.{table, entry_limit, TableFits, table_length}
use Rattle.shape.specs.Tables.{widths_of, lows_of, highs_of}
use Rattle.shape.proofs.Fits.{Fits, product_range, widths_fit, lows_fit, highs_fit}
use Rattle.calls.specs.Store.{labels_fit}
use Rattle.calls.specs.Sound.{degrees_fit}
use Rattle.calls.specs.Words.{header_width, header_in_range}
use Rattle.walk_model.specs.Walk.{shape_of, start, walk, header_passes, words_pass}
use Rattle.words.specs.Places.{watched_label}
use Rattle.walk_model.specs.Watch.{ancestor_numbers, watched_numbers, TablesAt, walk_sizes, sizes_at}
use Rattle.shape.specs.Packed.{Packed, widths_in, numbers_in}
use Rattle.shape.specs.declared.Tables as by_height
use Rattle.walk_levels.specs.Needs.{AncestorsFit, tables_of, levels_of}
use Rattle.shape.specs.Needs.{RootFits, WidthsFit, frame_passes, root_passes}
use Rattle.walk.specs.Needs.{PassFits, shape_with, shape_in, start_with}
use Rattle.walk_levels.proofs.AncestorNumbers.{numbers_fit}

module _ (ws : List ℕ) where
  -- the numbers of the header
  abbrev pub s_of : ℕ
  s_of = word_at ws at_s

  abbrev pub r_of : ℕ
  r_of = word_at ws at_r

  abbrev pub h_of : ℕ
  h_of = word_at ws at_height

  abbrev pub n_of : ℕ
  n_of = word_at ws at_count

-- what a frame that passes says
pub record Frame (ws : List ℕ) : Type 0 where
  pub header : header_words ≤ length ws
  pub s_low : 2 ≤ s_of ws
  pub s_high : s_of ws ≤ 16
  pub r_low : 2 ≤ r_of ws
  pub r_high : r_of ws ≤ 16
  pub low : 1 ≤ h_of ws
  pub records : Records ws (n_of ws)
  pub high : h_of ws ≤ most_levels
  pub labels : labels_fit (header_width ws) (h_of ws) ≡ true

pub frame : (ws : List ℕ) {t : Bool} → t ≡ frame_passes ws → not t ≡ false → Frame ws
unfolding frame_passes header_in_range degrees_fit
frame ws e p =
    let all = simp and-eq-true_iff at (sym e ∙ not-false _ p) in
    record {
      header = leb-true _ _ all.0.0;
      s_low = leb-true _ _ all.1.0.0.0.0.0;
      s_high = leb-true _ _ all.1.0.0.0.0.1;
      r_low = leb-true _ _ all.1.0.0.0.1.0;
      r_high = leb-true _ _ all.1.0.0.0.1.1;
      low = leb-true _ _ all.1.0.0.1.0;
      high = leb-true _ _ all.1.0.0.1.1;
      records = record { few = leb-true _ _ all.1.0.1.0; long = leb-true _ _ all.1.0.1.1 };
      labels = all.1.1;
    }

-- ITS TABLES FIT
pub framed_fits : (ws : List ℕ) → Frame ws → Fits (s_of ws) (r_of ws) (h_of ws)
unfolding header_width
framed_fits ws a = record { s_least = a.s_low; s_most = a.s_high; r_least = a.r_low; r_most = a.r_high; high = a.high; labels = a.labels }

pub header_widths : (ws : List ℕ) → Frame ws → WidthsFit ws
header_widths ws a = record { long = a.header; s_most = a.s_high; r_most = a.r_high; table = widths_fit (framed_fits ws a) }

-- and are those of the header
pub width_table : (ws : List ℕ) {w : List ℕ} → w ≡ widths_of ws → w ≡ table 1 (s_of ws * r_of ws - 1) (h_of ws)
unfolding widths_of
width_table ws e = e

module _ (ws : List ℕ) (a : Frame ws) where
  pub f_range : (4 ≤ s_of ws * r_of ws) × (s_of ws * r_of ws ≤ 256)
  f_range = product_range (framed_fits ws a)

entries_fit : {v b top : ℕ} → TableFits v b top → {t : List ℕ} → t ≡ table v b top → (k : ℕ) → get_or t k 0 ≤ entry_limit
entries_fit {v} {b} {top} a e k = rw e (omega (arith, a.last, table_bound v b top a.grows k))

pub ancestors_fit : (ws : List ℕ) → Frame ws → {w : List ℕ} → w ≡ table 1 (s_of ws * r_of ws - 1) (h_of ws) → AncestorsFit (h_of ws - 1) w
ancestors_fit ws a e =
    record {
      height = omega (arith, a.high);
      widths = λ k p q. rw (e, table_at 1 (s_of ws * r_of ws - 1) (h_of ws) k (omega arith), one-mul) (one-le-pow k (s_of ws * r_of ws - 1) (omega (arith, f_range ws a)));
    }

module _ (ws lo : List ℕ) (a : Frame ws) (of_lo : lo ≡ table 1 (r_of ws) (h_of ws)) where
  pub root_fits : RootFits (h_of ws) lo
  root_fits = record { low = a.low; high = omega (arith, a.high); lows = entries_fit (lows_fit (framed_fits ws a)) of_lo }

  pub pass_fits : {w hi ns : List ℕ} {t : by_height.Tables} {l : ℕ} → Packed t w lo hi → numbers_in t ≡ ns → w ≡ table 1 (s_of ws * r_of ws - 1) (h_of ws) → hi ≡ table (s_of ws) (r_of ws) (h_of ws) → ns ≡ ancestor_numbers w (h_of ws - 1) l 0 (replicate table_length 0) → l < word_limit → PassFits ws (n_of ws) (h_of ws - 1) t
  pass_fits {w} p numbers of_w of_hi of_ns fits =
      let b = s_of ws * r_of ws - 1 in
      record {
        records = a.records;
        tables_fit = (
          record {
            height = omega (arith, a.high);
            widths = λ k. rw p.widths_are (entries_fit (widths_fit (framed_fits ws a)) of_w k);
            lows = λ k. rw p.lows_are (entries_fit (lows_fit (framed_fits ws a)) of_lo k);
            highs = λ k. rw p.highs_are (entries_fit (highs_fit (framed_fits ws a)) of_hi k);
          },
          λ k. rw numbers (numbers_fit w (h_of ws - 1) of_ns fits k),
        );
        unit = rw (p.widths_are, of_w, table_at 1 b (h_of ws) 0 (omega arith), one-mul) (pow-zero b);
        wide = rw (p.widths_are, of_w, table_at 1 b (h_of ws) 1 (omega (arith, a.low)), one-mul) (one-le-pow 1 b (omega (arith, f_range ws a)));
      }

-- THE PARTS DECIDE
module _ (ws : List ℕ) where
  abbrev root : Bool
  root = root_passes (n_of ws) (h_of ws) (table 1 (r_of ws) (h_of ws)) (table (s_of ws) (r_of ws) (h_of ws))

  header_split : header_passes ws ≡ (frame_passes ws && root)
  unfolding header_passes root_passes
  header_split =
      rw (table_at (s_of ws) (r_of ws) (h_of ws) (h_of ws) (omega arith), table_at 1 (r_of ws) (h_of ws) (pred (h_of ws)) (omega arith), one-mul)

  module _ {t : Bool} where
    pub frame_refuses : t ≡ frame_passes ws → not t ≡ true → false ≡ words_pass ws
    unfolding words_pass
    frame_refuses e p = rw (header_split, sym e ∙ not-true t p)

    module _ {lo hi : List ℕ} (of_lo : lo ≡ table 1 (r_of ws) (h_of ws)) (of_hi : hi ≡ table (s_of ws) (r_of ws) (h_of ws)) where
      pub root_refuses : t ≡ root_passes (n_of ws) (h_of ws) lo hi → not t ≡ true → false ≡ words_pass ws
      unfolding words_pass
      root_refuses e p = simp (header_split, ← of_lo, ← of_hi, sym e ∙ not-true t p, and-false)

      pub pass_decides : {w : List ℕ} {tables : by_height.Tables} {q r : Bool} → Packed tables w lo hi → w ≡ table 1 (s_of ws * r_of ws - 1) (h_of ws) → q ≡ frame_passes ws → not q ≡ false → r ≡ root_passes (n_of ws) (h_of ws) lo hi → not r ≡ false →
          t ≡ walk ws (shape_in tables (h_of ws - 1) (n_of ws)) (n_of ws) 0 (start_with ws (widths_in tables)) → t ≡ words_pass ws
      unfolding words_pass shape_of widths_of lows_of highs_of start shape_with start_with tables_of levels_of
      pass_decides p of_w a b c d e =
          rw (header_split, sym a ∙ not-false _ b, ← of_lo, ← of_hi, ← of_w, sym c ∙ not-false _ d, ← sub-one (h_of ws))
          (rw (p.widths_are, p.lows_are, p.highs_are) at e)

-- WHERE THEY PASS, the sizes and the tables: l is the label at the place y, and ns are the numbers of its ancestors
module _ (ws lo hi w : List ℕ) (of_lo : lo ≡ table 1 (r_of ws) (h_of ws)) (of_hi : hi ≡ table (s_of ws) (r_of ws) (h_of ws)) (of_w : w ≡ table 1 (s_of ws * r_of ws - 1) (h_of ws))
    (y l : ℕ) (ns : List ℕ) {tables : by_height.Tables} (p : Packed tables w lo hi) (numbers_are : numbers_in tables ≡ ns) (label : l ≡ watched_label ws y) (numbers : ns ≡ ancestor_numbers w (h_of ws - 1) l 0 (replicate table_length 0)) where
  pub sizes_taken : (sz : List ℕ) {sz' : List ℕ} → sz' ≡ walk_sizes ws (shape_in tables (h_of ws - 1) (n_of ws)) (numbers_in tables) (n_of ws) 0 (start_with ws (widths_in tables)) sz → sz' ≡ sizes_at ws y sz
  unfolding sizes_at watched_numbers shape_of start shape_with start_with tables_of levels_of widths_of lows_of highs_of
  sizes_taken sz e =
      rw (← label, ← of_lo, ← of_hi, ← of_w, ← sub-one (h_of ws), ← numbers) (rw (p.widths_are, p.lows_are, p.highs_are, numbers_are) at e)

  pub tables_taken : l < word_limit → TablesAt ws y tables
  unfolding watched_numbers shape_of widths_of lows_of highs_of
  tables_taken fits =
      record {
        packed = record { widths_are = p.widths_are ∙ of_w; lows_are = p.lows_are ∙ of_lo; highs_are = p.highs_are ∙ of_hi };
        numbers = numbers_are ∙ rw (← label, ← of_w, ← sub-one (h_of ws)) numbers;
        fit = λ h. rw numbers_are (numbers_fit w (h_of ws - 1) numbers fits h);
      }
