-- The whole judgement of a file: its header is that of the words that it says, so the walk's laws on frames, tables and the parts that
-- decide (crate walk, SoundLaws) are cited for them. Assumes nothing.
use mathlib.Core.Path.{◌≡◌, refl, ◌∙◌}
use mathlib.Core.Bool.{Bool, true, false, ◌&&◌, not, and-false}
use mathlib.Core.List.{List, []}
use Prim.Native.Nat.{ℕ, ◌*◌, ◌-◌, ◌≤◌, ◌<◌}
use native.Mathlib.Omega.{arith}
use lib.ListN.{length, replicate}
use Rattle.store_types.specs.Limits.{most_levels, most_tags}
use Rattle.store_types.specs.Layout.{at_version, at_s, at_r, at_height, at_count, at_first, header_words, word_at, words_for}
use Rattle.words.proofs.Fields.{header_fits}
use Rattle.powers.specs.Tables.{table, table_length}
use Rattle.shape.specs.Tables.{widths_of}
use Rattle.shape.specs.Packed.{Packed, widths_in, numbers_in}
use Rattle.shape.specs.declared.Tables as by_height
use Rattle.shape.specs.Needs.{RootFits, WidthsFit, degree_fits, frame_passes, root_passes}
use Rattle.shape.proofs.HeaderLaws.{frame_s, frame_r, frame_height, frame_levels, frame_count, frame_labels}
use Rattle.shape.proofs.Fits.{Fits, widths_fit}
use Rattle.calls.specs.Store.{power_fits}
use Rattle.calls.specs.File.{header_in, count_in, rows_in, file_words}
use Rattle.walk_model.specs.Walk.{walk, words_pass}
use Rattle.walk_model.specs.Watch.{ancestor_numbers}
use Rattle.walk_levels.specs.Needs.{AncestorsFit}
use Rattle.walk.specs.Needs.{PassFits, shape_in, start_with}
use Rattle.walk.proofs.SoundLaws.{s_of, r_of, h_of, n_of, Frame, framed_fits, width_table, root_fits, ancestors_fit, pass_fits, root_refuses, pass_decides}
use Rattle.file_model.specs.Judge.{met_before, in_order, judged}
use Rattle.file_model.proofs.Rows.{length_file_words}
use Rattle.file_pass.specs.Needs.{order_left}
use Rattle.file_pass.proofs.JudgeLaws.{header_said}
use Rattle.file_walk.specs.Needs.{SaidBy}

-- THE WORDS THAT A FILE SAYS have its header
pub said_by : (bs : List ℕ) → SaidBy (header_in bs) (file_words bs)
unfolding count_in header_in
said_by bs =
    record {
      words = λ k l. header_said bs k l;
      version = header_said bs at_version (omega arith);
      long = length_file_words bs ∙ rw (header_said bs at_count (omega arith));
    }

pub said_header : (bs : List ℕ) {hs : List ℕ} → hs ≡ header_in bs → SaidBy hs (file_words bs)
said_header bs e = rw e (said_by bs)

pub counted_said : (bs : List ℕ) {hs : List ℕ} → hs ≡ header_in bs → word_at hs at_count ≡ count_in bs
unfolding count_in
counted_said bs e = rw e

-- THE FRAME by the header's tests
module _ {hs ws : List ℕ} (said : SaidBy hs ws) where
  pub said_s : {t : Bool} → t ≡ degree_fits (word_at hs at_s) → not t ≡ true → false ≡ frame_passes ws
  said_s e p = frame_s ws (rw (← said.words at_s (omega arith)) at e) p

  pub said_r : {t : Bool} → t ≡ degree_fits (word_at hs at_r) → not t ≡ true → false ≡ frame_passes ws
  said_r e p = frame_r ws (rw (← said.words at_r (omega arith)) at e) p

  pub said_height : word_at hs at_height < 1 → false ≡ frame_passes ws
  said_height l = frame_height ws (rw (said.words at_height (omega arith)) l)

  pub said_levels : most_levels < word_at hs at_height → false ≡ frame_passes ws
  said_levels l = frame_levels ws (rw (said.words at_height (omega arith)) l)

  pub said_count : most_tags < word_at hs at_count → false ≡ frame_passes ws
  said_count l = frame_count ws (rw (said.words at_count (omega arith)) l)

  pub said_labels : {t p q : Bool} → p ≡ degree_fits (word_at hs at_s) → not p ≡ false → q ≡ degree_fits (word_at hs at_r) → not q ≡ false → 1 ≤ word_at hs at_height →
      word_at hs at_height ≤ most_levels → word_at hs at_count ≤ most_tags → t ≡ power_fits (word_at hs at_s) (word_at hs at_r) (word_at hs at_height) → t ≡ frame_passes ws
  said_labels c d e f g g' h j =
      let long : words_for header_words (word_at ws at_count) ≤ length ws = omega (arith, said.long) in
      let s = said.words at_s (omega arith) in
      let r = said.words at_r (omega arith) in
      let height = said.words at_height (omega arith) in
      let count = said.words at_count (omega arith) in
      frame_labels ws (omega (arith, header_fits (word_at ws at_count))) said.version (rw (← s) at c) d (rw (← r) at e) f (rw height g) (rw height g') (rw count h) long (rw (← s, ← r, ← height) at j)

  -- a header whose words' frame passes
  module _ (a : Frame ws) where
    pub fits_said : Fits (word_at hs at_s) (word_at hs at_r) (word_at hs at_height)
    fits_said = rw (said.words at_s (omega arith), said.words at_r (omega arith), said.words at_height (omega arith)) at (framed_fits ws a)

    pub widths_said : header_words ≤ length hs → WidthsFit hs
    widths_said long = record { long = long; s_most = fits_said.s_most; r_most = fits_said.r_most; table = widths_fit fits_said }

  -- tables of the header are those of the words
  module _ {w lo hi : List ℕ} (of_w : w ≡ widths_of hs) (of_lo : lo ≡ table 1 (r_of hs) (h_of hs)) (of_hi : hi ≡ table (s_of hs) (r_of hs) (h_of hs)) where
    lows_are : lo ≡ table 1 (r_of ws) (h_of ws)
    lows_are = of_lo ∙ rw (said.words at_r (omega arith), said.words at_height (omega arith))

    highs_are : hi ≡ table (s_of ws) (r_of ws) (h_of ws)
    highs_are = of_hi ∙ rw (said.words at_s (omega arith), said.words at_r (omega arith), said.words at_height (omega arith))

    widths_are : w ≡ table 1 (s_of ws * r_of ws - 1) (h_of ws)
    widths_are = width_table hs of_w ∙ rw (said.words at_s (omega arith), said.words at_r (omega arith), said.words at_height (omega arith))

    pub root_said : Frame ws → RootFits (h_of hs) lo
    root_said a = rw (said.words at_height (omega arith)) at (root_fits ws lo a lows_are)

    pub ancestors_said : Frame ws → AncestorsFit (h_of hs - 1) w
    ancestors_said a = rw (said.words at_height (omega arith)) at (ancestors_fit ws a widths_are)

    pub root_refused : {t : Bool} → t ≡ root_passes (n_of hs) (h_of hs) lo hi → not t ≡ true → false ≡ words_pass ws
    root_refused e p = root_refuses ws lows_are highs_are (rw (← said.words at_count (omega arith), ← said.words at_height (omega arith)) at e) p

    module _ {ns : List ℕ} {t : by_height.Tables} (p : Packed t w lo hi) (numbers : numbers_in t ≡ ns) (of_ns : ns ≡ ancestor_numbers w (h_of hs - 1) 0 0 (replicate table_length 0)) where
      pub pass_said : Frame ws → PassFits ws (n_of hs) (h_of hs - 1) t
      pass_said a =
          rw (said.words at_count (omega arith), said.words at_height (omega arith))
          at (pass_fits ws lo a lows_are p numbers widths_are highs_are (rw (← said.words at_height (omega arith)) at of_ns) (omega arith))

      pub walk_said : {q r : Bool} → q ≡ frame_passes ws → not q ≡ false → r ≡ root_passes (n_of hs) (h_of hs) lo hi → not r ≡ false →
          walk ws (shape_in t (h_of hs - 1) (n_of hs)) (n_of hs) 0 (start_with ws (widths_in t)) ≡ words_pass ws
      walk_said a b c d =
          rw (said.words at_count (omega arith), said.words at_height (omega arith))
          at (pass_decides ws lows_are highs_are p widths_are a b (rw (← said.words at_count (omega arith), ← said.words at_height (omega arith)) at c) d refl)

-- THE TWO TESTS: either refuses
module _ (bs : List ℕ) where
  pub words_refused : false ≡ words_pass (file_words bs) → false ≡ judged bs
  unfolding judged
  words_refused e = rw (← e, and-false (in_order (count_in bs) (word_at (header_in bs) at_first) [] (rows_in bs)))

  pub both_pass : {t w : Bool} → w ≡ words_pass (file_words bs) → t ≡ (order_left bs 0 (word_at (header_in bs) at_first) && w) → t ≡ judged bs
  unfolding judged order_left met_before
  both_pass e f = f ∙ rw e
