-- The header's test as facts, and that the walk's tables are right where it is passed. Assumes nothing.
use mathlib.Core.Path.{◌≡◌, refl, ap, sym, ◌∙◌}
use mathlib.Core.Bool.{true, ◌&&◌, ◌||◌}
use mathlib.Core.List.{List}
use Prim.Native.Nat.{ℕ, suc, pred, ◌+◌, ◌*◌, ◌-◌, ◌^◌, ◌≤◌, ◌<◌}
use native.Mathlib.Nat.{one-mul}
use native.Mathlib.Omega.{arith}
use borrow.Author.Tests.{ltb-true, leb-true, eqb-true, lt-ltb, le-leb}
use lib.Dec.{ltb, leb, eqb, eqb-suc-suc}
use lib.ListN.{length}
use Rattle.store_types.specs.Limits.{label_limit, most_tags, most_levels}
use Rattle.store_types.specs.Layout.{at_version, at_s, at_r, at_height, at_count, header_words, word_at, words_for}
use Rattle.lists.proofs.Tests.{and_left, and_right, and_both}
use Rattle.words.proofs.Fields.{header_fits}
use Rattle.powers.proofs.TableLaws.{table_at, length_table}
use Rattle.powers.specs.Tables.{table_length}
use Rattle.shape.specs.Tables.{widths_of, lows_of, highs_of}
use Rattle.shape.specs.Needs.{frame_passes}
use Rattle.tree.specs.Book.{base}
use Rattle.tree.specs.Promise.{Widths}
use Rattle.tree_laws.proofs.Labels.{width_rises}
use Rattle.calls.specs.Store.{labels_fit}
use Rattle.calls.specs.Sound.{degrees_fit}
use Rattle.calls.specs.Words.{header_width, header_in_range}
use Rattle.calls_laws.proofs.Widths.{header_widths, header_powers, header_narrower}
use Rattle.calls_laws.proofs.Tests.{Degrees, degrees_of, degrees_test}
use Rattle.walk_model.specs.Walk.{header_passes, shape_of}
use Rattle.walk_model.specs.Promise.{TablesRight}
use Rattle.walk_model.proofs.Passes.{four}

-- THE HEADER'S FACTS, where the root's children have height u, and its test both ways
pub record Header (ws : List ℕ) (s r u n : ℕ) : Type 0 where
  pub version : word_at ws at_version ≡ 1
  pub degree_s : word_at ws at_s ≡ s
  pub degree_r : word_at ws at_r ≡ r
  pub levels : word_at ws at_height ≡ suc u
  pub issued : word_at ws at_count ≡ n
  pub high : suc u ≤ most_levels
  pub degrees : Degrees s r
  pub few : n ≤ most_tags
  pub room : words_for header_words n ≤ length ws
  pub labels_fit : labels_fit (header_width ws) (suc u) ≡ true
  pub below : n < s * r ^ suc u
  pub least : (eqb u 0 || leb (2 * r ^ u) n) ≡ true

pub header_facts : (ws : List ℕ) → header_passes ws ≡ true → Header ws (word_at ws at_s) (word_at ws at_r) (pred (word_at ws at_height)) (word_at ws at_count)
unfolding header_passes frame_passes header_in_range
header_facts ws e =
    let s = word_at ws at_s in
    let r = word_at ws at_r in
    let h = word_at ws at_height in
    let n = word_at ws at_count in
    let version = eqb (word_at ws at_version) 1 in
    let few = leb n most_tags in
    let room = leb (words_for header_words n) (length ws) in
    let labels = labels_fit (header_width ws) h in
    let levels_fit = leb 1 h && leb h most_levels in
    let ranges = (degrees_fit s r && levels_fit) && (few && room) in
    let f = four (leb header_words (length ws) && version) (ranges && labels) (ltb n (s * r ^ h)) (eqb h 1 || leb (2 * r ^ pred h) n) e in
    let g = four (degrees_fit s r) levels_fit few room (and_left ranges labels f.second) in
    let levels : h ≡ suc (pred h) = omega (arith, leb-true 1 h (and_left (leb 1 h) (leb h most_levels) g.second)) in
    record {
      version = eqb-true _ _ (and_right (leb header_words (length ws)) version f.first);
      degree_s = refl;
      degree_r = refl;
      levels = levels;
      issued = refl;
      high = rw (← levels) (leb-true h most_levels (and_right (leb 1 h) (leb h most_levels) g.second));
      degrees = degrees_of s r g.first;
      few = leb-true _ _ g.third;
      room = leb-true _ _ g.fourth;
      labels_fit = rw (← levels) (and_right ranges labels f.second);
      below = rw (← levels) (ltb-true _ _ f.third);
      least = rw (← eqb-suc-suc (pred h) 0, ← levels) f.fourth;
    }

pub header_test : {ws : List ℕ} {s r u n : ℕ} → Header ws s r u n → header_passes ws ≡ true
unfolding header_passes frame_passes header_in_range
header_test {ws} {s} {r} {u} {n} h =
    let head : header_words ≤ length ws = omega (arith, h.room, header_fits n) in
    rw (h.version, h.degree_s, h.degree_r, h.levels, h.issued, eqb-suc-suc u 0)
    (and_both (and_both (and_both (le-leb _ _ head) refl)
    (and_both (and_both (and_both (degrees_test s r h.degrees) (and_both (le-leb 1 (suc u) (omega arith)) (le-leb (suc u) most_levels h.high)))
    (and_both (le-leb _ _ h.few) (le-leb _ _ h.room)))
    h.labels_fit))
    (and_both (lt-ltb _ _ h.below) h.least))

-- THE WIDTHS of such a header, and its tables
pub widths_given : {ws : List ℕ} {s r u n : ℕ} → Header ws s r u n → Widths s r (header_width ws)
widths_given {ws} h = rw (h.degree_s, h.degree_r) at (header_widths ws)

-- none is wider than the root's, which a label can hold
widths_narrow : {ws : List ℕ} {s r u n : ℕ} → Header ws s r u n → (j : ℕ) → j ≤ suc u → header_width ws j < label_limit
widths_narrow {ws} {s} {r} {u} h j l =
    let own : Degrees (word_at ws at_s) (word_at ws at_r) = rw (h.degree_s, h.degree_r) h.degrees in
    let above : suc u - j + j ≡ suc u = omega arith in
    omega (
      arith,
      ap (header_width ws) above,
      width_rises h.degrees.s_least h.degrees.r_least (widths_given h) (suc u - j) j,
      header_narrower ws (suc u) own h.labels_fit,
    )

pub tables_right : {ws : List ℕ} {s r u n : ℕ} → Header ws s r u n → TablesRight s r (header_width ws) (suc u) (shape_of ws).tables
unfolding shape_of widths_of lows_of highs_of base
tables_right {ws} {s} {r} {u} {n} h =
    let low : suc u < table_length = omega (arith, h.high) in
    rw (h.degree_s, h.degree_r, h.levels) (record {
      top_fits = low;
      long = length_table 1 _ (suc u) low;
      widths = λ j l. table_at 1 (s * r - 1) (suc u) j l ∙ one-mul ((s * r - 1) ^ j) ∙ sym (rw (h.degree_s, h.degree_r) at (header_powers ws j));
      narrow = λ j l. widths_narrow h j l;
      lows = λ j l. table_at 1 r (suc u) j l ∙ one-mul (r ^ j);
      highs = table_at s r (suc u);
    })
