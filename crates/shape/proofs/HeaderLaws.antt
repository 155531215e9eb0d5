-- The header (specs/Needs.antt): the power that must fit, each number in its range, and the root's limits. Assumes nothing.
use mathlib.Core.Path.{◌≡◌, sym, ◌∙◌}
use mathlib.Core.Bool.{Bool, true, false, not, and-false, and-eq-true_iff}
use mathlib.Core.List.{List}
use Prim.Native.Nat.{ℕ, ◌+◌, ◌*◌, ◌-◌, ◌^◌, ◌≤◌, ◌<◌}
use native.Mathlib.Nat.{pow-suc, pow-le-pow_right}
use native.Mathlib.Numerals.{add-one, sub-one}
use native.Mathlib.Omega.{arith}
use borrow.Author.Tests.{eq-eqb, ne_eqb, lt-ltb, le-ltb, le-leb, lt-leb, leb-true, not-true, not-false}
use lib.Dec.{leb, eqb}
use lib.ListN.{length, get_or}
use Rattle.store_types.specs.Limits.{label_limit, most_tags, most_levels}
use Rattle.store_types.specs.Layout.{at_version, at_s, at_r, at_height, at_count, header_words, word_at, words_for}
use Rattle.tree.specs.Book.{base, power_width}
use Rattle.calls.specs.Store.{labels_fit, power_fits}
use Rattle.calls.specs.Sound.{degrees_fit}
use Rattle.calls.specs.Words.{header_width, header_in_range}
use Rattle.shape.specs.Needs.{root_passes, degree_fits, frame_passes}

-- A POWER: p is b^i
pub power_more : (b p i : ℕ) → p ≡ b ^ i → p * b ≡ b ^ (i + 1)
power_more b p i e = rw (e, add-one, pow-suc)

module _ (s r p i h : ℕ) (e : p ≡ (s * r - 1) ^ i) where
  pub power_over : 4 ≤ s * r → i < h → 4294967296 < p * (s * r - 1) → false ≡ power_fits s r h
  unfolding labels_fit power_width base
  power_over low q over =
      let b = s * r - 1 in
      rw (lt-leb (b ^ h) label_limit (omega (arith, power_more b p i e, pow-le-pow_right {n = b} (omega arith) {i = i + 1} {j = h} (omega arith))))

  pub power_within : p ≤ 4294967296 → i ≡ h → true ≡ power_fits s r h
  unfolding labels_fit power_width base
  power_within q t = rw (← t, ← e, le-leb p label_limit q)

-- THE ROOT'S LIMITS
module _ (n h : ℕ) (lo hi : List ℕ) where
  pub root_over : get_or hi h 0 ≤ n → false ≡ root_passes n h lo hi
  unfolding root_passes
  root_over p = rw (le-ltb n (get_or hi h 0) p)

  pub root_low : n < get_or hi h 0 → h ≡ 1 → eqb h 1 ≡ root_passes n h lo hi
  unfolding root_passes
  root_low p q = rw (lt-ltb n (get_or hi h 0) p, eq-eqb h 1 q)

  pub root_high : n < get_or hi h 0 → (h ≡ 1 → ⊥) → leb (2 * get_or lo (h - 1) 0) n ≡ root_passes n h lo hi
  unfolding root_passes
  root_high p q = rw (lt-ltb n (get_or hi h 0) p, ne_eqb h 1 q, sub-one h)

-- A DEGREE
module _ (d : ℕ) where
  pub degree_low : d < 2 → leb 2 d ≡ degree_fits d
  unfolding degree_fits
  degree_low p = rw (lt-leb 2 d p)

  pub degree_rest : 2 ≤ d → leb d 16 ≡ degree_fits d
  unfolding degree_fits
  degree_rest p = rw (le-leb 2 d p)

  pub degree_range : {t : Bool} → t ≡ degree_fits d → not t ≡ false → (2 ≤ d) × (d ≤ 16)
  unfolding degree_fits
  degree_range e p =
      let both = simp and-eq-true_iff at (sym e ∙ not-false _ p) in (leb-true 2 d both.0, leb-true d 16 both.1)

-- THE FRAME: each test refuses by itself, and where none does the labels decide
module _ (ws : List ℕ) where
  pub frame_short : length ws < 8 → false ≡ frame_passes ws
  unfolding frame_passes
  frame_short p = rw (lt-leb 8 (length ws) p)

  pub frame_version : (word_at ws at_version ≡ 1 → ⊥) → false ≡ frame_passes ws
  unfolding frame_passes
  frame_version p = simp (ne_eqb (word_at ws at_version) 1 p, and-false)

  pub frame_s : {t : Bool} → t ≡ degree_fits (word_at ws at_s) → not t ≡ true → false ≡ frame_passes ws
  unfolding frame_passes header_in_range degrees_fit degree_fits
  frame_s e p = simp (sym e ∙ not-true _ p, and-false)

  pub frame_r : {t : Bool} → t ≡ degree_fits (word_at ws at_r) → not t ≡ true → false ≡ frame_passes ws
  unfolding frame_passes header_in_range degrees_fit degree_fits
  frame_r e p = simp (sym e ∙ not-true _ p, and-false)

  pub frame_height : word_at ws at_height < 1 → false ≡ frame_passes ws
  unfolding frame_passes header_in_range
  frame_height p = simp (lt-leb 1 (word_at ws at_height) p, and-false)

  pub frame_levels : most_levels < word_at ws at_height → false ≡ frame_passes ws
  unfolding frame_passes header_in_range
  frame_levels p = simp (lt-leb (word_at ws at_height) most_levels p, and-false)

  pub frame_count : most_tags < word_at ws at_count → false ≡ frame_passes ws
  unfolding frame_passes header_in_range
  frame_count p = simp (lt-leb (word_at ws at_count) most_tags p, and-false)

  pub frame_words : length ws < words_for header_words (word_at ws at_count) → false ≡ frame_passes ws
  unfolding frame_passes header_in_range
  frame_words p = simp (lt-leb (words_for header_words (word_at ws at_count)) (length ws) p, and-false)

  pub frame_labels : {t p q : Bool} → header_words ≤ length ws → word_at ws at_version ≡ 1 → p ≡ degree_fits (word_at ws at_s) → not p ≡ false →
      q ≡ degree_fits (word_at ws at_r) → not q ≡ false → 1 ≤ word_at ws at_height → word_at ws at_height ≤ most_levels →
      word_at ws at_count ≤ most_tags → words_for header_words (word_at ws at_count) ≤ length ws →
      t ≡ power_fits (word_at ws at_s) (word_at ws at_r) (word_at ws at_height) → t ≡ frame_passes ws
  unfolding frame_passes header_in_range header_width degrees_fit degree_fits
  frame_labels a b c d e f g g' h i j =
      rw (le-leb header_words (length ws) a, eq-eqb (word_at ws at_version) 1 b, sym c ∙ not-false _ d, sym e ∙ not-false _ f, le-leb 1 (word_at ws at_height) g, le-leb (word_at ws at_height) most_levels g', le-leb (word_at ws at_count) most_tags h, le-leb (words_for header_words (word_at ws at_count)) (length ws) i, ← j)
