-- The row of an image by its words: what stands at each place, and what stands along next. Assumes nothing.
use mathlib.Core.Path.{◌≡◌, refl, ◌∙◌}
use mathlib.Core.Bool.{Bool, true, false, not, cond}
use mathlib.Core.List.{List, ◌∷◌, ◌++◌, map}
use Prim.Native.Nat.{ℕ, zero, suc, ◌+◌, ◌≤◌, ◌<◌}
use native.Mathlib.Nat.{add-zero, add-suc, suc-add}
use native.Mathlib.Omega.{arith}
use lib.Dec.{eqb}
use lib.ListN.{length, get_or, take, drop}
use lib.Seq.{drop-cons}
use Rattle.store_types.specs.Limits.{no_tag}
use Rattle.store_types.specs.Layout.{at_next, at_prior, field, label_at}
use Rattle.tree_laws.proofs.Rows.{place_getD}
use Rattle.calls.specs.Store.{Fact, fact_in, next_in, prior_in}
use Rattle.calls.specs.Words.{follow}
use Rattle.calls_laws.proofs.Reader.{get_d_map, kind_back}
use Rattle.edit_model.specs.Image.{Image, image_words}
use Rattle.edit_model.specs.Relabel.{counts_moved, along}
use Rattle.edit_model.proofs.Image.{Proper, distinct_tags, tag_below, record_says}

-- WHETHER TAGS ARE UNMARKED: one by its facts, and all along the row
abbrev pub unmarked_by : List Fact → (tag : ℕ) → Bool
unmarked_by fs x = not (fact_in fs x).marked

abbrev pub unmarked_row : Image → List Bool
unmarked_row v = map (unmarked_by v.facts) v.tags

unless : (marked : Bool) (n : ℕ) → cond marked 0 n ≡ cond (not marked) n 0
unless true n = refl
unless false n = refl

module _ {v : Image} (h : Proper v) (rest : List ℕ) where
  -- AT A PLACE: the label, the tag behind and the tag before
  module _ (i d : ℕ) (inside : i < length v.tags) where
    pub label_of_place : label_at (image_words v ++ rest) (get_or v.tags i d) ≡ get_or v.labels i 0
    label_of_place =
        (record_says v rest (get_or v.tags i d) (tag_below h i d inside)).label_word ∙ rw (place_getD v.tags i d (distinct_tags h) inside)

    pub next_at : field (image_words v ++ rest) (get_or v.tags i d) at_next ≡ get_or v.tags (suc i) no_tag
    unfolding next_in
    next_at =
        (record_says v rest (get_or v.tags i d) (tag_below h i d inside)).next_word ∙ rw (place_getD v.tags i d (distinct_tags h) inside)

    pub prior_at : field (image_words v ++ rest) (get_or v.tags i d) at_prior ≡ get_or (no_tag ∷ v.tags) i no_tag
    unfolding prior_in
    prior_at =
        (record_says v rest (get_or v.tags i d) (tag_below h i d inside)).prior_word ∙ rw (place_getD v.tags i d (distinct_tags h) inside)

    -- and whether the tag counts as moved by a new label: where it is another, if the tag is unmarked
    pub counts_at : (l : ℕ) →
        counts_moved (image_words v ++ rest) (get_or v.tags i d) l ≡ cond (get_or (unmarked_row v) i true) (cond (eqb (get_or v.labels i 0) l) 0 1) 0
    unfolding counts_moved
    counts_at l =
        let t = fact_in v.facts (get_or v.tags i d) in
        let says = record_says v rest (get_or v.tags i d) (tag_below h i d inside) in
        rw (says.kind_is, (kind_back t.kind t.marked).1, label_of_place, get_d_map (unmarked_by v.facts) v.tags i d true inside)
        (unless t.marked (cond (eqb (get_or v.labels i 0) l) 0 1))

  -- ALONG NEXT from a place: so many tags, and the one behind them
  pub follow_at : (k i : ℕ) → i + k ≤ length v.tags → follow k (image_words v ++ rest) (get_or v.tags i no_tag) ≡ take k (drop i v.tags)
  unfolding follow
  follow_at zero i l = refl
  follow_at (suc k) i l =
      let inside : i < length v.tags = omega arith in
      rw (next_at i no_tag inside, follow_at k (suc i) (omega arith), drop-cons v.tags i no_tag inside)

  pub along_at : (k i : ℕ) → i + k ≤ length v.tags → along k (image_words v ++ rest) (get_or v.tags i no_tag) ≡ get_or v.tags (i + k) no_tag
  unfolding along
  along_at zero i l = rw add-zero
  along_at (suc k) i l =
      rw (next_at i no_tag (omega arith), along_at k (suc i) (omega arith), suc-add, add-suc)
