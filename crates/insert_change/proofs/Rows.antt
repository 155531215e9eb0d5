-- The words of n tags in a row, and the tags that a plan numbers. Assumes nothing.
use mathlib.Core.Path.{◌≡◌, refl, ap, ◌∙◌}
use mathlib.Core.List.{List}
use Prim.Native.Nat.{ℕ, zero, suc, ◌+◌, ◌≤◌}
use native.Mathlib.Omega.{arith}
use borrow.Author.Tests.{ltb-true, ltb-false}
use lib.Dec.{ltb}
use lib.ListN.{length, get_or, length-append, get_or-eq_default}
use Rattle.store_types.specs.Limits.{no_tag, most_tags}
use Rattle.lists.proofs.Tests.{by_test}
use Rattle.store_types.specs.Layout.{at_count, header_words, word_at, words_for, Records}
use Rattle.words.proofs.Fields.{room}
use Rattle.edit_model.specs.Image.{image_header, image_words}
use Rattle.words.specs.Places.{behind, TagOrNone}
use Rattle.edit_model.specs.Insert.{Plan}
use Rattle.edit_model.proofs.Image.{length_image, tag_below, image_header_word}
use Rattle.edit_model.proofs.Along.{along_at}
use Rattle.edit_model.proofs.Behind.{tag_before, behind_place}
use Rattle.edit_model.proofs.Renumbered.{WordsIn, RowIn}
use Rattle.relabel.specs.Needs.{RowThere}

module _ {us : List ℕ} {n : ℕ} (g : WordsIn us n) (few : n ≤ most_tags) where
  pub records_in : Records us n
  records_in =
      let own : words_for header_words (length g.image.facts) ≤ length us = omega (arith, length_image g.image, ap length g.words_are ∙ length-append (image_words g.image) g.rest) in
      record { few = few; long = rw g.counted at own }

  pub issued_in : word_at us at_count ≡ n
  unfolding image_header
  issued_in = rw (g.words_are, image_header_word g.image g.rest at_count (omega arith)) g.counted

  -- what stands at a place of the row is a tag; behind the last stands none
  pub place_or_none : (i : ℕ) → TagOrNone n (get_or g.image.tags i no_tag)
  place_or_none i other =
      by_test (ltb i (length g.image.tags))
      (λ t. omega (arith, g.counted, tag_below g.proper i no_tag (ltb-true _ _ t)))
      (λ t. absurd (other (get_or-eq_default g.image.tags no_tag (ltb-false _ _ t))))

-- THE TAGS THAT A PLAN NUMBERS
module _ {us : List ℕ} {n : ℕ} {q : Plan} (e : RowIn us n q) (few : n ≤ most_tags) where
  before_or_none : (i : ℕ) → TagOrNone n (tag_before e.words_in.image i)
  before_or_none zero other = absurd (other refl)
  before_or_none (suc i) other = place_or_none e.words_in few i other

  pub left_or_none : TagOrNone n q.left
  left_or_none = rw e.left_is (before_or_none e.from)

  pub row_there : RowThere us (behind us q.left) q.count
  row_there =
      let g = e.words_in in
      let v = g.image in
      let all : length v.tags ≡ n = g.proper.as_many ∙ g.counted in
      record {
        most = omega (arith, e.fits);
        there = λ i l. room (records_in g few)
            (rw (e.left_is, g.words_are, behind_place g.proper (omega (arith, g.counted)) g.rest e.from (omega (arith, e.fits)), along_at g.proper g.rest i e.from (omega (arith, e.fits)))
            (omega (arith, g.counted, tag_below g.proper (e.from + i) no_tag (omega (arith, e.fits)))));
      }
