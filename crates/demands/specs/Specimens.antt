-- Specimens beside those of calls/specs/Specimens.antt: labels that do not suffice (7), damaged words (2), lists longer than
-- what is listed, and the reference list beside a history in which H rises. proofs/Specimens.antt shows them to hold.
-- Expected values are worked out by hand from document 01. Assumes nothing: these are definitions.
use Rattle.store_types.specs.Replies.{count_numbers}
use Rattle.std.specs.Prelude.{Bool, true, false, ◌&&◌, List, [], ◌∷◌, ℕ, ◌-◌, ◌+◌, ◌*◌, eqb, set, replicate}
use Rattle.store_types.specs.Limits.{no_tag}
use Rattle.lists.specs.Lists.{same, numbers}
use Rattle.store_types.specs.Layout.{at_height, at_first, header_words, word_at, words_for, at_version, at_s, at_r, at_count, at_stamp, at_next, at_prior, at_mate, at_up, at_kind, at_depth, tag_words}
use Rattle.tree.specs.Forest.{spread}
use Rattle.calls.specs.Kind.{text}
use Rattle.calls.specs.Store.{Store}
use Rattle.calls.specs.Nesting.{new_facts}
use Rattle.calls.specs.Sound.{tree_sound}
use Rattle.calls.specs.Insert.{insert_refusal}
use Rattle.calls.specs.Words.{follow}
use Rattle.calls.specs.Replies.{load_words, insert_words, mark_reply, mark_words, list_tags, list_labels}
use Rattle.calls.specs.Changes.{insert, mark, Told}
use Rattle.calls.specs.Reference.{reference_load, reference_after}

-- LABELS END. s = 13 and r = 2: b = 25, 25^6 ≤ 2^32 < 25^7, and a root of height 6 has its limit at 13 times 2^6 = 832
unfoldable pub wide_book : (n : ℕ) → Store
wide_book n =
    record {
      book = record { s = 13; r = 2; under = 5; root = spread 5 2 (numbers 0 n) };
      number = 7;
      stamp = 0;
      facts = new_facts no_tag [] 0 0 (replicate n text);
    }

-- its nodes keep their limits; at 831 tags a text gives 7, at 830 an element does and a text does not; with a word too few 6
-- comes first
unfoldable pub labels_end_there : Bool
labels_end_there =
    (tree_sound (wide_book 831) && eqb (insert_refusal (words_for header_words 832) 3 no_tag (wide_book 831)) 7)
    && ((eqb (insert_refusal (words_for header_words 832) 1 0 (wide_book 830)) 7 && eqb (insert_refusal (words_for header_words 831) 3 0 (wide_book 830)) 0)
    && eqb (insert_refusal (words_for header_words 832 - 1) 3 no_tag (wide_book 831)) 6)

-- DAMAGE. The words of the printed case after its load: labels 0, 1, 3, 4, 6, 7 of tags 0 to 5, which are B B E B E E
unfoldable pub whole_words : List ℕ
whole_words = load_words 2 2 7 (1 ∷ 1 ∷ 2 ∷ 1 ∷ 2 ∷ 2 ∷ []) (replicate (words_for header_words 6) 0)

-- one word is changed
pub record Damage : Type 0 where
  pub place : ℕ
  pub value : ℕ

abbrev at : (place value : ℕ) → Damage
at i v = record { place = i; value = v }

-- a word of a tag's record; its label is the first
abbrev of_tag : (tag place value : ℕ) → Damage
of_tag x k v = at (header_words + tag_words * x + k) v

abbrev pub damages : List Damage
damages =
    -- the value 1; s; r; H, one too high and as high as a word goes; n, one too few and the most; the first tag; the stamp
    at at_version 2 ∷ at at_s 1 ∷ at at_r 17 ∷ at at_height 3 ∷ at at_height 4294967295 ∷ at at_count 5 ∷ at at_count 4294967295 ∷ at at_first 1 ∷ at at_stamp 7 ∷
    -- tag 2's label: a gap, a label twice; tag 5's: past b^H
    of_tag 2 0 2 ∷ of_tag 2 0 1 ∷ of_tag 5 0 9 ∷
    -- next past a tag, and round in a circle; a prior
    of_tag 0 at_next 2 ∷ of_tag 5 at_next 0 ∷ of_tag 1 at_prior no_tag ∷
    -- a mate; an up; a kind that is none, one that does not nest, a begin marked without its end or what is inside
    of_tag 1 at_mate 4 ∷ of_tag 1 at_up no_tag ∷ of_tag 1 at_kind 4 ∷ of_tag 2 at_kind 1 ∷ of_tag 1 at_kind 17 ∷ of_tag 0 at_kind 17 ∷
    -- a depth: a begin's counted as around itself, an end's as inside, one of none
    of_tag 0 at_depth 1 ∷ of_tag 2 at_depth 2 ∷ of_tag 1 at_depth 0 ∷ of_tag 3 at_depth no_tag ∷ []

unfoldable pub all_refused : List Damage → Bool
all_refused [] = true
all_refused (d ∷ ds) = same (count_numbers (mark_reply 0 (set whole_words d.place d.value))) (2 ∷ []) && all_refused ds

-- while the whole words are accepted
unfoldable pub damage_refused : Bool
damage_refused = same (count_numbers (mark_reply 0 whole_words)) (0 ∷ 6 ∷ []) && all_refused damages

-- LONGER LISTS: three texts are listed, and the rest of both lists stays
unfoldable pub rest_stays : Bool
rest_stays =
    let ws = load_words 2 2 7 (3 ∷ 3 ∷ 3 ∷ []) (replicate (words_for header_words 3) 0) in
    let lent : List ℕ = 9 ∷ 9 ∷ 9 ∷ 9 ∷ 9 ∷ [] in
    let other : List ℕ = 8 ∷ 8 ∷ 8 ∷ 8 ∷ [] in
    same (list_tags no_tag ws lent other) (0 ∷ 1 ∷ 2 ∷ 9 ∷ 9 ∷ []) && same (list_labels no_tag ws lent other) (0 ∷ 1 ∷ 2 ∷ 8 ∷ [])

-- THE REFERENCE LIST. Three texts, a text after tag 2 (four tags: H rises to 2), one refused, an element after tag 0, a mark, an
-- element at the front (eight tags: H rises to 3)
abbrev pub history : List Told
history =
    (insert 3 2, true) ∷
    (insert 3 9, false) ∷
    (insert 1 0, true) ∷
    (mark 1, true) ∷
    (insert 1 no_tag, true) ∷ []

unfoldable pub reference_rises : Bool
reference_rises =
    let a = reference_after history (reference_load 2 2 3) in
    let ws = load_words 2 2 7 (3 ∷ 3 ∷ 3 ∷ []) (replicate (words_for header_words 8) 0) in
    let end = insert_words 1 no_tag (mark_words 1 (insert_words 1 0 (insert_words 3 9 (insert_words 3 2 ws)))) in
    let row : List ℕ = 6 ∷ 7 ∷ 0 ∷ 4 ∷ 5 ∷ 1 ∷ 2 ∷ 3 ∷ [] in
    ((same a.row row && eqb a.height 3) && (eqb a.n0 3 && eqb a.m 5))
    && (same (follow 8 end (word_at end at_first)) row && eqb (word_at end at_height) 3)

unfoldable pub specimens_hold : Bool
specimens_hold = (labels_end_there && damage_refused) && (rest_stays && reference_rises)
