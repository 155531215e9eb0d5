-- The words after a section is marked tag by tag and the stamp is raised are those of the marked store. Assumes nothing.
use mathlib.Core.Path.{◌≡◌, refl, ap, sym, ◌∙◌}
use mathlib.Core.Bool.{Bool, true, false, ◌||◌, cond}
use mathlib.Core.List.{List, [], ◌++◌, flat_map}
use Prim.Native.Nat.{ℕ, suc, ◌+◌, ◌<◌}
use native.Mathlib.Nat.{zero-add}
use native.Mathlib.Numerals.{add-one}
use native.Mathlib.Omega.{arith}
use borrow.Author.Tests.{eqb-true, eqb-false}
use lib.Dec.{eqb}
use lib.ListN.{length, get_or, set, length-set, get_or-append}
use lib.Seq.{get_or-set_same, get_or-set_other, set-append_left, drop_at}
use Rattle.store_types.specs.Layout.{at_stamp, header_words, at_kind, tag_words, label_in, word_at, words_for, field, label_at, Room}
use Rattle.lists.proofs.Tests.{by_test}
use Rattle.lists.specs.Lists.{numbers}
use Rattle.lists.specs.Fronts.{in_front}
use Rattle.words.proofs.Fields.{header_fits, record_room, field_front, label_front, field_past_header, label_past_header, fields_tell}
use Rattle.calls.specs.Kind.{Kind, begin, end, text, code, kind_word}
use Rattle.calls.specs.Store.{Store, fact, count}
use Rattle.calls.specs.Mark.{within, mark_store}
use Rattle.calls.specs.Words.{header, tag_record, words_of}
use Rattle.calls_laws.proofs.Tests.{Sound}
use Rattle.calls_laws.proofs.Fields.{length_words, label_word, field_word, header_says}
use Rattle.calls_laws.proofs.Sections.{Section}
use Rattle.calls_laws.proofs.Marks.{length_marked, alike_marked, level_marked, mark_of, own_below, within_own}
use Rattle.mark_call.specs.Run.{with_mark, mark_each}
use Rattle.mark_call.proofs.Each.{length_each, each_header, each_label, each_other_word, each_kind, each_front}

-- a kind word that is marked where its tag is the section's
kind_marked : (k : Kind) (m w : Bool) → cond w (with_mark (kind_word k m)) (kind_word k m) ≡ kind_word k (m || w)
unfolding with_mark kind_word code
kind_marked begin true true = refl
kind_marked begin true false = refl
kind_marked begin false true = refl
kind_marked begin false false = refl
kind_marked end true true = refl
kind_marked end true false = refl
kind_marked end false true = refl
kind_marked end false false = refl
kind_marked text true true = refl
kind_marked text true false = refl
kind_marked text false true = refl
kind_marked text false false = refl

-- THE MARKED STORE, word by word: the stamp is one more, and kind words are marked; else its words are as before
module _ (x : ℕ) (st : Store) where
  marked_header : header (mark_store x st) ≡ set (header st) 7 (suc st.stamp)
  unfolding header mark_store
  marked_header = rw (length_marked st x 0 st.facts)

  marked_record : (y : ℕ) → y < count st → tag_record (mark_store x st) y ≡ set (tag_record st y) at_kind (kind_word (fact st y).kind ((fact st y).marked || within st x y))
  unfolding tag_record mark_store
  marked_record y l =
      let same = alike_marked st x 0 st.facts y in
      rw (same.kind, same.mate, same.up, mark_of st x 0 st.facts y l, zero-add, (level_marked st x 0 st.facts y).depth)

  marked_count_same : count (mark_store x st) ≡ count st
  unfolding mark_store
  marked_count_same = length_marked st x 0 st.facts

-- THE WORDS OF A STORE, without any behind them
header_long : (st : Store) → at_stamp < length (header st)
unfolding header
header_long st = omega arith

record_long : (st : Store) (y : ℕ) → at_kind < length (tag_record st y)
unfolding tag_record
record_long st y = omega arith

module _ (st : Store) where
  word_room : (y : ℕ) → y < count st → Room (words_of st) y
  word_room y l = record_room (count st) y (words_of st) (omega (arith, length_words st)) l

  own_label : (y : ℕ) → y < count st → label_at (words_of st) y ≡ label_in (tag_record st y)
  own_label y l = sym (label_front (words_of st) [] y (word_room y l)) ∙ label_word st [] y l

  own_word : (y k : ℕ) → y < count st → k < tag_words → field (words_of st) y k ≡ get_or (tag_record st y) k 0
  own_word y k l small = sym (field_front (words_of st) [] y k (word_room y l) small) ∙ field_word st [] y l k small

  own_kind : (y : ℕ) → y < count st → field (words_of st) y at_kind ≡ kind_word (fact st y).kind (fact st y).marked
  unfolding tag_record
  own_kind y l = own_word y at_kind l (omega arith)

  own_header : (i : ℕ) → i < header_words → word_at (words_of st) i ≡ word_at (header st) i
  unfolding words_of header
  own_header i l = get_or-append (header st) (flat_map (tag_record st) (numbers 0 (count st))) 0 i l

-- THE WORDS with the tags of the section marked and the stamp raised
module _ {st : Store} (h : Sound st) (x : ℕ) (c : Section st x) where
  abbrev marked : List ℕ
  marked = mark_each (words_of st) c.own

  abbrev raised : List ℕ
  raised = set marked at_stamp (suc st.stamp)

  header_room : at_stamp < length marked
  header_room = omega (arith, length_each (words_of st) c.own, length_words st, header_fits (count st))

  raised_header : (i : ℕ) → i < header_words → word_at raised i ≡ word_at (words_of (mark_store x st)) i
  raised_header i l =
      let v = suc st.stamp in
      rw (own_header (mark_store x st) i l, marked_header x st)
      (by_test (eqb i at_stamp)
      (λ e. rw (eqb-true i at_stamp e) (get_or-set_same marked at_stamp v 0 header_room ∙ sym (get_or-set_same (header st) at_stamp v 0 (header_long st))))
      (λ e. let other = eqb-false i at_stamp e in
      get_or-set_other marked at_stamp i v 0 other ∙ each_header (words_of st) c.own i l ∙ own_header st i l ∙ sym (get_or-set_other (header st) at_stamp i v 0 other)))

  -- the kind word of a tag, and its other words
  kind_field : (y : ℕ) → y < count st → field marked y at_kind ≡ kind_word (fact st y).kind ((fact st y).marked || within st x y)
  kind_field y l =
      each_kind (words_of st) c.own y (word_room st y l)
      ∙ rw (own_kind st y l, ← within_own h x c y l) (kind_marked (fact st y).kind (fact st y).marked (within st x y))

  marked_field : (y k : ℕ) → y < count st → k < tag_words →
      field marked y k ≡ get_or (set (tag_record st y) at_kind (kind_word (fact st y).kind ((fact st y).marked || within st x y))) k 0
  marked_field y k l small =
      by_test (eqb k at_kind)
      (λ e. rw (eqb-true k at_kind e) (kind_field y l ∙ sym (get_or-set_same (tag_record st y) at_kind _ 0 (record_long st y))))
      (λ e. let other = eqb-false k at_kind e in
      each_other_word (words_of st) c.own y k small other ∙ own_word st y k l small ∙ sym (get_or-set_other (tag_record st y) at_kind k _ 0 other))

  raised_field : (y k : ℕ) → y < count st → k < tag_words → field raised y k ≡ field (words_of (mark_store x st)) y k
  raised_field y k l small =
      field_past_header marked at_stamp (suc st.stamp) y k (omega arith)
      ∙ marked_field y k l small
      ∙ sym (own_word (mark_store x st) y k (rw (marked_count_same x st) l) small ∙ (rw (marked_record x st y l)))

  raised_label : (y : ℕ) → y < count st → label_at raised y ≡ label_at (words_of (mark_store x st)) y
  raised_label y l =
      label_past_header marked at_stamp (suc st.stamp) y (omega arith) ∙ each_label (words_of st) c.own y ∙ own_label st y l
      ∙ sym (own_label (mark_store x st) y (rw (marked_count_same x st) l) ∙ rw (marked_record x st y l) (get_or-set_other (tag_record st y) at_kind 0 _ 0 (λ e. omega arith)))

  raised_words : raised ≡ words_of (mark_store x st)
  raised_words =
      fields_tell (count st) raised (words_of (mark_store x st))
      (length-set marked at_stamp (suc st.stamp) ∙ length_each (words_of st) c.own ∙ length_words st)
      (length_words (mark_store x st) ∙ ap (words_for header_words) (marked_count_same x st))
      raised_header raised_label (λ y k l past small. raised_field y k l small)

  -- with anything behind them
  pub marked_words : (rest : List ℕ) →
      set (mark_each (words_of st ++ rest) c.own) at_stamp (word_at (mark_each (words_of st ++ rest) c.own) at_stamp + 1)
      ≡ in_front (words_of (mark_store x st)) (words_of st ++ rest)
  unfolding in_front
  marked_words rest =
      let new = words_of (mark_store x st) in
      let as_many : length (words_of st) ≡ length new = length_words st ∙ sym (length_words (mark_store x st) ∙ ap (words_for header_words) (marked_count_same x st)) in
      let stamp = each_header (words_of st ++ rest) c.own at_stamp (omega arith) ∙ (header_says st rest).stamp in
      let apart = each_front (words_of st) c.own rest (λ y m. word_room st y (own_below h x c y m)) in
      rw (stamp, add-one, apart, set-append_left marked rest at_stamp (suc st.stamp) header_room, drop_at (words_of st) rest (length new) as_many) (ap (λ (us : List ℕ). us ++ rest) raised_words)
