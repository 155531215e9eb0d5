-- The words of new tags are an image (crate edit_model): header, records, and what stood behind them.
-- Assumes nothing.
use mathlib.Core.Path.{◌≡◌, refl, ap, sym, ◌∙◌}
use mathlib.Core.List.{List, [], ◌∷◌, ◌++◌, append-nil}
use Prim.Native.Nat.{ℕ, zero, suc, ◌*◌, ◌≤◌, ◌<◌}
use native.Mathlib.Nat.{zero-add}
use native.Mathlib.Numerals.{add-one, sub-one}
use native.Mathlib.Omega.{arith}
use borrow.Author.Tests.{lt-ltb, ltb-true, ltb-false}
use lib.Dec.{ltb, eqb-suc-zero}
use lib.ListN.{length, get_or, take, drop, take-append-drop, get_or-append, get_or-eq_default}
use lib.Seq.{length-take-le, drop-append-add, drop-drop}
use Rattle.store_types.specs.Limits.{no_tag}
use Rattle.store_types.specs.Layout.{header_words, label_words, tag_words, word_at, words_for, field, label_at}
use Rattle.lists.proofs.Tests.{by_test}
use Rattle.lists.specs.Lists.{numbers}
use Rattle.lists.proofs.Numbers.{length_numbers, getD_numbers}
use Rattle.lists.specs.Fronts.{in_front}
use Rattle.lists.proofs.Fronts.{length_in_front}
use Rattle.words.proofs.Fields.{header_fits, word_take, field_take, label_take, fields_tell, by_field}
use Rattle.tree.specs.Row.{place}
use Rattle.tree_laws.proofs.Rows.{distinct_numbers, place_getD}
use Rattle.calls.specs.Store.{next_in, prior_in}
use Rattle.edit_model.specs.Image.{Image, image_header, image_record, image_words}
use Rattle.edit_model.proofs.Image.{length_image, own_label, own_field, image_header_word}
use Rattle.load_tags.specs.Tags.{next_number, prior_number, facts_new, TagsWritten}
use Rattle.load_call.specs.Header.{first_number, header_new}
use Rattle.load_tags.proofs.Filling.{count_new}

abbrev pub fresh : (s r h number : ℕ) → (kinds labels : List ℕ) → Image
fresh s r h b cs ls =
    record {
      s = s;
      r = r;
      levels = h;
      number = b;
      stamp = 0;
      tags = numbers 0 (length cs);
      labels = ls;
      facts = facts_new cs;
    }

-- TAGS IN THE ORDER OF THEIR NUMBERS: the first, the place of each, and what stands behind and before it
first_is : (n : ℕ) → get_or (numbers 0 n) 0 no_tag ≡ first_number n
unfolding numbers first_number
first_is zero = refl
first_is (suc n) = rw (eqb-suc-zero n)

place_is : (n x : ℕ) → x < n → place x (numbers 0 n) ≡ x
place_is n x l =
    rw (getD_numbers 0 n x 0 l, zero-add) at (place_getD (numbers 0 n) x 0 (distinct_numbers 0 n) (rw length_numbers l))

next_is : (n x : ℕ) → x < n → next_in (numbers 0 n) x ≡ next_number x n
unfolding next_in next_number
next_is n x l =
    rw (place_is n x l, add-one x)
    (by_test (ltb (suc x) n)
    (λ e. rw e (getD_numbers 0 n (suc x) no_tag (ltb-true (suc x) n e) ∙ zero-add (suc x)))
    (λ e. rw e (get_or-eq_default (numbers 0 n) no_tag (rw length_numbers (ltb-false (suc x) n e)))))

prior_is : (n x : ℕ) → x < n → prior_in (numbers 0 n) x ≡ prior_number x
unfolding prior_in prior_number
prior_is n x l = rw (place_is n x l) (go x l)
  where
    go : (x : ℕ) → x < n → get_or (no_tag ∷ numbers 0 n) x no_tag ≡ prior_number x
    go zero l = refl
    go (suc x) l = rw (lt-ltb 0 (suc x) (omega arith), sub-one) (getD_numbers 0 n x no_tag (omega arith) ∙ zero-add x)

module _ (s r h b : ℕ) (cs ls : List ℕ) where
  header_is : image_header (fresh s r h b cs ls) ≡ header_new s r h (length cs) b
  unfolding image_header header_new
  header_is = rw (count_new cs, first_is (length cs))

  -- what the header and the tags leave over words ws
  module _ (ws vs : List ℕ) (room : words_for header_words (length cs) ≤ length ws) (t : TagsWritten (in_front (header_new s r h (length cs) b) ws) vs cs ls) where
    header_word : (i : ℕ) → i < header_words → word_at vs i ≡ word_at (image_header (fresh s r h b cs ls)) i
    unfolding in_front header_new
    header_word i l = t.around.header i l ∙ get_or-append (header_new s r h (length cs) b) (drop header_words ws) 0 i l ∙ rw header_is

    own_label_word : (x : ℕ) → x < length cs → label_at vs x ≡ get_or (fresh s r h b cs ls).labels (place x (fresh s r h b cs ls).tags) 0
    own_label_word x l = (t.places x l).label_word ∙ ap (λ (i : ℕ). get_or ls i 0) (sym (place_is (length cs) x l))

    record_word : (x : ℕ) → x < length cs → (k : ℕ) → label_words ≤ k → k < tag_words → field vs x k ≡ get_or (image_record (fresh s r h b cs ls) x) k 0
    unfolding image_record
    record_word x l =
        let p = t.places x l in
        by_field (λ k. field vs x k ≡ get_or (image_record (fresh s r h b cs ls) x) k 0)
        (p.next_word ∙ sym (next_is (length cs) x l)) (p.prior_word ∙ sym (prior_is (length cs) x l)) (t.mates x l) p.up_word p.kind_is p.depth_is

    front : take (words_for header_words (length cs)) vs ≡ image_words (fresh s r h b cs ls)
    unfolding header_new
    front =
        let n = length cs in
        let v = fresh s r h b cs ls in
        let own = append-nil (image_words v) in
        let size : length vs ≡ length ws = t.around.size ∙ length_in_front (header_new s r h n b) ws (omega (arith, header_fits n)) in
        let long : words_for header_words n ≤ length vs = omega arith in
        let issued : (x : ℕ) → x < n → x < length v.facts = λ x l. rw (count_new cs) l in
        fields_tell n (take (words_for header_words n) vs) (image_words v) (length-take-le (words_for header_words n) vs long) (length_image v ∙ rw (count_new cs))
        (λ i l. word_take n vs long i l ∙ header_word i l ∙ sym (rw own at (image_header_word v [] i l)))
        (λ x l. label_take n vs long x l ∙ own_label_word x l ∙ sym (own_label v x (issued x l)))
        (λ x k l past f. field_take n vs long x k l f ∙ record_word x l k past f ∙ sym (own_field v x k (issued x l) f))

    behind : drop (words_for header_words (length cs)) vs ≡ drop (words_for header_words (length cs)) ws
    unfolding words_for in_front header_new
    behind =
        t.around.rest
        ∙ drop-append-add (header_new s r h (length cs) b) (drop header_words ws) (tag_words * length cs)
        ∙ drop-drop (tag_words * length cs) header_words ws

    pub fresh_words : vs ≡ image_words (fresh s r h b cs ls) ++ drop (words_for header_words (length cs)) ws
    fresh_words = sym (take-append-drop (words_for header_words (length cs)) vs) ∙ rw (front, behind)
