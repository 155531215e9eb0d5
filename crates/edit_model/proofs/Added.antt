-- New tags on the words of an image: they are those of the image with them in its row, with their facts, and with labels
-- that no tag has. And the levels and the stamp of an image, set in its header. Assumes nothing.
use mathlib.Core.Path.{◌≡◌, refl, ap, sym, ◌∙◌}
use mathlib.Core.Bool.{true, false}
use mathlib.Core.List.{List, ◌++◌, append_assoc}
use Prim.Native.Nat.{ℕ, zero, suc, ◌+◌, ◌-◌, ◌≤◌, ◌<◌}
use native.Mathlib.Omega.{arith}
use borrow.Author.Tests.{eqb-true, eqb-false, ltb-true, ltb-false}
use lib.Dec.{ltb, eqb}
use lib.ListN.{length, get_or, drop, replicate, set, length-set, length-append, length-replicate, get_or-replicate, get_or-append, get_or-eq_default}
use lib.Seq.{get_or-set_same, get_or-set_other, get_or-append-add, set-append_left, take_at}
use Rattle.store_types.specs.Limits.{no_tag, most_tags}
use Rattle.store_types.specs.Layout.{at_height, at_count, at_first, at_stamp, header_words, label_words, at_next, at_prior, at_mate, at_up, at_kind, at_depth, tag_words, word_at, words_for, field, label_at, with_field, Room}
use Rattle.lists.proofs.Numbers.{length_numbers, getD_numbers}
use Rattle.lists.proofs.Tests.{by_test, fails}
use Rattle.lists.specs.Lists.{numbers}
use Rattle.words.proofs.Fields.{words_more, header_fits, record_room, field_same, field_other_tag, field_other_word, label_past_field, header_kept, length_with_field, field_past_header, label_past_header, with_field_front, fields_tell, by_field}
use Rattle.tree.specs.Row.{member, place, insert_at}
use Rattle.tree_laws.proofs.Rows.{Apart, place_getD, getD_place, place_of_member, number_bounds, not_number_below, distinct_numbers, length_insert, getD_before, getD_new}
use Rattle.calls.specs.Store.{Fact, no_fact, fact_in, next_in, prior_in}
use Rattle.calls_laws.proofs.Inserts.{all_below_with}
use Rattle.edit_model.specs.Image.{Image, image_header, image_record, image_words}
use Rattle.edit_model.specs.Insert.{new_record, row_records, with_records, linked_place, linked_next, added_row}
use Rattle.edit_model.proofs.Image.{Proper, distinct_tags, tag_below, tag_in, length_image, length_image_header, own_field, own_label, own_header, record_says, image_header_word}
use Rattle.edit_model.proofs.Behind.{tag_before, tag_behind, is_tag, behind_place}
use Rattle.edit_model.proofs.RowLinks.{kept_with_row, next_kept, next_first, prior_kept, prior_last, place_in_row, next_of_new, prior_of_new}
use Rattle.edit_model.proofs.RowRecords.{row_record, length_row_records, row_field, row_label}

-- the same header
abbrev Heads : (ws vs : List ℕ) → Type 0
Heads ws vs = (i : ℕ) → i < header_words → word_at ws i ≡ word_at vs i

heads_set : (ws vs : List ℕ) (j a : ℕ) → j < length ws → j < length vs → Heads ws vs → Heads (set ws j a) (set vs j a)
heads_set ws vs j a l m h i small =
    by_test (eqb i j)
    (λ t. rw (eqb-true i j t) (get_or-set_same ws j a 0 l ∙ sym (get_or-set_same vs j a 0 m)))
    (λ t. get_or-set_other ws j i a 0 (eqb-false i j t) ∙ h i small ∙ sym (get_or-set_other vs j i a 0 (eqb-false i j t)))

-- AN IMAGE WITH A ROW OF NEW TAGS behind the first p, and their facts
unfoldable pub with_tags : (p : ℕ) → List Fact → Image → Image
with_tags p ts v =
    record {
      s = v.s;
      r = v.r;
      levels = v.levels;
      number = v.number;
      stamp = v.stamp;
      tags = insert_at p (numbers (length v.facts) (length ts)) v.tags;
      labels = insert_at p (replicate (length ts) no_tag) v.labels;
      facts = v.facts ++ ts;
    }

own_first : (v : Image) → set (image_header v) at_first (get_or v.tags 0 no_tag) ≡ image_header v
unfolding image_header
own_first v = refl

new_header : (p : ℕ) (ts : List Fact) (v : Image) →
    image_header (with_tags p ts v)
    ≡ set (set (image_header v) at_first (get_or (insert_at p (numbers (length v.facts) (length ts)) v.tags) 0 no_tag)) at_count (length (v.facts ++ ts))
unfolding image_header with_tags
new_header p ts v = refl

module _ {v : Image} (h : Proper v) (few : length v.facts ≤ most_tags) where
  -- LINKED, over words of more tags
  module _ (front : List ℕ) (all : ℕ) (more : length v.facts ≤ all) (many : length front ≡ words_for header_words all) where
    room : (x : ℕ) → x < length v.facts → Room front x
    room x l = record_room all x front (omega arith) (omega arith)

    head_room : (i : ℕ) → i < header_words → i < length front
    head_room i l = omega (arith, header_fits all)

    -- the place
    module _ (m : ℕ) where
      length_linked_place : (p : ℕ) → p ≤ length v.tags → length (linked_place front (tag_before v p) m) ≡ length front
      unfolding linked_place
      length_linked_place zero fits = length-set front at_first m
      length_linked_place (suc q) fits = rw (is_tag h few q fits) (length_with_field front _ at_next m)

      linked_place_front : (rest : List ℕ) (p : ℕ) → p ≤ length v.tags → linked_place (front ++ rest) (tag_before v p) m ≡ linked_place front (tag_before v p) m ++ rest
      unfolding linked_place
      linked_place_front rest zero fits = set-append_left front rest at_first m (head_room at_first (omega arith))
      linked_place_front rest (suc q) fits =
          rw (is_tag h few q fits) (with_field_front front rest _ at_next m (room _ (omega (arith, tag_below h q no_tag fits))) (omega arith))

      linked_place_other : (p x k : ℕ) → p ≤ length v.tags → k < tag_words → (k ≡ at_next → ⊥) → field (linked_place front (tag_before v p) m) x k ≡ field front x k
      unfolding linked_place
      linked_place_other zero x k fits small other = field_past_header front at_first m x k (omega arith)
      linked_place_other (suc q) x k fits small other = rw (is_tag h few q fits) (field_other_word front _ x at_next k m (omega arith) small other)

      linked_place_label : (p x : ℕ) → p ≤ length v.tags → label_at (linked_place front (tag_before v p) m) x ≡ label_at front x
      unfolding linked_place
      linked_place_label zero x fits = label_past_header front at_first m x (omega arith)
      linked_place_label (suc q) x fits = rw (is_tag h few q fits) (label_past_field front _ x at_next m (omega arith) (omega arith))

      linked_place_new : (p x : ℕ) → p ≤ length v.tags → x < length v.facts → suc (place x v.tags) ≡ p → field (linked_place front (tag_before v p) m) x at_next ≡ m
      unfolding linked_place
      linked_place_new zero x fits own e = absurd (omega arith)
      linked_place_new (suc q) x fits own e =
          let here : get_or v.tags q no_tag ≡ x = (let same : q ≡ place x v.tags = omega arith in rw same (getD_place x v.tags no_tag (tag_in h x own))) in
          rw (is_tag h few q fits, here) (field_same front x at_next m (room x (omega arith)) (omega arith))

      linked_place_kept : (p x : ℕ) → p ≤ length v.tags → ((i : ℕ) → i < length v.tags → suc i ≡ p → x ≡ get_or v.tags i no_tag → ⊥) → field (linked_place front (tag_before v p) m) x at_next ≡ field front x at_next
      unfolding linked_place
      linked_place_kept zero x fits far = field_past_header front at_first m x at_next (omega arith)
      linked_place_kept (suc q) x fits far =
          rw (is_tag h few q fits) (field_other_tag front _ x at_next at_next m (omega arith) (omega arith) (far q fits refl))

      -- m is the first of new tags there
      linked_place_header : (ns : List ℕ) → 1 ≤ length ns → get_or ns 0 no_tag ≡ m → (p : ℕ) → p ≤ length v.tags → Heads front (image_header v) →
          Heads (linked_place front (tag_before v p) m) (set (image_header v) at_first (get_or (insert_at p ns v.tags) 0 no_tag))
      unfolding linked_place
      linked_place_header ns some first zero fits same =
          rw (getD_new 0 ns v.tags 0 no_tag fits some, first)
          (heads_set front (image_header v) at_first m (head_room at_first (omega arith)) (omega (arith, length_image_header v)) same)
      linked_place_header ns some first (suc q) fits same =
          rw (is_tag h few q fits, getD_before (suc q) ns v.tags 0 no_tag fits (omega arith), own_first) (λ i small. header_kept front _ at_next m i small ∙ same i small)

      -- the tag behind it, if there is one
      link_tag : (p : ℕ) → p < length v.tags → linked_next front (tag_behind v p) m ≡ with_field front (tag_behind v p) at_prior m
      unfolding linked_next
      link_tag p inside = rw (is_tag h few p inside)

      link_none : (p : ℕ) → length v.tags ≤ p → linked_next front (tag_behind v p) m ≡ front
      unfolding linked_next
      link_none p outside = rw (get_or-eq_default v.tags no_tag outside)

      by_link : {G : Type 0} (p : ℕ) → (p < length v.tags → G) → (length v.tags ≤ p → G) → G
      by_link p yes_tag no_more = by_test (ltb p (length v.tags)) (λ t. yes_tag (ltb-true p _ t)) (λ t. no_more (ltb-false p _ t))

      length_linked_next : (p : ℕ) → length (linked_next front (tag_behind v p) m) ≡ length front
      length_linked_next p = by_link p (λ l. rw (link_tag p l) (length_with_field front _ at_prior m)) (λ l. rw (link_none p l))

      linked_next_front : (rest : List ℕ) (p : ℕ) → linked_next (front ++ rest) (tag_behind v p) m ≡ linked_next front (tag_behind v p) m ++ rest
      unfolding linked_next
      linked_next_front rest p =
          by_link p
          (λ l. rw (is_tag h few p l) (with_field_front front rest _ at_prior m (room _ (omega (arith, tag_below h p no_tag l))) (omega arith)))
          (λ l. rw (get_or-eq_default v.tags no_tag l))

      linked_next_other : (p x k : ℕ) → k < tag_words → (k ≡ at_prior → ⊥) → field (linked_next front (tag_behind v p) m) x k ≡ field front x k
      linked_next_other p x k small other = by_link p (λ l. rw (link_tag p l) (field_other_word front _ x at_prior k m (omega arith) small other)) (λ l. rw (link_none p l))

      linked_next_label : (p x : ℕ) → label_at (linked_next front (tag_behind v p) m) x ≡ label_at front x
      linked_next_label p x = by_link p (λ l. rw (link_tag p l) (label_past_field front _ x at_prior m (omega arith) (omega arith))) (λ l. rw (link_none p l))

      linked_next_new : (p x : ℕ) → x < length v.facts → place x v.tags ≡ p → field (linked_next front (tag_behind v p) m) x at_prior ≡ m
      linked_next_new p x own e =
          let in_row = tag_in h x own in
          let here : tag_behind v p ≡ x = rw (← e) (getD_place x v.tags no_tag in_row) in
          rw (link_tag p (omega (arith, place_of_member x v.tags in_row)), here) (field_same front x at_prior m (room x (omega arith)) (omega arith))

      linked_next_kept : (p x : ℕ) → (p < length v.tags → x ≡ get_or v.tags p no_tag → ⊥) → field (linked_next front (tag_behind v p) m) x at_prior ≡ field front x at_prior
      linked_next_kept p x far =
          by_link p (λ l. rw (link_tag p l) (field_other_tag front _ x at_prior at_prior m (omega arith) (omega arith) (far l))) (λ l. rw (link_none p l))

      linked_next_header : (p i : ℕ) → i < header_words → word_at (linked_next front (tag_behind v p) m) i ≡ word_at front i
      linked_next_header p i small = by_link p (λ l. rw (link_tag p l) (header_kept front _ at_prior m i small)) (λ l. rw (link_none p l))

-- new numbers are no tags of the row
module _ {v : Image} (h : Proper v) where
  not_new : (x i : ℕ) → length v.facts ≤ x → i < length v.tags → x ≡ get_or v.tags i no_tag → ⊥
  not_new x i new l e = omega (arith, tag_below h i no_tag l)

  no_member : (x : ℕ) → length v.facts ≤ x → member x v.tags ≡ false
  no_member x new =
      fails (member x v.tags) (λ m. not_new x (place x v.tags) new (place_of_member x v.tags m) (sym (getD_place x v.tags no_tag m)))

  new_apart : (k : ℕ) → Apart (numbers (length v.facts) k) v.tags
  new_apart k x m = no_member x (number_bounds x (length v.facts) k m).0

-- ALL OF IT: the new records behind the image's words, and the links
abbrev rows : Image → (p : ℕ) → List Fact → List ℕ
rows v p ts = row_records (length v.facts) (tag_before v p) (tag_behind v p) ts

abbrev with_new : Image → (p : ℕ) → List Fact → List ℕ
with_new v p ts = image_words v ++ rows v p ts

abbrev placed : Image → (p : ℕ) → List Fact → List ℕ
placed v p ts = linked_place (with_new v p ts) (tag_before v p) (length v.facts)

abbrev linked : Image → (p : ℕ) → List Fact → List ℕ
linked v p ts = linked_next (placed v p ts) (tag_behind v p) (length v.facts + length ts - 1)

module _ {v : Image} (h : Proper v) (p : ℕ) (fits : p ≤ length v.tags) (ts : List Fact) (some : 1 ≤ length ts)
    (room : length v.facts + length ts ≤ most_tags) where
  abbrev n : ℕ
  n = length v.facts

  abbrev all : ℕ
  all = n + length ts

  abbrev ns : List ℕ
  ns = numbers n (length ts)

  few : n ≤ most_tags
  few = omega arith

  more : n ≤ all
  more = omega arith

  long : length (with_new v p ts) ≡ words_for header_words all
  long =
      omega (arith, length-append (image_words v) (rows v p ts), length_image v, length_row_records n (tag_before v p) (tag_behind v p) ts, words_more n (length ts))

  long_placed : length (placed v p ts) ≡ words_for header_words all
  long_placed = length_linked_place h few (with_new v p ts) all more long n p fits ∙ long

  long_linked : length (linked v p ts) ≡ words_for header_words all
  long_linked = length_linked_next h few (placed v p ts) all more long_placed (all - 1) p ∙ long_placed

  added_front : (rest : List ℕ) →
      added_row (image_words v ++ rest) n (tag_before v p) ts ≡ set (linked v p ts) at_count all ++ drop (words_for header_words all) (image_words v ++ rest)
  unfolding added_row with_records
  added_front rest =
      let past = drop (words_for header_words all) (image_words v ++ rest) in
      rw (
        behind_place h few rest p fits,
        take_at (image_words v) rest (words_for header_words n) (length_image v),
        ← append_assoc,
        linked_place_front h few (with_new v p ts) all more long n past p fits,
        linked_next_front h few (placed v p ts) all more long_placed (all - 1) past p,
        set-append_left (linked v p ts) past at_count all (omega (arith, long_linked, header_fits all)),
      )

  -- the fields: those that no link changes
  linked_kept : (x k : ℕ) → k < tag_words → (k ≡ at_next → ⊥) → (k ≡ at_prior → ⊥) → field (linked v p ts) x k ≡ field (with_new v p ts) x k
  linked_kept x k small one two =
      linked_next_other h few (placed v p ts) all more long_placed (all - 1) p x k small two
      ∙ linked_place_other h few (with_new v p ts) all more long n p x k fits small one

  label_kept : (x : ℕ) → label_at (linked v p ts) x ≡ label_at (with_new v p ts) x
  label_kept x =
      linked_next_label h few (placed v p ts) all more long_placed (all - 1) p x ∙ linked_place_label h few (with_new v p ts) all more long n p x fits

  -- the links of an old tag
  module _ (x : ℕ) (own : x < n) where
    old : member x v.tags ≡ true
    old = tag_in h x own

    other : member x ns ≡ false
    other = not_number_below x n (length ts) own

    elsewhere : (i : ℕ) → i < length v.tags → (place x v.tags ≡ i → ⊥) → x ≡ get_or v.tags i no_tag → ⊥
    elsewhere i l far e = far (ap (λ (z : ℕ). place z v.tags) e ∙ place_getD v.tags i no_tag (distinct_tags h) l)

    old_next : field (linked v p ts) x at_next ≡ next_in (insert_at p ns v.tags) x
    old_next =
        let first : get_or ns 0 no_tag ≡ n = omega (arith, getD_numbers n (length ts) 0 no_tag some) in
        linked_next_other h few (placed v p ts) all more long_placed (all - 1) p x at_next (omega arith) (λ e. omega arith)
        ∙ by_test (eqb (suc (place x v.tags)) p)
        (λ q. let e = eqb-true _ p q in
        linked_place_new h few (with_new v p ts) all more long n p x fits own e
        ∙ sym (next_first ns p v.tags fits x old other (rw length_numbers some) e ∙ first))
        (λ q. let e = eqb-false _ p q in
        linked_place_kept h few (with_new v p ts) all more long n p x fits (λ i l f. elsewhere i l (λ g. e (ap suc g ∙ f)))
        ∙ (record_says v (rows v p ts) x own).next_word ∙ sym (next_kept ns p v.tags fits x old other e))

    old_prior : field (linked v p ts) x at_prior ≡ prior_in (insert_at p ns v.tags) x
    old_prior =
        let last : get_or ns (length ts - 1) no_tag ≡ all - 1 = omega (arith, getD_numbers n (length ts) (length ts - 1) no_tag (omega arith)) in
        by_test (eqb (place x v.tags) p)
        (λ q. let e = eqb-true _ p q in
        linked_next_new h few (placed v p ts) all more long_placed (all - 1) p x own e
        ∙ sym (prior_last ns p v.tags fits x old other (length ts - 1) (omega (arith, length_numbers n (length ts))) e ∙ last))
        (λ q. let e = eqb-false _ p q in
        linked_next_kept h few (placed v p ts) all more long_placed (all - 1) p x (λ l. elsewhere p l e)
        ∙ linked_place_other h few (with_new v p ts) all more long n p x at_prior fits (omega arith) (λ e. omega arith)
        ∙ (record_says v (rows v p ts) x own).prior_word ∙ sym (prior_kept ns p v.tags fits x old other e))

    -- so its record
    old_label : label_at (linked v p ts) x ≡ get_or (with_tags p ts v).labels (place x (with_tags p ts v).tags) 0
    unfolding with_tags
    old_label =
        label_kept x ∙ (record_says v (rows v p ts) x own).label_word
        ∙ sym (kept_with_row ns p v.tags fits x old other (replicate (length ts) no_tag) 0 v.labels
        (length-replicate (length ts) no_tag ∙ sym (length_numbers n (length ts))) (omega (arith, h.labelled)))

    old_record : (k : ℕ) → label_words ≤ k → k < tag_words → field (linked v p ts) x k ≡ get_or (image_record (with_tags p ts v) x) k 0
    unfolding image_record with_tags
    old_record =
        let says = record_says v (rows v p ts) x own in
        let same : fact_in (v.facts ++ ts) x ≡ fact_in v.facts x = get_or-append v.facts ts no_fact x own in
        by_field (λ k. field (linked v p ts) x k ≡ get_or (image_record (with_tags p ts v) x) k 0)
        old_next
        old_prior
        (linked_kept x at_mate (omega arith) (λ e. omega arith) (λ e. omega arith) ∙ says.mate_word ∙ rw same)
        (linked_kept x at_up (omega arith) (λ e. omega arith) (λ e. omega arith) ∙ says.up_word ∙ rw same)
        (linked_kept x at_kind (omega arith) (λ e. omega arith) (λ e. omega arith) ∙ says.kind_is ∙ rw same)
        (linked_kept x at_depth (omega arith) (λ e. omega arith) (λ e. omega arith) ∙ says.depth_is ∙ rw same)

  -- the record of a new tag
  module _ (i : ℕ) (inside : i < length ts) where
    number_is : get_or ns i 0 ≡ n + i
    number_is = getD_numbers n (length ts) i 0 inside

    one_of : i < length ns
    one_of = rw length_numbers inside

    new_word : (k : ℕ) → k < tag_words → field (with_new v p ts) (n + i) k ≡ get_or (row_record n (tag_before v p) (tag_behind v p) ts i) k 0
    new_word k small = row_field n (image_words v) (length_image v) (tag_before v p) (tag_behind v p) ts i inside k small

    own_word : (k : ℕ) → k < tag_words → (k ≡ at_next → ⊥) → (k ≡ at_prior → ⊥) →
        field (linked v p ts) (n + i) k ≡ get_or (row_record n (tag_before v p) (tag_behind v p) ts i) k 0
    own_word k small one two = linked_kept (n + i) k small one two ∙ new_word k small

    new_label : label_at (linked v p ts) (n + i) ≡ get_or (with_tags p ts v).labels (place (n + i) (with_tags p ts v).tags) 0
    unfolding with_tags
    new_label =
        label_kept (n + i) ∙ row_label n (image_words v) (length_image v) (tag_before v p) (tag_behind v p) ts i inside
        ∙ sym (rw (← number_is, place_in_row ns p v.tags fits (distinct_numbers n (length ts)) (new_apart h (length ts)) i one_of)
        (getD_new p (replicate (length ts) no_tag) v.labels i 0 (omega (arith, h.labelled)) (rw length-replicate inside)
        ∙ get_or-replicate (length ts) i no_tag 0 inside))

    new_record_is : (k : ℕ) → label_words ≤ k → k < tag_words → field (linked v p ts) (n + i) k ≡ get_or (image_record (with_tags p ts v) (n + i)) k 0
    unfolding image_record with_tags new_record
    new_record_is =
        let fact_is : fact_in (v.facts ++ ts) (n + i) ≡ fact_in ts i = get_or-append-add v.facts ts i no_fact in
        let apart = new_apart h (length ts) in
        let far : (j : ℕ) → j < length v.tags → n + i ≡ get_or v.tags j no_tag → ⊥ = λ j. not_new h (n + i) j (omega arith) in
        by_field (λ k. field (linked v p ts) (n + i) k ≡ get_or (image_record (with_tags p ts v) (n + i)) k 0)
        (linked_next_other h few (placed v p ts) all more long_placed (all - 1) p (n + i) at_next (omega arith) (λ e. omega arith)
        ∙ linked_place_kept h few (with_new v p ts) all more long n p (n + i) fits (λ j l f. far j l) ∙ new_word at_next (omega arith)
        ∙ sym (rw (← number_is) (next_of_new ns p v.tags fits (distinct_numbers n (length ts)) apart i one_of)))
        (linked_next_kept h few (placed v p ts) all more long_placed (all - 1) p (n + i) (far p)
        ∙ linked_place_other h few (with_new v p ts) all more long n p (n + i) at_prior fits (omega arith) (λ e. omega arith) ∙ new_word at_prior (omega arith)
        ∙ sym (rw (← number_is) (prior_of_new ns p v.tags fits (distinct_numbers n (length ts)) apart i one_of)))
        (own_word at_mate (omega arith) (λ e. omega arith) (λ e. omega arith) ∙ rw fact_is)
        (own_word at_up (omega arith) (λ e. omega arith) (λ e. omega arith) ∙ rw fact_is)
        (own_word at_kind (omega arith) (λ e. omega arith) (λ e. omega arith) ∙ rw fact_is)
        (own_word at_depth (omega arith) (λ e. omega arith) (λ e. omega arith) ∙ rw fact_is)

  linked_header : Heads (linked v p ts) (set (image_header v) at_first (get_or (insert_at p ns v.tags) 0 no_tag))
  linked_header i small =
      let first : get_or ns 0 no_tag ≡ n = omega (arith, getD_numbers n (length ts) 0 no_tag some) in
      linked_next_header h few (placed v p ts) all more long_placed (all - 1) p i small
      ∙ linked_place_header h few (with_new v p ts) all more long n ns (rw length_numbers some) first p fits (image_header_word v (rows v p ts)) i small

  counted_more : length (with_tags p ts v).facts ≡ all
  unfolding with_tags
  counted_more = length-append v.facts ts

  -- each tag is an old one or a new one
  by_age : (P : ℕ → Type 0) → ((x : ℕ) → x < n → P x) → ((i : ℕ) → i < length ts → P (n + i)) → (x : ℕ) → x < all → P x
  by_age P of_old of_new x l =
      by_test (ltb x n) (λ t. of_old x (ltb-true x n t))
      (λ t. let past = ltb-false x n t in
      let e : x ≡ n + (x - n) = omega arith in
      rw e (of_new (x - n) (omega arith)))

  linked_image : set (linked v p ts) at_count all ≡ image_words (with_tags p ts v)
  linked_image =
      let u = with_tags p ts v in
      fields_tell all (set (linked v p ts) at_count all) (image_words u)
      (length-set (linked v p ts) at_count all ∙ long_linked)
      (length_image u ∙ ap (words_for header_words) counted_more)
      (λ i small.
      heads_set (linked v p ts) (set (image_header v) at_first (get_or (insert_at p ns v.tags) 0 no_tag)) at_count all
      (omega (arith, long_linked, header_fits all)) (rw length-set (omega (arith, length_image_header v))) linked_header i small
      ∙ sym (own_header u i small ∙ rw (new_header p ts v, length-append v.facts ts)))
      (λ x l. label_past_header (linked v p ts) at_count all x (omega arith)
      ∙ by_age (λ y. label_at (linked v p ts) y ≡ get_or u.labels (place y u.tags) 0) old_label new_label x l ∙ sym (own_label u x (omega (arith, counted_more))))
      (λ x k l past small. field_past_header (linked v p ts) at_count all x k (omega arith)
      ∙ by_age (λ y. field (linked v p ts) y k ≡ get_or (image_record u y) k 0) (λ y m. old_record y m k past small) (λ i m. new_record_is i m k past small) x l
      ∙ sym (own_field u x k (omega (arith, counted_more)) small))

  -- A ROW OF NEW TAGS ON AN IMAGE
  pub added_image : (rest : List ℕ) →
      added_row (image_words v ++ rest) (length v.facts) (tag_before v p) ts
      ≡ image_words (with_tags p ts v) ++ drop (words_for header_words (length v.facts + length ts)) (image_words v ++ rest)
  added_image rest = added_front rest ∙ rw linked_image

  pub proper_with_tags : Proper (with_tags p ts v)
  unfolding with_tags
  proper_with_tags =
      let more_tags = length_insert p ns v.tags in
      let more_labels = length_insert p (replicate (length ts) no_tag) v.labels in
      let counted = length-append v.facts ts in
      let new = length_numbers n (length ts) in
      let labels = length-replicate (length ts) no_tag in
      record {
        as_many = omega (arith, h.as_many);
        each = rw counted (all_below_with n (length ts) p v.tags h.each);
        labelled = omega (arith, h.labelled);
      }

-- THE LEVELS AND THE STAMP
unfoldable pub with_levels : ℕ → Image → Image
with_levels a v =
    record {
      s = v.s;
      r = v.r;
      levels = a;
      number = v.number;
      stamp = v.stamp;
      tags = v.tags;
      labels = v.labels;
      facts = v.facts;
    }

unfoldable pub with_stamp : ℕ → Image → Image
with_stamp a v =
    record {
      s = v.s;
      r = v.r;
      levels = v.levels;
      number = v.number;
      stamp = a;
      tags = v.tags;
      labels = v.labels;
      facts = v.facts;
    }

-- an image that differs only in a word of the header
header_set : (v u : Image) (i a : ℕ) → i < header_words → image_header u ≡ set (image_header v) i a → image_record u ≡ image_record v →
    u.facts ≡ v.facts → (rest : List ℕ) → set (image_words v ++ rest) i a ≡ image_words u ++ rest
unfolding image_words
header_set v u i a l head records same rest =
    rw (set-append_left (image_words v) rest i a (omega (arith, length_image v, header_fits (length v.facts))), head, records, same)
    (ap (λ (ws : List ℕ). ws ++ rest) (set-append_left (image_header v) _ i a (omega (arith, length_image_header v))))

-- set in the header
pub levels_set : (v : Image) (rest : List ℕ) (a : ℕ) → set (image_words v ++ rest) at_height a ≡ image_words (with_levels a v) ++ rest
unfolding image_header image_record with_levels
levels_set v rest a = header_set v (with_levels a v) at_height a (omega arith) refl refl refl rest

pub stamp_set : (v : Image) (rest : List ℕ) (a : ℕ) → set (image_words v ++ rest) at_stamp a ≡ image_words (with_stamp a v) ++ rest
unfolding image_header image_record with_stamp
stamp_set v rest a = header_set v (with_stamp a v) at_stamp a (omega arith) refl refl refl rest
