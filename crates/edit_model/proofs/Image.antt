-- The words of an image: how many, each by its name, when they are a store's, and that a label written into them is a
-- label of the image. Assumes nothing.
use mathlib.Core.Path.{◌≡◌, refl, ap, sym, ◌∙◌}
use mathlib.Core.Bool.{true}
use mathlib.Core.List.{List, [], ◌++◌, flat_map}
use Prim.Native.Nat.{ℕ, zero, suc, ◌≤◌, ◌<◌}
use native.Mathlib.Omega.{arith}
use borrow.Author.Tests.{eqb-true, eqb-false}
use lib.Dec.{eqb}
use lib.ListN.{length, get_or, set, get_or-append}
use lib.Seq.{get_or-set_same, get_or-set_other}
use Rattle.store_types.specs.Layout.{header_words, label_words, tag_words, word_at, words_for, field, label_at, with_label, Room}
use Rattle.lists.proofs.Tests.{by_test}
use Rattle.lists.specs.Lists.{numbers}
use Rattle.words.proofs.Fields.{header_fits, record_room, label_same, label_other_tag, field_past_label, header_kept_label, length_with_label, with_label_front, field_front, label_front, fields_tell}
use Rattle.words.proofs.Records.{RecordHolds, length_joined, field_joined, label_joined, holds_joined}
use Rattle.tree.specs.Row.{member, place, all_below}
use Rattle.tree.specs.Book.{label_of}
use Rattle.tree_laws.proofs.Rows.{Distinct, member_getD, member_all_below, place_getD, getD_place, distinct_all_below}
use Rattle.tree_laws.proofs.Labels.{length_labels}
use Rattle.calls.specs.Kind.{kind_word}
use Rattle.calls.specs.Store.{Store, count, fact_in, width, next_in, prior_in}
use Rattle.calls.specs.Words.{header, tag_record, words_of}
use Rattle.calls_laws.proofs.Tests.{Sound}
use Rattle.edit_model.specs.Image.{Image, image_header, image_record, image_words, image_of, with_labels}

-- HOW MANY WORDS

pub length_image_header : (v : Image) → length (image_header v) ≡ header_words
unfolding image_header
length_image_header v = refl

length_image_record : (v : Image) (x : ℕ) → length (image_record v x) ≡ tag_words
unfolding image_record
length_image_record v x = refl

pub length_image : (v : Image) → length (image_words v) ≡ words_for header_words (length v.facts)
unfolding image_words
length_image v = length_joined (image_header v) (image_record v) (length v.facts) (length_image_header v) (length_image_record v)

image_room : (v : Image) (x : ℕ) → x < length v.facts → Room (image_words v) x
image_room v x l = record_room (length v.facts) x (image_words v) (omega (arith, length_image v)) l

-- THE WORDS OF A TAG, with anything after the image: the k-th, and the label
module _ (v : Image) (rest : List ℕ) (x : ℕ) (l : x < length v.facts) where
  pub image_field : (k : ℕ) → k < tag_words → field (image_words v ++ rest) x k ≡ get_or (image_record v x) k 0
  unfolding image_words
  image_field k small =
      field_joined (image_header v) (image_record v) (length v.facts) (length_image_header v) (length_image_record v) rest x l k small

  pub image_label : label_at (image_words v ++ rest) x ≡ get_or v.labels (place x v.tags) 0
  unfolding image_words image_record
  image_label =
      label_joined (image_header v) (image_record v) (length v.facts) (length_image_header v) (length_image_record v) rest x l

pub own_field : (v : Image) (x k : ℕ) → x < length v.facts → k < tag_words → field (image_words v) x k ≡ get_or (image_record v x) k 0
own_field v x k l small = sym (field_front (image_words v) [] x k (image_room v x l) small) ∙ image_field v [] x l k small

pub own_label : (v : Image) (x : ℕ) → x < length v.facts → label_at (image_words v) x ≡ get_or v.labels (place x v.tags) 0
own_label v x l = sym (label_front (image_words v) [] x (image_room v x l)) ∙ image_label v [] x l

-- each by its name
abbrev pub RecordSays : (ws : List ℕ) (v : Image) (x : ℕ) → Type 0
RecordSays ws v x =
    let t = fact_in v.facts x in
    RecordHolds ws x (get_or v.labels (place x v.tags) 0) (next_in v.tags x) (prior_in v.tags x) t.mate t.up (kind_word t.kind t.marked) t.depth

pub record_says : (v : Image) (rest : List ℕ) (x : ℕ) → x < length v.facts → RecordSays (image_words v ++ rest) v x
unfolding image_words image_record
record_says v rest x l =
    holds_joined (image_header v) (image_record v) (length v.facts) (length_image_header v) (length_image_record v) rest x l refl

-- the words of the header
pub own_header : (v : Image) (i : ℕ) → i < header_words → word_at (image_words v) i ≡ word_at (image_header v) i
unfolding image_words
own_header v i l = get_or-append (image_header v) _ 0 i (omega (arith, length_image_header v))

pub image_header_word : (v : Image) (rest : List ℕ) (i : ℕ) → i < header_words → word_at (image_words v ++ rest) i ≡ word_at (image_header v) i
image_header_word v rest i l =
    get_or-append (image_words v) rest 0 i (omega (arith, length_image v, header_fits (length v.facts))) ∙ own_header v i l

-- IMAGES AND STORES: a store's words are those of its image
same_record : (st : Store) (x : ℕ) → tag_record st x ≡ image_record (image_of st) x
unfolding tag_record image_record image_of label_of
same_record st x = refl

pub store_image : (st : Store) → words_of st ≡ image_words (image_of st)
unfolding words_of image_words header image_header image_of
store_image st = ap (λ (f : ℕ → List ℕ). header st ++ flat_map f (numbers 0 (count st))) (λ i x. same_record st x i)

-- two images are the same where their parts are
pub record Alike (v u : Image) : Type 0 where
  pub s : v.s ≡ u.s
  pub r : v.r ≡ u.r
  pub levels : v.levels ≡ u.levels
  pub number : v.number ≡ u.number
  pub stamp : v.stamp ≡ u.stamp
  pub tags : v.tags ≡ u.tags
  pub labels : v.labels ≡ u.labels
  pub facts : v.facts ≡ u.facts

pub same_image : (v u : Image) → Alike v u → v ≡ u
same_image v u h =
    λ i. record {
      s = h.s i;
      r = h.r i;
      levels = h.levels i;
      number = h.number i;
      stamp = h.stamp i;
      tags = h.tags i;
      labels = h.labels i;
      facts = h.facts i;
    }

-- so an image whose parts are a store's has that store's words
pub image_is : (v : Image) (st : Store) → Alike v (image_of st) → image_words v ≡ words_of st
image_is v st h = rw (same_image v (image_of st) h) (sym (store_image st))

-- PROPER: each tag issued stands in the row once and has a label
pub record Proper (v : Image) : Type 0 where
  pub as_many : length v.tags ≡ length v.facts
  pub each : all_below (length v.facts) v.tags ≡ true
  pub labelled : length v.labels ≡ length v.tags

pub proper_image : {st : Store} → Sound st → Proper (image_of st)
unfolding image_of
proper_image {st} h =
    record { as_many = h.as_many; each = h.each; labelled = length_labels st.book.root (width st) st.book.under 0 }

pub proper_with_labels : {v : Image} → Proper v → (ls : List ℕ) → length ls ≡ length v.labels → Proper (with_labels ls v)
unfolding with_labels
proper_with_labels h ls e = record { as_many = h.as_many; each = h.each; labelled = e ∙ h.labelled }

module _ {v : Image} (h : Proper v) where
  pub distinct_tags : Distinct v.tags
  distinct_tags = (distinct_all_below (length v.facts) v.tags h.each h.as_many).0

  pub tag_below : (i d : ℕ) → i < length v.tags → get_or v.tags i d < length v.facts
  tag_below i d l = (distinct_all_below (length v.facts) v.tags h.each h.as_many).1 _ (member_getD v.tags i d l)

  pub tag_in : (x : ℕ) → x < length v.facts → member x v.tags ≡ true
  tag_in x l = member_all_below (length v.facts) x v.tags h.each l

-- an image's record: its fields are as with other labels; and so the header
record_others : (v : Image) (ls : List ℕ) (x k : ℕ) → label_words ≤ k → get_or (image_record (with_labels ls v) x) k 0 ≡ get_or (image_record v x) k 0
unfolding image_record with_labels
record_others v ls x zero past = absurd (omega arith)
record_others v ls x (suc k) past = refl

same_header : (v : Image) (ls : List ℕ) → image_header (with_labels ls v) ≡ image_header v
unfolding image_header with_labels
same_header v ls = refl

-- A LABEL WRITTEN into the words of an image
module _ {v : Image} (h : Proper v) (i d l : ℕ) (inside : i < length v.tags) where
  -- the labels by tag
  label_here : get_or (set v.labels i l) (place (get_or v.tags i d) v.tags) 0 ≡ l
  label_here =
      rw (place_getD v.tags i d (distinct_tags h) inside) (get_or-set_same v.labels i l 0 (omega (arith, h.labelled)))

  label_elsewhere : (y : ℕ) → y < length v.facts → (y ≡ get_or v.tags i d → ⊥) →
      get_or (set v.labels i l) (place y v.tags) 0 ≡ get_or v.labels (place y v.tags) 0
  label_elsewhere y own other =
      get_or-set_other v.labels i (place y v.tags) l 0
      (λ e. other (sym (getD_place y v.tags d (tag_in h y own)) ∙ ap (λ (j : ℕ). get_or v.tags j d) e))

  written_label : (y : ℕ) → y < length v.facts →
      label_at (with_label (image_words v) (get_or v.tags i d) l) y ≡ get_or (set v.labels i l) (place y v.tags) 0
  written_label y own =
      let x = get_or v.tags i d in
      by_test (eqb y x)
      (λ e. rw (eqb-true y x e) (label_same (image_words v) x l (image_room v x (tag_below h i d inside)) ∙ sym label_here))
      (λ e. label_other_tag (image_words v) x y l (eqb-false y x e) ∙ own_label v y own ∙ sym (label_elsewhere y own (eqb-false y x e)))

  own_written : with_label (image_words v) (get_or v.tags i d) l ≡ image_words (with_labels (set v.labels i l) v)
  unfolding with_labels
  own_written =
      let x = get_or v.tags i d in
      let u = with_labels (set v.labels i l) v in
      fields_tell (length v.facts) (with_label (image_words v) x l) (image_words u)
      (length_with_label (image_words v) x l ∙ length_image v)
      (length_image u)
      (λ j small. header_kept_label (image_words v) x l j small ∙ own_header v j small
      ∙ ap (λ (ws : List ℕ). word_at ws j) (sym (same_header v (set v.labels i l))) ∙ sym (own_header u j small))
      (λ y own. written_label y own ∙ sym (own_label u y own))
      (λ y k own past small. field_past_label (image_words v) x y l k past small ∙ own_field v y k own small
      ∙ sym (record_others v (set v.labels i l) y k past) ∙ sym (own_field u y k own small))

  -- gives the words of the image with that label
  pub label_written : (rest : List ℕ) →
      with_label (image_words v ++ rest) (get_or v.tags i d) l ≡ image_words (with_labels (set v.labels i l) v) ++ rest
  label_written rest =
      let x = get_or v.tags i d in
      with_label_front (image_words v) rest x l (image_room v x (tag_below h i d inside)) ∙ rw own_written
