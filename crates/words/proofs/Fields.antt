-- The laws of the words' layout: what stands in words after a field or a label was written, words in front of others, and
-- that words are told by their header, labels and fields. All else cites these. Assumes nothing.
use mathlib.Core.Path.{◌≡◌}
use mathlib.Core.List.{List, ◌++◌}
use Prim.Native.Nat.{ℕ, zero, suc, ◌+◌, ◌*◌, ◌-◌, ◌/◌, ◌%◌, ◌≤◌, ◌<◌}
use native.Mathlib.Nat.{add-zero, div-add-mod, mod-lt}
use native.Mathlib.Omega.{arith}
use borrow.Author.Tests.{ltb-true, ltb-false}
use lib.Dec.{ltb}
use lib.ListN.{length, get_or, set, take, drop, length-set, get_or-append}
use lib.Seq.{ext_get_or, get_or-set_same, get_or-set_other, get_or-take, set-append_left, set-get_or, drop-set-lt}
use Rattle.lists.proofs.Tests.{by_test}
use Rattle.store_types.specs.Layout.{header_words, label_words, at_next, at_prior, at_mate, at_up, at_kind, at_depth, tag_words, word_at, records_at, words_for, field, label_at, with_field, with_label, Room, Records}

-- ROOM. Words for n tags have room for the record of each
pub words_next : (n : ℕ) → words_for header_words (suc n) ≡ words_for header_words n + tag_words
unfolding words_for
words_next n = omega arith

pub words_more : (n k : ℕ) → words_for header_words (n + k) ≡ words_for header_words n + tag_words * k
unfolding words_for
words_more n k = omega arith

pub words_up : (n m : ℕ) → n ≤ m → words_for header_words n ≤ words_for header_words m
unfolding words_for
words_up n m l = omega arith

pub header_fits : (n : ℕ) → header_words ≤ words_for header_words n
unfolding words_for
header_fits n = omega arith

pub record_room : (n x : ℕ) (ws : List ℕ) → words_for header_words n ≤ length ws → x < n → Room ws x
unfolding words_for records_at
record_room n x ws long l = record { fits = omega arith }

pub room : {ws : List ℕ} {n x : ℕ} → Records ws n → x < n → Room ws x
room {ws} {n} {x} r l = record_room n x ws r.long l

pub header_long : {ws : List ℕ} {n : ℕ} → Records ws n → header_words ≤ length ws
header_long {ws} {n} r = omega (arith, r.long, header_fits n)

-- A FIELD of words with a field changed: the one that was changed; those of other tags; those at other places of a record
pub field_same : (ws : List ℕ) (x k v : ℕ) → Room ws x → k < tag_words → field (with_field ws x k v) x k ≡ v
unfolding field with_field records_at
field_same ws x k v room small = get_or-set_same ws (header_words + tag_words * x + k) v 0 (omega arith)

pub field_other_tag : (ws : List ℕ) (x y k j v : ℕ) → k < tag_words → j < tag_words → (y ≡ x → ⊥) → field (with_field ws x k v) y j ≡ field ws y j
unfolding field with_field records_at
field_other_tag ws x y k j v f g other = get_or-set_other ws _ _ v 0 (λ e. other (omega arith))

pub field_other_word : (ws : List ℕ) (x y k j v : ℕ) → k < tag_words → j < tag_words → (j ≡ k → ⊥) → field (with_field ws x k v) y j ≡ field ws y j
unfolding field with_field records_at
field_other_word ws x y k j v f g other = get_or-set_other ws _ _ v 0 (λ e. other (omega arith))

-- what was there, written again
pub with_own_field : (ws : List ℕ) (x k : ℕ) → with_field ws x k (field ws x k) ≡ ws
unfolding field with_field
with_own_field ws x k = set-get_or ws (records_at ws + tag_words * x + k) 0

-- A LABEL likewise
pub label_same : (ws : List ℕ) (x l : ℕ) → Room ws x → label_at (with_label ws x l) x ≡ l
unfolding label_at with_label records_at
label_same ws x l room = get_or-set_same ws (header_words + tag_words * x) l 0 (omega arith)

pub label_other_tag : (ws : List ℕ) (x y l : ℕ) → (y ≡ x → ⊥) → label_at (with_label ws x l) y ≡ label_at ws y
unfolding label_at with_label records_at
label_other_tag ws x y l other = get_or-set_other ws _ _ l 0 (λ e. other (omega arith))

-- a field after a label was written, and a label after a field was
pub field_past_label : (ws : List ℕ) (x y l k : ℕ) → label_words ≤ k → k < tag_words → field (with_label ws x l) y k ≡ field ws y k
unfolding field with_label records_at
field_past_label ws x y l k past small = get_or-set_other ws _ _ l 0 (λ e. omega arith)

pub label_past_field : (ws : List ℕ) (x y k v : ℕ) → label_words ≤ k → k < tag_words → label_at (with_field ws x k v) y ≡ label_at ws y
unfolding label_at with_field records_at
label_past_field ws x y k v past small = get_or-set_other ws _ _ v 0 (λ e. omega arith)

-- THE HEADER is as before, and there are as many words
pub header_kept : (ws : List ℕ) (x k v i : ℕ) → i < header_words → word_at (with_field ws x k v) i ≡ word_at ws i
unfolding with_field records_at
header_kept ws x k v i l = get_or-set_other ws _ i v 0 (λ e. omega arith)

pub header_kept_label : (ws : List ℕ) (x l i : ℕ) → i < header_words → word_at (with_label ws x l) i ≡ word_at ws i
unfolding with_label records_at
header_kept_label ws x l i small = get_or-set_other ws _ i l 0 (λ e. omega arith)

pub length_with_field : (ws : List ℕ) (x k v : ℕ) → length (with_field ws x k v) ≡ length ws
unfolding with_field records_at
length_with_field ws x k v = length-set ws (header_words + tag_words * x + k) v

pub length_with_label : (ws : List ℕ) (x l : ℕ) → length (with_label ws x l) ≡ length ws
unfolding with_label records_at
length_with_label ws x l = length-set ws (header_words + tag_words * x) l

-- what stands before the record of tag n too
pub front_with_field : (ws : List ℕ) (x k v n i : ℕ) → n ≤ x → i < words_for header_words n → word_at (with_field ws x k v) i ≡ word_at ws i
unfolding with_field words_for records_at
front_with_field ws x k v n i l small = get_or-set_other ws _ i v 0 (λ e. omega arith)

pub front_with_label : (ws : List ℕ) (x l n i : ℕ) → n ≤ x → i < words_for header_words n → word_at (with_label ws x l) i ≡ word_at ws i
unfolding with_label words_for records_at
front_with_label ws x l n i past small = get_or-set_other ws _ i l 0 (λ e. omega arith)

-- and what stands past the records of n tags
pub rest_with_field : (ws : List ℕ) (x k v n : ℕ) → x < n → k < tag_words → drop (words_for header_words n) (with_field ws x k v) ≡ drop (words_for header_words n) ws
unfolding with_field words_for records_at
rest_with_field ws x k v n l small = drop-set-lt (header_words + tag_words * n) ws (header_words + tag_words * x + k) v (omega arith)

pub rest_with_label : (ws : List ℕ) (x l n : ℕ) → x < n → drop (words_for header_words n) (with_label ws x l) ≡ drop (words_for header_words n) ws
unfolding with_label words_for records_at
rest_with_label ws x l n below = drop-set-lt (header_words + tag_words * n) ws (header_words + tag_words * x) l (omega arith)

-- and room for the same records
pub room_same : {ws vs : List ℕ} {x : ℕ} → Room ws x → length vs ≡ length ws → Room vs x
unfolding records_at
room_same room e = record { fits = rw e room.fits }

pub room_with_label : (ws : List ℕ) (x l y : ℕ) → Room ws y → Room (with_label ws x l) y
room_with_label ws x l y room = room_same room (length_with_label ws x l)

pub records_kept : {ws vs : List ℕ} {n : ℕ} → Records ws n → length vs ≡ length ws → Records vs n
records_kept h e = record { few = h.few; long = rw e h.long }

-- fields and labels stay where a word of the header is written
pub field_past_header : (ws : List ℕ) (i v x k : ℕ) → i < header_words → field (set ws i v) x k ≡ field ws x k
unfolding field records_at
field_past_header ws i v x k small = get_or-set_other ws i _ v 0 (λ e. omega arith)

pub label_past_header : (ws : List ℕ) (i v x : ℕ) → i < header_words → label_at (set ws i v) x ≡ label_at ws x
unfolding label_at records_at
label_past_header ws i v x small = get_or-set_other ws i _ v 0 (λ e. omega arith)

-- WORDS IN FRONT of others
pub with_field_front : (ws rest : List ℕ) (x k v : ℕ) → Room ws x → k < tag_words → with_field (ws ++ rest) x k v ≡ with_field ws x k v ++ rest
unfolding with_field records_at
with_field_front ws rest x k v room small = set-append_left ws rest (header_words + tag_words * x + k) v (omega arith)

pub with_label_front : (ws rest : List ℕ) (x l : ℕ) → Room ws x → with_label (ws ++ rest) x l ≡ with_label ws x l ++ rest
unfolding with_label records_at
with_label_front ws rest x l room = set-append_left ws rest (header_words + tag_words * x) l (omega arith)

pub field_front : (ws rest : List ℕ) (x k : ℕ) → Room ws x → k < tag_words → field (ws ++ rest) x k ≡ field ws x k
unfolding field records_at
field_front ws rest x k room small = get_or-append ws rest 0 (header_words + tag_words * x + k) (omega arith)

pub label_front : (ws rest : List ℕ) (x : ℕ) → Room ws x → label_at (ws ++ rest) x ≡ label_at ws x
unfolding label_at records_at
label_front ws rest x room = get_or-append ws rest 0 (header_words + tag_words * x) (omega arith)

-- the words of n tags by themselves
module _ (n : ℕ) (ws : List ℕ) (room : words_for header_words n ≤ length ws) where
  pub word_take : (i : ℕ) → i < header_words → word_at (take (words_for header_words n) ws) i ≡ word_at ws i
  word_take i l = get_or-take (words_for header_words n) ws i 0 (omega (arith, header_fits n))

  pub field_take : (x k : ℕ) → x < n → k < tag_words → field (take (words_for header_words n) ws) x k ≡ field ws x k
  unfolding words_for field records_at
  field_take x k l small = get_or-take (header_words + tag_words * n) ws (header_words + tag_words * x + k) 0 (omega arith)

  pub label_take : (x : ℕ) → x < n → label_at (take (words_for header_words n) ws) x ≡ label_at ws x
  unfolding words_for label_at records_at
  label_take x l = get_or-take (header_words + tag_words * n) ws (header_words + tag_words * x) 0 (omega arith)

-- THE WORDS OF n TAGS with the same header, labels and fields are the same
by_part : (P : ℕ → Type 0) → P 0 → ((k : ℕ) → label_words ≤ k → P k) → (k : ℕ) → P k
by_part P first others zero = first
by_part P first others (suc k) = others (suc k) (omega arith)

pub fields_tell : (n : ℕ) (ws vs : List ℕ) → length ws ≡ words_for header_words n → length vs ≡ words_for header_words n →
    ((i : ℕ) → i < header_words → word_at ws i ≡ word_at vs i) → ((x : ℕ) → x < n → label_at ws x ≡ label_at vs x) →
    ((x k : ℕ) → x < n → label_words ≤ k → k < tag_words → field ws x k ≡ field vs x k) → ws ≡ vs
unfolding words_for field label_at records_at
fields_tell n ws vs many as_many header labels fields =
    ext_get_or 0 ws vs (cc)
    (λ i l. by_test (ltb i header_words) (λ e. header i (ltb-true i header_words e))
    (λ e. let x : ℕ = (i - header_words) / tag_words in
    let k : ℕ = (i - header_words) % tag_words in
    let far = ltb-false i header_words e in
    let parts : tag_words * x + k ≡ i - header_words = div-add-mod (i - header_words) tag_words in
    let small : k < tag_words = mod-lt (i - header_words) (omega arith) in
    let here : i ≡ header_words + tag_words * x + k = omega arith in
    rw here
    (by_part (λ (j : ℕ). j < tag_words → get_or ws (header_words + tag_words * x + j) 0 ≡ get_or vs (header_words + tag_words * x + j) 0)
    (λ first. simp add-zero (labels x (omega arith))) (λ j past below. fields x j (omega arith) past below) k small)))

-- a fact of each field, by its place in the record
pub by_field : (P : ℕ → Type 0) → P at_next → P at_prior → P at_mate → P at_up → P at_kind → P at_depth → (k : ℕ) → label_words ≤ k → k < tag_words → P k
by_field P a b c d e f zero past small = absurd (omega arith)
by_field P a b c d e f (suc zero) past small = a
by_field P a b c d e f (suc (suc zero)) past small = b
by_field P a b c d e f (suc (suc (suc zero))) past small = c
by_field P a b c d e f (suc (suc (suc (suc zero)))) past small = d
by_field P a b c d e f (suc (suc (suc (suc (suc zero))))) past small = e
by_field P a b c d e f (suc (suc (suc (suc (suc (suc zero)))))) past small = f
by_field P a b c d e f (suc (suc (suc (suc (suc (suc (suc k))))))) past small = absurd (omega arith)
