-- Writing a read book row by row: each row writes the words of its tag's record and nothing else, so the rows of a sound store
-- behind its header leave its words. Assumes nothing.
use mathlib.Core.Path.{◌≡◌, refl, sym, ◌∙◌}
use mathlib.Core.Bool.{true, false, true≢false, false≢true}
use mathlib.Core.List.{List, [], ◌∷◌, map}
use Prim.Native.Nat.{ℕ, suc, ◌-◌, ◌≤◌, ◌<◌}
use native.Mathlib.Omega.{arith}
use borrow.Author.Tests.{eqb-true, eqb-false}
use lib.Dec.{eqb}
use lib.ListN.{length, get_or, drop}
use Rattle.lists.proofs.Tests.{by_test, or_left_false, or_right_false}
use Rattle.lists.specs.Fronts.{in_front}
use Rattle.lists.proofs.Fronts.{length_in_front, drop_in_front}
use Rattle.store_types.specs.Layout.{header_words, label_words, at_next, at_prior, at_mate, at_up, at_kind, at_depth, tag_words, word_at, words_for, field, label_at, with_field, with_label, Room}
use Rattle.store_types.specs.FileLayout.{at_label}
use Rattle.words.proofs.Fields.{header_fits, record_room, room_same, field_same, field_other_tag, field_other_word, label_same, label_other_tag, field_past_label, label_past_field, header_kept, header_kept_label, length_with_field, length_with_label, rest_with_field, rest_with_label}
use Rattle.words.proofs.Records.{header_of, record_of, rebuilt}
use Rattle.tree.specs.Row.{member}
use Rattle.tree_laws.proofs.Rows.{member_nil, member_cases, member_first, member_later, member_all_below, distinct_all_below}
use Rattle.calls.specs.Store.{Store, count, row}
use Rattle.calls.specs.Sound.{sound}
use Rattle.calls.specs.Words.{header, tag_record, words_of}
use Rattle.calls.specs.File.{tag_row, header_in, rows_in, deepened, row_number}
use Rattle.calls_laws.proofs.Tests.{facts_of}
use Rattle.calls_laws.proofs.Fields.{length_words}
use Rattle.calls_laws.proofs.Depths.{depths_of}
use Rattle.calls_laws.proofs.Files.{full_row, rows_deepened}
use Rattle.file_model.specs.Judge.{with_row, with_rows}

-- ONE ROW. Words with the first m words of a row's record written over others: all else is as it was
pub record RowWritten (ws ns : List ℕ) (m : ℕ) (vs : List ℕ) : Type 0 where
  pub long : length vs ≡ length ws
  pub header_word : (i : ℕ) → i < header_words → word_at vs i ≡ word_at ws i
  pub rest : (n : ℕ) → row_number ns < n → drop (words_for header_words n) vs ≡ drop (words_for header_words n) ws
  pub other_label : (y : ℕ) → (y ≡ row_number ns → ⊥) → label_at vs y ≡ label_at ws y
  pub other_field : (y k : ℕ) → (y ≡ row_number ns → ⊥) → label_words ≤ k → k < tag_words → field vs y k ≡ field ws y k
  pub own_label : Room ws (row_number ns) → label_at vs (row_number ns) ≡ get_or ns at_label 0
  pub own_field : Room ws (row_number ns) → (k : ℕ) → label_words ≤ k → k < m → field vs (row_number ns) k ≡ get_or ns (suc k) 0

label_written : (ws ns : List ℕ) → RowWritten ws ns label_words (with_label ws (row_number ns) (get_or ns at_label 0))
label_written ws ns =
    let x = row_number ns in
    let l = get_or ns at_label 0 in
    record {
      long = length_with_label ws x l;
      header_word = λ i small. header_kept_label ws x l i small;
      rest = λ n own. rest_with_label ws x l n own;
      other_label = λ y other. label_other_tag ws x y l other;
      other_field = λ y k other past small. field_past_label ws x y l k past small;
      own_label = λ room. label_same ws x l room;
      own_field = λ room k past small. absurd (omega arith);
    }

field_written : (ws ns vs : List ℕ) (m : ℕ) → label_words ≤ m → m < tag_words → RowWritten ws ns m vs →
    RowWritten ws ns (suc m) (with_field vs (row_number ns) m (get_or ns (suc m) 0))
field_written ws ns vs m past small h =
    let x = row_number ns in
    let v = get_or ns (suc m) 0 in
    record {
      long = length_with_field vs x m v ∙ h.long;
      header_word = λ i l. header_kept vs x m v i l ∙ h.header_word i l;
      rest = λ n own. rest_with_field vs x m v n own small ∙ h.rest n own;
      other_label = λ y other. label_past_field vs x y m v past small ∙ h.other_label y other;
      other_field = λ y k other behind l. field_other_tag vs x y m k v small l other ∙ h.other_field y k other behind l;
      own_label = λ room. label_past_field vs x x m v past small ∙ h.own_label room;
      own_field = λ room k behind l.
          by_test (eqb k m)
          (λ e. rw (eqb-true k m e) (field_same vs x m v (room_same room h.long) small))
          (λ e. let before : k < m = omega (arith, eqb-false k m e) in
          field_other_word vs x x m k v small (omega arith) (eqb-false k m e) ∙ h.own_field room k behind before);
    }

pub row_written : (ws ns : List ℕ) → RowWritten ws ns tag_words (with_row ws ns)
unfolding with_row
row_written ws ns =
    field_written ws ns _ at_depth (omega arith) (omega arith)
    (field_written ws ns _ at_kind (omega arith) (omega arith)
    (field_written ws ns _ at_up (omega arith) (omega arith)
    (field_written ws ns _ at_mate (omega arith) (omega arith)
    (field_written ws ns _ at_prior (omega arith) (omega arith)
    (field_written ws ns _ at_next (omega arith) (omega arith) (label_written ws ns))))))

pub length_with_row : (ws ns : List ℕ) → length (with_row ws ns) ≡ length ws
length_with_row ws ns = (row_written ws ns).long

pub header_with_row : (ws ns : List ℕ) (i : ℕ) → i < header_words → word_at (with_row ws ns) i ≡ word_at ws i
header_with_row ws ns = (row_written ws ns).header_word

-- ROWS ONE AFTER THE OTHER
pub length_with_rows : (ws : List ℕ) (rows : List (List ℕ)) → length (with_rows ws rows) ≡ length ws
unfolding with_rows
length_with_rows ws [] = refl
length_with_rows ws (ns ∷ rows) = length_with_rows (with_row ws ns) rows ∙ length_with_row ws ns

pub header_with_rows : (ws : List ℕ) (rows : List (List ℕ)) (i : ℕ) → i < header_words → word_at (with_rows ws rows) i ≡ word_at ws i
unfolding with_rows
header_with_rows ws [] i l = refl
header_with_rows ws (ns ∷ rows) i l = header_with_rows (with_row ws ns) rows i l ∙ header_with_row ws ns i l

-- words that agree in the header, or in a tag's record, have the same there
header_of_same : (vs ws : List ℕ) → ((i : ℕ) → i < header_words → word_at vs i ≡ word_at ws i) → header_of vs ≡ header_of ws
header_of_same vs ws h =
    rw (h 0 (omega arith), h 1 (omega arith), h 2 (omega arith), h 3 (omega arith), h 4 (omega arith), h 5 (omega arith), h 6 (omega arith), h 7 (omega arith))

record_of_same : (vs ws : List ℕ) (x : ℕ) → label_at vs x ≡ label_at ws x →
    ((k : ℕ) → label_words ≤ k → k < tag_words → field vs x k ≡ field ws x k) → record_of vs x ≡ record_of ws x
record_of_same vs ws x label f =
    rw (
      label,
      f at_next (omega arith) (omega arith),
      f at_prior (omega arith) (omega arith),
      f at_mate (omega arith) (omega arith),
      f at_up (omega arith) (omega arith),
      f at_kind (omega arith) (omega arith),
      f at_depth (omega arith) (omega arith),
    )

-- THE ROWS OF A STORE'S TAGS with their depths, over any words that have room for their records
module _ (st : Store) where
  abbrev written : (ws xs : List ℕ) → List ℕ
  written ws xs = with_rows ws (map (full_row st) xs)

  -- a row writes its tag's record, and keeps those of others
  tag_written : (ws : List ℕ) (x : ℕ) → Room ws x → record_of (with_row ws (full_row st x)) x ≡ tag_record st x
  unfolding tag_record
  tag_written ws x room =
      let h = row_written ws (full_row st x) in
      rw (
        h.own_label room,
        h.own_field room at_next (omega arith) (omega arith),
        h.own_field room at_prior (omega arith) (omega arith),
        h.own_field room at_mate (omega arith) (omega arith),
        h.own_field room at_up (omega arith) (omega arith),
        h.own_field room at_kind (omega arith) (omega arith),
        h.own_field room at_depth (omega arith) (omega arith),
      )

  record_kept : (ws xs : List ℕ) (y : ℕ) → member y xs ≡ false → record_of (written ws xs) y ≡ record_of ws y
  unfolding with_rows member
  record_kept ws [] y out = refl
  record_kept ws (x ∷ xs) y out =
      let h = row_written ws (full_row st x) in
      let other = eqb-false y x (or_left_false (eqb y x) (member y xs) out) in
      record_kept (with_row ws (full_row st x)) xs y (or_right_false (eqb y x) (member y xs) out)
      ∙ record_of_same (with_row ws (full_row st x)) ws y (h.other_label y other) (λ k past small. h.other_field y k other past small)

  -- so rows write the record of each of their tags; one that stands twice writes the same again
  records_written : (ws xs : List ℕ) → ((x : ℕ) → member x xs ≡ true → Room ws x) → (y : ℕ) → member y xs ≡ true →
      record_of (written ws xs) y ≡ tag_record st y
  unfolding with_rows
  records_written ws [] rooms y m = absurd (false≢true (sym (member_nil y) ∙ m))
  records_written ws (x ∷ xs) rooms y m =
      let vs = with_row ws (full_row st x) in
      let later : (z : ℕ) → member z xs ≡ true → Room vs z =
      λ z k. room_same (rooms z (member_later z x xs k)) (length_with_row ws (full_row st x)) in
      by_test (member y xs) (λ k. records_written vs xs later y k)
      (λ out. member_cases y x xs m
      (λ e. record_kept vs xs y out ∙ (rw e (tag_written ws x (rooms x (member_first x xs)))))
      (λ e k. absurd (true≢false (sym k ∙ out))))

  -- and where each tag is one of n, what stands past the records of n tags is kept
  rest_written : (n : ℕ) (ws xs : List ℕ) → ((x : ℕ) → member x xs ≡ true → x < n) →
      drop (words_for header_words n) (written ws xs) ≡ drop (words_for header_words n) ws
  unfolding with_rows
  rest_written n ws [] own = refl
  rest_written n ws (x ∷ xs) own =
      rest_written n (with_row ws (full_row st x)) xs (λ z k. own z (member_later z x xs k))
      ∙ (row_written ws (full_row st x)).rest n (own x (member_first x xs))

-- A SOUND STORE'S HEADER AND ROWS leave its words
module _ (st : Store) (ws : List ℕ) (e : sound st ≡ true) (long : words_for header_words (count st) ≤ length ws) where
  abbrev front : List ℕ
  front = in_front (header st) ws

  length_front : length front ≡ length ws
  unfolding header
  length_front = length_in_front (header st) ws (omega (arith, header_fits (count st)))

  length_all : length (written st front (row st)) ≡ length ws
  length_all = length_with_rows front (map (full_row st) (row st)) ∙ length_front

  header_written : header st ≡ header_of (written st front (row st))
  unfolding header in_front
  header_written = sym (header_of_same (written st front (row st)) front (header_with_rows front (map (full_row st) (row st))))

  own : (x : ℕ) → member x (row st) ≡ true → x < count st
  own = (distinct_all_below (count st) (row st) (facts_of st e).each (facts_of st e).as_many).1

  tags_written : (x : ℕ) → x < count st → tag_record st x ≡ record_of (written st front (row st)) x
  tags_written x l =
      let rooms : (y : ℕ) → member y (row st) ≡ true → Room front y = λ y m. record_room (count st) y front (rw length_front long) (own y m) in
      sym (records_written st front (row st) rooms x (member_all_below (count st) x (row st) (facts_of st e).each l))

  rest_kept : drop (words_for header_words (count st)) (written st front (row st)) ≡ drop (words_for header_words (count st)) ws
  unfolding header
  rest_kept =
      rest_written st (count st) front (row st) own ∙ drop_in_front (header st) ws (words_for header_words (count st)) (header_fits (count st))

  store_written : written st front (row st) ≡ in_front (words_of st) ws
  unfolding in_front words_of
  store_written =
      rebuilt (written st front (row st)) (header st) (tag_record st) (count st) header_written tags_written (rw length_all long)
      ∙ rw (rest_kept, length_words st)

pub rows_written : (bs : List ℕ) (st : Store) (ws : List ℕ) → sound st ≡ true → rows_in bs ≡ map (tag_row st) (row st) → header_in bs ≡ header st →
    words_for header_words (count st) ≤ length ws → with_rows (in_front (header_in bs) ws) (deepened 0 (rows_in bs)) ≡ in_front (words_of st) ws
rows_written bs st ws e rows_are header_is long =
    let deep = depths_of st.facts 0 (row st) (facts_of st e).depths in
    rw (rows_are, header_is, rows_deepened st 0 (row st) deep.0 deep.1) (store_written st ws e long)
