-- Reading a file: how many rows there are and how long each is, each with its depth, the words that the file says word by word, and
-- that a row whose number no row before it has gives its tag's words. Assumes nothing.
use mathlib.Core.Path.{◌≡◌, refl, ap, sym, ◌∙◌}
use mathlib.Core.Bool.{false}
use mathlib.Core.List.{List, [], ◌∷◌, ◌++◌, append-nil}
use Prim.Native.Nat.{ℕ, zero, suc, ◌+◌, ◌≤◌, ◌<◌}
use native.Mathlib.Nat.{not-suc-le-zero, le_of_suc-le-suc}
use native.Mathlib.Omega.{arith}
use borrow.Author.Tests.{eq-eqb, ne_eqb, eqb-false}
use lib.Dec.{eqb}
use lib.ListN.{length, get_or, drop, length-append, length-drop, get_or-append}
use lib.Seq.{get_or-drop, get_or-append-add}
use Rattle.lists.proofs.Tests.{by_test, or_left_false, or_right_false}
use Rattle.store_types.specs.Layout.{header_words, at_depth, tag_words, words_for, field, label_at}
use Rattle.store_types.specs.FileLayout.{kept_words, front_bytes, row_words, row_bytes, at_number, at_label}
use Rattle.words.proofs.Records.{length_joined, field_joined, label_joined}
use Rattle.tree.specs.Row.{member}
use Rattle.tree_laws.proofs.Rows.{member_append}
use Rattle.calls.specs.Kind.{own_depth, depth_after}
use Rattle.calls.specs.File.{header_in, count_in, rows_from, rows_in, row_kind, row_number, deepened, record_in, file_words}
use Rattle.calls_laws.proofs.FileRecords.{length_words_in}
use Rattle.calls_laws.proofs.FileForm.{length_rows}
use Rattle.file_model.specs.Judge.{row_word, met_before, opens_before}

-- HOW MANY WORDS AND ROWS

pub length_header_in : (bs : List ℕ) → length (header_in bs) ≡ header_words
unfolding header_in
length_header_in bs = ap suc (length_words_in row_words (drop front_bytes bs))

length_row_from : (m : ℕ) (bs : List ℕ) (i : ℕ) → i < m → length (get_or (rows_from m bs) i []) ≡ row_words
unfolding rows_from
length_row_from zero bs i l = absurd (not-suc-le-zero l)
length_row_from (suc m) bs zero l = length_words_in row_words (drop front_bytes bs)
length_row_from (suc m) bs (suc i) l = length_row_from m (drop row_bytes bs) i (le_of_suc-le-suc l)

pub length_row : (bs : List ℕ) (i : ℕ) → i < count_in bs → length (get_or (rows_in bs) i []) ≡ row_words
unfolding rows_in
length_row bs = length_row_from (count_in bs) (drop row_bytes bs)

abbrev pub AllLong : List (List ℕ) → Type 0
AllLong rows = (i : ℕ) → i < length rows → length (get_or rows i []) ≡ row_words

pub all_long : (bs : List ℕ) → AllLong (rows_in bs)
all_long bs i l = length_row bs i (omega (arith, length_rows bs))

-- EACH WITH ITS DEPTH (document 02, CR 7). The number of open begins before a row, seen from the first row on
pub opens_later : (d : ℕ) (row : List ℕ) (rows : List (List ℕ)) (i : ℕ) → opens_before d (row ∷ rows) (suc i) ≡ opens_before (depth_after (row_kind row) d) rows i
unfolding opens_before
opens_later d row rows zero = refl
opens_later d row rows (suc i) = ap (depth_after (row_kind (get_or rows i []))) (opens_later d row rows i)

length_deepened : (d : ℕ) (rows : List (List ℕ)) → length (deepened d rows) ≡ length rows
unfolding deepened
length_deepened d [] = refl
length_deepened d (row ∷ rows) = ap suc (length_deepened (depth_after (row_kind row) d) rows)

row_deepened : (d : ℕ) (rows : List (List ℕ)) (i : ℕ) → i < length rows →
    get_or (deepened d rows) i [] ≡ get_or rows i [] ++ own_depth (row_kind (get_or rows i [])) (opens_before d rows i) ∷ []
unfolding deepened opens_before
row_deepened d [] i l = absurd (not-suc-le-zero l)
row_deepened d (row ∷ rows) zero l = refl
row_deepened d (row ∷ rows) (suc i) l = rw (opens_later d row rows i) (row_deepened (depth_after (row_kind row) d) rows i (le_of_suc-le-suc l))

-- the words of a row stay, and its depth is the last
pub word_before : (row : List ℕ) (depth k : ℕ) → length row ≡ row_words → k < row_words → get_or (row ++ depth ∷ []) k 0 ≡ get_or row k 0
word_before row depth k long small = get_or-append row (depth ∷ []) 0 k (omega arith)

pub depth_last : (row : List ℕ) (depth : ℕ) → length row ≡ row_words → get_or (row ++ depth ∷ []) (suc at_depth) 0 ≡ depth
depth_last row depth long = let last : suc at_depth ≡ length row + 0 = omega arith in rw last (get_or-append-add row (depth ∷ []) 0 0)

module _ (d : ℕ) (rows : List (List ℕ)) (long : AllLong rows) where
  word_kept : (i k : ℕ) → i < length rows → k < row_words → row_word (deepened d rows) i k ≡ row_word rows i k
  word_kept i k l small = rw (row_deepened d rows i l) (word_before (get_or rows i []) _ k (long i l) small)

  depth_put : (i : ℕ) → i < length rows → row_word (deepened d rows) i (suc at_depth) ≡ own_depth (row_kind (get_or rows i [])) (opens_before d rows i)
  depth_put i l = rw (row_deepened d rows i l) (depth_last (get_or rows i []) _ (long i l))

  met_same : (i : ℕ) → i ≤ length rows → met_before (deepened d rows) i ≡ met_before rows i
  unfolding met_before
  met_same zero l = refl
  met_same (suc i) l = rw (word_kept i at_number (omega arith) (omega arith), met_same i (omega arith))

-- the record that such rows give a tag, be it one of theirs or not
length_record_of : (d : ℕ) (rows : List (List ℕ)) (x : ℕ) → AllLong rows → length (record_in (deepened d rows) x) ≡ tag_words
unfolding deepened record_in
length_record_of d [] x long = refl
length_record_of d (row ∷ rows) x long =
    let full = row ++ own_depth (row_kind row) d ∷ [] in
    by_test (eqb (row_number full) x)
    (λ e. rw e (length-drop 1 full ∙ omega (arith, length-append row (own_depth (row_kind row) d ∷ []), long 0 (omega arith))))
    (λ e. rw e (length_record_of (depth_after (row_kind row) d) rows x (λ i l. long (suc i) (omega arith))))

-- THE WORDS THAT A FILE SAYS: how many, and those of a tag
module _ (bs : List ℕ) where
  abbrev full_rows : List (List ℕ)
  full_rows = deepened 0 (rows_in bs)

  length_record : (x : ℕ) → length (record_in full_rows x) ≡ tag_words
  length_record x = length_record_of 0 (rows_in bs) x (all_long bs)

  pub length_file_words : length (file_words bs) ≡ words_for header_words (count_in bs)
  unfolding file_words
  length_file_words = length_joined (header_in bs) (record_in full_rows) (count_in bs) (length_header_in bs) length_record

  pub field_read : (x k : ℕ) → x < count_in bs → k < tag_words → field (file_words bs) x k ≡ get_or (record_in full_rows x) k 0
  unfolding file_words
  field_read x k own small =
      rw append-nil at (field_joined (header_in bs) (record_in full_rows) (count_in bs) (length_header_in bs) length_record [] x own k small)

  pub label_read : (x : ℕ) → x < count_in bs → label_at (file_words bs) x ≡ get_or (record_in full_rows x) 0 0
  unfolding file_words
  label_read x own =
      rw append-nil at (label_joined (header_in bs) (record_in full_rows) (count_in bs) (length_header_in bs) length_record [] x own)

-- A ROW WHOSE NUMBER IS FRESH. The numbers before a row, seen from the first row on
pub met_later : (row : List ℕ) (rows : List (List ℕ)) (i : ℕ) → met_before (row ∷ rows) (suc i) ≡ met_before rows i ++ (row_number row ∷ [])
unfolding met_before
met_later row rows zero = refl
met_later row rows (suc i) = ap (λ (xs : List ℕ). row_word rows i at_number ∷ xs) (met_later row rows i)

-- it is the first with that number, so it gives the record
pub fresh_record : (rows : List (List ℕ)) (i : ℕ) → i < length rows → member (row_word rows i at_number) (met_before rows i) ≡ false →
    record_in rows (row_word rows i at_number) ≡ drop 1 (get_or rows i [])
unfolding record_in member
fresh_record [] i l fresh = absurd (not-suc-le-zero l)
fresh_record (row ∷ rows) zero l fresh = rw (eq-eqb (row_number row) (row_number row) refl)
fresh_record (row ∷ rows) (suc i) l fresh =
    let x = row_word rows i at_number in
    let parts = sym (member_append x (met_before rows i) (row_number row ∷ [])) ∙ (rw (met_later row rows i) at fresh) in
    let other = or_left_false (eqb x (row_number row)) _ (or_right_false (member x (met_before rows i)) _ parts) in
    rw (ne_eqb (row_number row) x (λ same. eqb-false x (row_number row) other (sym same)))
    (fresh_record rows i (le_of_suc-le-suc l) (or_left_false (member x (met_before rows i)) _ parts))

-- so the words that the file says of its tag are the row's, and the depth after them
module _ (bs : List ℕ) (i : ℕ) (inside : i < count_in bs) (own : row_word (rows_in bs) i at_number < count_in bs)
    (fresh : member (row_word (rows_in bs) i at_number) (met_before (rows_in bs) i) ≡ false) where
  among : i < length (rows_in bs)
  among = omega (arith, length_rows bs)

  fresh_word : (k : ℕ) → get_or (record_in (full_rows bs) (row_word (rows_in bs) i at_number)) k 0 ≡ row_word (full_rows bs) i (suc k)
  fresh_word k =
      let behind : 1 + k ≡ suc k = omega arith in
      let number = word_kept 0 (rows_in bs) (all_long bs) i at_number among (omega arith) in
      let met = met_same 0 (rows_in bs) (all_long bs) i (omega (arith, among)) in
      let first = fresh_record (full_rows bs) i (rw (length_deepened 0 (rows_in bs)) among) (rw (number, met) fresh) in
      ap (λ (ws : List ℕ). get_or ws k 0) (rw number at first) ∙ (rw behind at (get_or-drop 1 (get_or (full_rows bs) i []) k 0))

  pub fresh_field : (k : ℕ) → k < kept_words → field (file_words bs) (row_word (rows_in bs) i at_number) k ≡ row_word (rows_in bs) i (suc k)
  fresh_field k small =
      field_read bs (row_word (rows_in bs) i at_number) k own (omega arith)
      ∙ fresh_word k
      ∙ word_kept 0 (rows_in bs) (all_long bs) i (suc k) among (omega arith)

  pub fresh_label : label_at (file_words bs) (row_word (rows_in bs) i at_number) ≡ row_word (rows_in bs) i at_label
  fresh_label =
      label_read bs (row_word (rows_in bs) i at_number) own ∙ fresh_word 0 ∙ word_kept 0 (rows_in bs) (all_long bs) i at_label among (omega arith)

  pub fresh_depth : field (file_words bs) (row_word (rows_in bs) i at_number) at_depth ≡ own_depth (row_kind (get_or (rows_in bs) i [])) (opens_before 0 (rows_in bs) i)
  fresh_depth =
      field_read bs (row_word (rows_in bs) i at_number) at_depth own (omega arith) ∙ fresh_word at_depth ∙ depth_put 0 (rows_in bs) (all_long bs) i among
