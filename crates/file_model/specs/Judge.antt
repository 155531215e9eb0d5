-- Whether bytes of the form are the file of a book, decided from the bytes: the records stand in the order of next, and the
-- words that they say pass the soundness walk. Follows the code of crate file_walk; and how a read book is written, record by
-- record, which follows that of crate file_read. Assumes nothing: these are definitions.
use Rattle.std.specs.Prelude.{Bool, true, ◌&&◌, not, List, [], ◌∷◌, ℕ, zero, suc, ltb, eqb, get_or}
use Rattle.store_types.specs.Layout.{at_first, at_next, at_prior, at_mate, at_up, at_kind, at_depth, word_at, with_field, with_label}
use Rattle.store_types.specs.FileLayout.{at_number, at_label}
use Rattle.tree.specs.Row.{member}
use Rattle.calls.specs.Kind.{depth_after}
use Rattle.calls.specs.File.{header_in, count_in, rows_in, row_kind, row_number, file_words}
use Rattle.walk_model.specs.Walk.{words_pass}

-- a word of the i-th row
abbrev pub row_word : (rows : List (List ℕ)) → (i k : ℕ) → ℕ
row_word rows i k = get_or (get_or rows i []) k 0

-- the numbers of the first i rows, the last in front
unfoldable pub met_before : (rows : List (List ℕ)) → (i : ℕ) → List ℕ
met_before rows zero = []
met_before rows (suc i) = row_word rows i at_number ∷ met_before rows i

-- how many begins are open before the i-th row, where d are before the first (document 02, CR 7)
unfoldable pub opens_before : (d : ℕ) → (rows : List (List ℕ)) → (i : ℕ) → ℕ
opens_before d rows zero = d
opens_before d rows (suc i) = depth_after (row_kind (get_or rows i [])) (opens_before d rows i)

-- rows from a tag on: each is that of the tag that is due, which is one of n and not met before
unfoldable pub in_order : (n due : ℕ) → (met : List ℕ) → (rows : List (List ℕ)) → Bool
in_order n x met [] = true
in_order n x met (row ∷ rows) =
    let rest = in_order n (get_or row (suc at_next) 0) (x ∷ met) rows in (eqb (row_number row) x && (ltb x n && not (member x met))) && rest

unfoldable pub judged : (bytes : List ℕ) → Bool
judged bs = in_order (count_in bs) (word_at (header_in bs) at_first) [] (rows_in bs) && words_pass (file_words bs)

-- WRITING A READ BOOK. The words of a row with its depth (`deepened`) into the record of its number, and such rows one after the other
unfoldable pub with_row : (words row : List ℕ) → List ℕ
with_row ws row =
    let x = row_number row in
    with_field
    (with_field
    (with_field
    (with_field (with_field (with_field (with_label ws x (get_or row at_label 0)) x at_next (get_or row (suc at_next) 0)) x at_prior (get_or row (suc at_prior) 0)) x at_mate (get_or row (suc at_mate) 0))
    x at_up (get_or row (suc at_up) 0))
    x at_kind (get_or row (suc at_kind) 0))
    x at_depth (get_or row (suc at_depth) 0)

unfoldable pub with_rows : (words : List ℕ) → (rows : List (List ℕ)) → List ℕ
with_rows ws [] = ws
with_rows ws (row ∷ rows) = with_rows (with_row ws row) rows
