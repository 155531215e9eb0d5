-- Where the words of a file's records stand in its bytes. Assumes nothing.
use mathlib.Core.Path.{◌≡◌, refl, ◌∙◌}
use mathlib.Core.List.{List, []}
use Prim.Native.Nat.{ℕ, zero, suc, ◌+◌, ◌*◌, ◌-◌, ◌≤◌, ◌<◌}
use native.Mathlib.Nat.{not-suc-le-zero, le_of_suc-le-suc}
use native.Mathlib.Omega.{arith}
use lib.ListN.{get_or, drop}
use lib.Seq.{drop-drop}
use Rattle.store_types.specs.Layout.{header_words, word_at}
use Rattle.store_types.specs.FileLayout.{word_bytes, front_bytes, row_words, row_bytes, record_place, row_place}
use Rattle.little_endian.specs.Numbers.{number_in}
use Rattle.calls.specs.File.{words_in, header_in, count_in, rows_from, rows_in}
use Rattle.file_model.specs.Judge.{row_word}

words_at : (m k : ℕ) (bs : List ℕ) → k < m → get_or (words_in m bs) k 0 ≡ number_in word_bytes (drop (word_bytes * k) bs)
unfolding words_in
words_at zero k bs l = absurd (not-suc-le-zero l)
words_at (suc m) zero bs l = refl
words_at (suc m) (suc k) bs l =
    let past : word_bytes * suc k ≡ word_bytes + word_bytes * k = omega arith in
    words_at m k (drop word_bytes bs) (le_of_suc-le-suc l) ∙ rw (past, drop-drop (word_bytes * k) word_bytes bs)

rows_at : (m i : ℕ) (bs : List ℕ) → i < m → get_or (rows_from m bs) i [] ≡ words_in row_words (drop front_bytes (drop (row_bytes * i) bs))
unfolding rows_from
rows_at zero i bs l = absurd (not-suc-le-zero l)
rows_at (suc m) zero bs l = refl
rows_at (suc m) (suc i) bs l =
    let past : row_bytes * suc i ≡ row_bytes + row_bytes * i = omega arith in
    rows_at m i (drop row_bytes bs) (le_of_suc-le-suc l) ∙ rw (past, drop-drop (row_bytes * i) row_bytes bs)

header_next : (bs : List ℕ) (k : ℕ) → k < row_words → word_at (header_in bs) (suc k) ≡ number_in word_bytes (drop (front_bytes + word_bytes * k) bs)
unfolding header_in
header_next bs k l = words_at row_words k (drop front_bytes bs) l ∙ rw (drop-drop (word_bytes * k) front_bytes bs)

-- a word of the header: its first is not in the file
pub header_at : (bs : List ℕ) (k : ℕ) → 1 ≤ k → k < header_words → word_at (header_in bs) k ≡ number_in word_bytes (drop (front_bytes + word_bytes * (k - 1)) bs)
header_at bs zero low l = absurd (omega arith)
header_at bs (suc k) low l =
    let one : suc k - 1 ≡ k = omega arith in
    rw one (header_next bs k (omega arith))

-- a word of a tag's record
pub row_at : (bs : List ℕ) (i k : ℕ) → i < count_in bs → k < row_words → row_word (rows_in bs) i k ≡ number_in word_bytes (drop (row_place i + word_bytes * k) bs)
unfolding rows_in
row_at bs i k l small =
    rw (
      rows_at (count_in bs) i (drop row_bytes bs) l,
      drop-drop (row_bytes * i) row_bytes bs,
      drop-drop front_bytes (record_place i) bs,
      words_at row_words k (drop (row_place i) bs) small,
      drop-drop (word_bytes * k) (row_place i) bs,
    )
