-- What writing a read book asks. Assumes nothing: these are definitions.
use Rattle.std.specs.Prelude.{◌≡◌, List, ℕ, suc, ◌%◌, ◌≤◌, ◌<◌, length}
use Rattle.store_types.specs.Layout.{at_kind, Room}
use Rattle.store_types.specs.FileLayout.{file_bytes, at_number}
use Rattle.calls.specs.File.{count_in, rows_in}
use Rattle.kind_pick.specs.Needs.{KindWord}
use Rattle.file_model.specs.Judge.{row_word, opens_before}

-- bytes as long as the file of n tags, and words with room for the record that each row names; each row has a kind's word, and a begin
-- is open before an end
pub record RowsFit (bs : List ℕ) (n : ℕ) (ws : List ℕ) : Type 0 where
  pub long : length bs ≡ file_bytes (count_in bs)
  pub all : n ≡ count_in bs
  pub rooms : (i : ℕ) → i < n → Room ws (row_word (rows_in bs) i at_number)
  pub kinds : (i : ℕ) → i < n → KindWord (row_word (rows_in bs) i (suc at_kind))
  pub opened : (i : ℕ) → i < n → row_word (rows_in bs) i (suc at_kind) % 16 ≡ 2 → 1 ≤ opens_before 0 (rows_in bs) i
