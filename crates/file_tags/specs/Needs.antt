-- What is asked of one row of a file, and what is said of it: `file_words` are the words that the file says. Assumes nothing: these
-- are definitions.
use Rattle.std.specs.Prelude.{◌≡◌, Bool, ◌&&◌, not, List, [], ℕ, suc, ◌≤◌, ◌<◌, ltb, eqb, length, get_or}
use Rattle.store_types.specs.Limits.{no_tag, most_tags}
use Rattle.store_types.specs.Layout.{at_depth, field, label_at}
use Rattle.store_types.specs.FileLayout.{kept_words, file_bytes, at_number, at_label}
use Rattle.tree.specs.Row.{member}
use Rattle.calls.specs.Kind.{own_depth}
use Rattle.calls.specs.File.{count_in, rows_in, row_kind, file_words}
use Rattle.file_model.specs.Judge.{row_word, met_before, opens_before}

-- the number of the i-th row
abbrev pub number_at : (bytes : List ℕ) → (i : ℕ) → ℕ
number_at bs i = row_word (rows_in bs) i at_number

-- the i-th row is one of the file, and gives the words of its tag; its depth is that which the kinds so far give (document 02, CR 7)
pub record RowRead (bs : List ℕ) (i : ℕ) : Type 0 where
  pub inside : i < count_in bs
  pub below : number_at bs i < count_in bs
  pub label : label_at (file_words bs) (number_at bs i) ≡ row_word (rows_in bs) i at_label
  pub fields : (k : ℕ) → k < kept_words → field (file_words bs) (number_at bs i) k ≡ row_word (rows_in bs) i (suc k)
  pub depth : field (file_words bs) (number_at bs i) at_depth ≡ own_depth (row_kind (get_or (rows_in bs) i [])) (opens_before 0 (rows_in bs) i)

-- ONE TAG: its row is read, and so is that of the innermost open begin, which stands at `top`
pub record TagRow (bs : List ℕ) (place x o top : ℕ) : Type 0 where
  pub long : length bs ≡ file_bytes (count_in bs)
  pub few : count_in bs ≤ most_tags
  pub own : x ≡ number_at bs place
  pub read : RowRead bs place
  pub open_row : (o ≡ no_tag → ⊥) → (o ≡ number_at bs top) × RowRead bs top

-- its number is the one that is due, of a tag, and not met before
unfoldable pub number_passes : (bytes : List ℕ) → (place due : ℕ) → Bool
number_passes bs i x = eqb (number_at bs i) x && (ltb x (count_in bs) && not (member x (met_before (rows_in bs) i)))
