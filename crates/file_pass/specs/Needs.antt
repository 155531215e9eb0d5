-- What the judging pass over a file asks and keeps beside what the soundness walk does: `ws` of the walk are the words that the
-- file says. Assumes nothing: these are definitions.
use Rattle.std.specs.Prelude.{◌≡◌, Bool, ◌&&◌, cond, List, ◌⊎◌, ℕ, zero, suc, ◌*◌, ◌≤◌, ◌<◌, length, get_or, drop}
use Rattle.std.specs.declared.result.Result.{Result}
use Rattle.std.specs.Prelude.{Ok, Err}
use Rattle.store_types.specs.Limits.{no_tag}
use Rattle.store_types.specs.Layout.{at_first, at_up, word_at}
use Rattle.store_types.specs.FileLayout.{file_bytes}
use Rattle.calls.specs.File.{header_in, count_in, rows_in, file_words}
use Rattle.number_set.specs.Bits.{Holds}
use Rattle.shape.specs.Packed.{widths_in}
use Rattle.shape.specs.declared.Tables as by_height
use Rattle.walk_model.specs.Walk.{walk}
use Rattle.walk.specs.Needs.{PassFits, shape_in, start_with}
use Rattle.walk.specs.declared.State as code
use Rattle.file_model.specs.Judge.{row_word, met_before, opens_before, in_order}
use Rattle.file_tags.specs.Needs.{number_at, RowRead}
use Rattle.file_pass.specs.declared.Fault.{Fault}
use Rattle.file_pass.specs.declared.Fault.TheVariants.{TooDeep, Unsound}

-- THE OPEN BEGINS at place i, the innermost being o: so many places of rows before i, of each of which the up is the number of the
-- one below it
unfoldable pub Opened : (bytes : List ℕ) → (i : ℕ) → (opens : List ℕ) → (depth o : ℕ) → Type 0
Opened bs i opens zero o = o ≡ no_tag
Opened bs i opens (suc d) o =
    let p = get_or opens d 0 in (p < i) × (o ≡ number_at bs p) × Opened bs i opens d (row_word (rows_in bs) p (suc at_up))

-- WHERE THE PASS STANDS: what is left of the order; the numbers met, the rows read, the begins that are open, and that they are as
-- many as the kinds say
unfoldable pub order_left : (bytes : List ℕ) → (place due : ℕ) → Bool
order_left bs i x = in_order (count_in bs) x (met_before (rows_in bs) i) (drop i (rows_in bs))

pub record MetSoFar (bs : List ℕ) (v : code.State) (met opens : List ℕ) : Type 0 where
  pub holds : Holds met (met_before (rows_in bs) v.place)
  pub reads : (j : ℕ) → j < v.place → RowRead bs j
  pub opened : Opened bs v.place opens v.depth v.parent.0
  pub counted : v.depth ≡ opens_before 0 (rows_in bs) v.place

-- THE JUDGEMENT: sound or not, or too deep for the places that are lent, which is so only where these are less than half of n
abbrev pub judgement : Bool → Result (Unit {0}) Fault
judgement whole = cond whole (Ok tt) (Err Unsound)

abbrev pub JudgedSo : (q : Result (Unit {0}) Fault) → (whole : Bool) → (room n : ℕ) → Type 0
JudgedSo q whole room n = (q ≡ judgement whole) ⊎ ((q ≡ Err TooDeep) × (2 * room ≤ n))

-- what the pass asks: the bytes are as long as they must be, the header is theirs, and the walk's tables fit
pub record FileFits (bs header : List ℕ) (n under : ℕ) (tables : by_height.Tables) : Type 0 where
  pub long : length bs ≡ file_bytes (count_in bs)
  pub header_is : header ≡ header_in bs
  pub counted : n ≡ count_in bs
  pub walk_fits : PassFits (file_words bs) n under tables

-- what it decides: the order of the rows, and the walk
abbrev pub passes_all : (bytes : List ℕ) → (tables : by_height.Tables) → (under n : ℕ) → Bool
passes_all bs t u n =
    order_left bs 0 (word_at (header_in bs) at_first) && walk (file_words bs) (shape_in t u n) n 0 (start_with (file_words bs) (widths_in t))
