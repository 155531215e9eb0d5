-- What the call on a sheet replies, and what the lent list then holds, for every text and list (document 02, CR 1).
-- Assumes nothing: these are definitions.
use Rattle.std.specs.Prelude.{cond, List, [], ℕ, ltb, length, Result, Ok, Err}
use Rattle.lists.specs.Fronts.{replied, written}
use Rattle.xml.specs.Reader.{Reading, accepted, refused, read_sheet}

-- a lent list that is shorter than the count
abbrev pub list_short : ℕ
list_short = 11

-- the text's own refusal first; 0 where it is accepted
unfoldable pub sheet_refusal : (room : ℕ) → Reading → ℕ
sheet_refusal m (refused n) = n
sheet_refusal m (accepted ks) = cond (ltb m (length ks)) list_short 0

unfoldable pub kinds_in : Reading → List ℕ
kinds_in (accepted ks) = ks
kinds_in (refused n) = []

unfoldable pub sheet_reply : (text list : List ℕ) → Result ℕ ℕ
sheet_reply bs ls =
    let q = read_sheet bs in
    replied Err (sheet_refusal (length ls) q) (Ok (length (kinds_in q)))

unfoldable pub sheet_list : (text list : List ℕ) → List ℕ
sheet_list bs ls = let q = read_sheet bs in written (sheet_refusal (length ls) q) (kinds_in q) ls
