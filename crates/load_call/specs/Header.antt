-- The header of a new store. Follows the code of src/lib.rt. Assumes nothing: these are definitions.
use Rattle.std.specs.Prelude.{cond, List, ℕ, eqb}
use Rattle.store_types.specs.Limits.{no_tag}
use Rattle.store_types.specs.Layout.{header_list}

-- the first of n tags, or no tag
unfoldable pub first_number : (n : ℕ) → ℕ
first_number n = cond (eqb n 0) no_tag 0

-- with stamp 0
unfoldable pub header_new : (s r h n number : ℕ) → List ℕ
header_new s r h n number = header_list s r h n (first_number n) number 0
