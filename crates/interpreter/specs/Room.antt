-- Room for what is printed. Assumes nothing: these are definitions.
use Rattle.std.specs.Prelude.{List, ℕ, ◌+◌, ◌*◌, ◌≤◌, length}

-- for the longest listing of the book program: 2,000 tags with a line of at most 22 bytes each, and a last line
abbrev pub out_size : ℕ
out_size = 44064

-- for a listing of so many tags, at the end of some text
pub record ListingRoom (count : ℕ) (out : List ℕ) : Type 0 where
  pub lines : length out + count * 22 + 64 ≤ out_size
