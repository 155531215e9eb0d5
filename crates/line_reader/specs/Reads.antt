-- A reader over pieces of input, as `gather` is used: a piece's stretch goes behind what is in hand; at a line feed the line
-- is handed out and the rest of the piece is next; where there is none, the next piece is. Assumes nothing: these are
-- definitions.
use Rattle.std.specs.Prelude.{◌≡◌, true, false, List, [], ◌∷◌, ◌++◌, ℕ, suc, length, take, drop}
use Rattle.line_reader.specs.Gather.{stretch, has_feed}

-- pieces of an input as one
unfoldable pub whole : (pieces : List (List ℕ)) → List ℕ
whole [] = []
whole (p ∷ ps) = p ++ whole ps

-- at the end of the input, what is in hand is a line where it has a byte
unfoldable pub last_line : (held : List ℕ) → List (List ℕ)
last_line [] = []
last_line (c ∷ cs) = (c ∷ cs) ∷ []

-- a line in hand, with as many of its bytes as a buffer of n holds
abbrev pub in_hand : (n : ℕ) → (held piece : List ℕ) → List ℕ
in_hand n h p = take n (h ++ stretch p)

-- behind the first line feed
abbrev pub rest_of : (piece : List ℕ) → List ℕ
rest_of p = drop (suc (length (stretch p))) p

-- the lines that a reader with a buffer of n hands out
pub data Reads (n : ℕ) : (held : List ℕ) → (pieces lines : List (List ℕ)) → Type 0 where
  ends : {h : List ℕ} → Reads n h [] (last_line h)
  next : {h p : List ℕ} {ps ls : List (List ℕ)} → has_feed p ≡ false → Reads n (in_hand n h p) ps ls → Reads n h (p ∷ ps) ls
  line : {h p : List ℕ} {ps ls : List (List ℕ)} → has_feed p ≡ true → Reads n [] (rest_of p ∷ ps) ls → Reads n h (p ∷ ps) (in_hand n h p ∷ ls)
