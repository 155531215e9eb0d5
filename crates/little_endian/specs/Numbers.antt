-- Numbers in bytes, low byte first (document 02, CR 3: "all little-endian"). Assumes nothing: these are definitions.
use Rattle.std.specs.Prelude.{Bool, List, [], ◌∷◌, ℕ, zero, suc, ◌+◌, ◌*◌, ◌/◌, ◌%◌, ltb, get_or, drop}

-- numbers that fit a byte are below this
abbrev pub byte_limit : ℕ
byte_limit = 256

unfoldable pub is_byte : ℕ → Bool
is_byte b = ltb b byte_limit

-- a number in so many bytes
unfoldable pub low_first : (bytes v : ℕ) → List ℕ
low_first zero v = []
low_first (suc k) v = v % byte_limit ∷ low_first k (v / byte_limit)

-- and the number that the first so many bytes are
unfoldable pub number_in : (bytes : ℕ) → List ℕ → ℕ
number_in zero bs = 0
number_in (suc k) bs = get_or bs 0 0 + byte_limit * number_in k (drop 1 bs)
