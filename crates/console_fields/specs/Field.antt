-- Numbers and kinds as a line of the book program has them (document 01, "The book program"). Bytes are numbers below 256.
-- Assumes nothing: these are definitions.
use Rattle.std.specs.Prelude.{Bool, true, false, ◌&&◌, ◌||◌, not, cond, List, [], ◌∷◌, ℕ, ◌+◌, ◌*◌, ◌-◌, ltb, leb, eqb, Option, Some, None}
use Rattle.store_types.specs.Limits.{word_limit}

-- NUMBERS have no leading zeros and fit a word
unfoldable pub is_digit : (byte : ℕ) → Bool
is_digit c = leb 48 c && leb c 57

unfoldable pub all_digits : List ℕ → Bool
all_digits [] = true
all_digits (c ∷ cs) = is_digit c && all_digits cs

unfoldable pub value_from : (so_far : ℕ) → List ℕ → ℕ
value_from v [] = v
value_from v (c ∷ cs) = value_from (v * 10 + (c - 48)) cs

-- at least one digit, and the first is 0 only where it is alone
unfoldable pub well_begun : List ℕ → Bool
well_begun [] = false
well_begun (c ∷ []) = true
well_begun (c ∷ d ∷ cs) = not (eqb c 48)

unfoldable pub number_of : List ℕ → Option ℕ
number_of cs =
    cond (well_begun cs && (all_digits cs && ltb (value_from 0 cs) word_limit)) (Some (value_from 0 cs)) None

-- KINDS are letters B, E, T
unfoldable pub is_letter : (byte : ℕ) → Bool
is_letter c = eqb c 66 || (eqb c 69 || eqb c 84)

unfoldable pub all_letters : List ℕ → Bool
all_letters [] = true
all_letters (c ∷ cs) = is_letter c && all_letters cs

unfoldable pub letter_kind : (byte : ℕ) → ℕ
letter_kind c = cond (eqb c 66) 1 (cond (eqb c 69) 2 3)
