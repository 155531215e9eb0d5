-- A set of tag numbers, one bit each. Assumes nothing: these are definitions.
use Rattle.std.specs.Prelude.{◌≡◌, Bool, not, List, ℕ, ◌/◌, ◌%◌, ◌^◌, eqb, length, get_or}
use Rattle.tree.specs.Row.{member}

-- bits in a word, and words for 200,000 numbers
abbrev pub word_bits : ℕ
word_bits = 32

abbrev pub set_words : ℕ
set_words = 6250

-- a bit of a word, as a number, and whether a number's bit is set
abbrev pub bit : (word j : ℕ) → ℕ
bit word j = word / 2 ^ j % 2

unfoldable pub in_set : (bits : List ℕ) → (x : ℕ) → Bool
in_set bits x = not (eqb (bit (get_or bits (x / word_bits) 0) (x % word_bits)) 0)

-- a set of the numbers of a list, and of no others
pub record Holds (bits xs : List ℕ) : Type 0 where
  pub long : length bits ≡ set_words
  pub tells : (x : ℕ) → in_set bits x ≡ member x xs
