-- What a session prints: lines one after the other, and an input that comes in pieces. Assumes nothing: these are
-- definitions.
use Rattle.std.specs.Prelude.{◌≡◌, cond, List, [], ◌∷◌, ◌++◌, ℕ, suc, length, drop}
use Rattle.line_reader.specs.Gather.{stretch, has_feed}
use Rattle.line_reader.specs.Reads.{last_line, in_hand}
use Rattle.interpreter.specs.Answer.{line_text, line_words}

-- LINES, each over the words that those before it left
unfoldable pub texts : (words : List ℕ) → (lines : List (List ℕ)) → List ℕ
texts ws [] = []
texts ws (l ∷ ls) = line_text l ws ++ texts (line_words l ws) ls

unfoldable pub words_behind : (words : List ℕ) → (lines : List (List ℕ)) → List ℕ
words_behind ws [] = ws
words_behind ws (l ∷ ls) = words_behind (line_words l ws) ls

-- ONE STEP over a piece of input, with a line in hand: up to the first line feed, where the line is answered; to the
-- piece's end where there is none. One byte more than a line may have is held, so that no line is taken for a shorter one
abbrev pub buffer_size : ℕ
buffer_size = 2101

unfoldable pub step_length : (piece : List ℕ) → ℕ
step_length p = cond (has_feed p) (suc (length (stretch p))) (length (stretch p))

unfoldable pub step_held : (held piece : List ℕ) → List ℕ
step_held h p = cond (has_feed p) [] (in_hand buffer_size h p)

unfoldable pub step_text : (held piece words : List ℕ) → List ℕ
step_text h p ws = cond (has_feed p) (line_text (in_hand buffer_size h p) ws) []

unfoldable pub step_words : (held piece words : List ℕ) → List ℕ
step_words h p ws = cond (has_feed p) (line_words (in_hand buffer_size h p) ws) ws

pub record Steps (held piece words held' words' text : List ℕ) (taken : ℕ) : Type 0 where
  pub place : taken ≡ step_length piece
  pub gathered : held' ≡ step_held held piece
  pub stored : words' ≡ step_words held piece words
  pub printed : text ≡ step_text held piece words

-- A PIECE by steps, to its end: what is then in hand and in the store, and what was printed
pub data Passes : (held words piece held' words' printed : List ℕ) → Type 0 where
  over : {h ws : List ℕ} → Passes h ws [] h ws []
  step : {h ws p h' ws' t : List ℕ} → Passes (step_held h p) (step_words h p ws) (drop (step_length p) p) h' ws' t → Passes h ws p h' ws' (step_text h p ws ++ t)

-- the same, whatever was printed; every piece passes so
pub record Passed (held words piece held' words' : List ℕ) : Type 0 where
  pub printed : List ℕ
  pub passes : Passes held words piece held' words' printed

-- PIECES one after the other, each passed
pub data Went : (held words : List ℕ) → (pieces : List (List ℕ)) → (held' words' : List ℕ) → Type 0 where
  none : {h ws : List ℕ} → Went h ws [] h ws
  onward : {h ws p h' ws' h'' ws'' : List ℕ} {ps : List (List ℕ)} → Passed h ws p h' ws' → Went h' ws' ps h'' ws'' → Went h ws (p ∷ ps) h'' ws''

-- some pieces led from one hand and store to another
pub record Led (held words held' words' : List ℕ) : Type 0 where
  pub pieces : List (List ℕ)
  pub went : Went held words pieces held' words'

-- A SESSION: piece by piece, and what is in hand at the end of the input
pub data Talks : (held words : List ℕ) → (pieces : List (List ℕ)) → (printed : List ℕ) → Type 0 where
  ends : {h ws : List ℕ} → Talks h ws [] (texts ws (last_line h))
  piece : {h ws p h' ws' t u : List ℕ} {ps : List (List ℕ)} → Passes h ws p h' ws' t → Talks h' ws' ps u → Talks h ws (p ∷ ps) (t ++ u)
