-- A session over bytes that a caller lends: a line in hand and a text to print stand at the front of them. Assumes nothing: these are
-- definitions.
use Rattle.std.specs.Prelude.{◌≡◌, List, ℕ, ◌+◌, take}
use Rattle.reply_text.specs.Post.{Written}
use Rattle.interpreter.specs.Session.{step_length, step_held, step_text, step_words}

-- ONE STEP over a piece of input, from a place on
pub record LentSteps (held piece words : List ℕ) (from : ℕ) (line words' out out' : List ℕ) (at h text : ℕ) : Type 0 where
  pub place : at ≡ from + step_length piece
  pub in_buffer : take h line ≡ step_held held piece
  pub stored : words' ≡ step_words held piece words
  pub printed : Written out 0 (step_text held piece words) out' text
