-- What the judgement asks and keeps beside what its pass does. Assumes nothing: these are definitions.
use Rattle.std.specs.Prelude.{◌≡◌, List, ℕ, ◌<◌, length}
use Rattle.store_types.specs.Layout.{at_version, at_count, header_words, word_at, words_for}

-- places for as many begins as can be open at once, and one for the tag behind them
abbrev pub most_open : ℕ
most_open = 100001

-- words whose header this is, and which are as many as it says
pub record SaidBy (header ws : List ℕ) : Type 0 where
  pub words : (k : ℕ) → k < header_words → word_at ws k ≡ word_at header k
  pub version : word_at ws at_version ≡ 1
  pub long : length ws ≡ words_for header_words (word_at ws at_count)
