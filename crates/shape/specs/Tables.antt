-- The tables by height that a header gives. Assumes nothing: these are definitions.
use Rattle.std.specs.Prelude.{List, ℕ, ◌*◌, ◌-◌}
use Rattle.store_types.specs.Layout.{at_s, at_r, at_height, word_at}
use Rattle.powers.specs.Tables.{table}

-- THE TABLES OF WORDS, up to the header's H: the widths of labels, the least leaves of a node below the root, and its limit
unfoldable pub widths_of : List ℕ → List ℕ
widths_of ws = table 1 (word_at ws at_s * word_at ws at_r - 1) (word_at ws at_height)

unfoldable pub lows_of : List ℕ → List ℕ
lows_of ws = table 1 (word_at ws at_r) (word_at ws at_height)

unfoldable pub highs_of : List ℕ → List ℕ
highs_of ws = table (word_at ws at_s) (word_at ws at_r) (word_at ws at_height)
