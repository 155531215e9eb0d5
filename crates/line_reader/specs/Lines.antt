-- The lines of an input (document 01, "The book program"). Bytes are numbers below 256. Assumes nothing: these are
-- definitions.
use Rattle.std.specs.Prelude.{cond, List, [], ◌∷◌, ℕ, eqb}
use Rattle.lists.specs.Lists.{with_first}

-- a line ends at a line feed, which the last may lack: behind the last line feed there is a line only where there is a byte
unfoldable pub lines : (input : List ℕ) → List (List ℕ)
lines [] = []
lines (c ∷ cs) = let rest = lines cs in cond (eqb c 10) ([] ∷ rest) (with_first c rest)
