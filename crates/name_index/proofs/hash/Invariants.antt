-- `name_index::hash` meets its contract, turn by turn over what is left of the name. Assumes nothing.
use Rattle.name_index.proofs.Hashing.{Hashing}
use Rattle.name_index.proofs.hash.Given as goal

abbrev pub invariant-loop-b : goal.invariant-loop-b
invariant-loop-b l = Hashing l.name l.h l.b-index
