-- `name_index::insert` meets its contract, from the last one down. Assumes nothing.
use Rattle.name_index.proofs.Inserting.{Moving}
use Rattle.name_index.proofs.insert.Given as goal

abbrev pub invariant-loop-i : goal.invariant-loop-i
invariant-loop-i l = Moving l.initial.values l.p l.count l.values l.i
