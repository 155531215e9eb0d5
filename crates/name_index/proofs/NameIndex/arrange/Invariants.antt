-- `NameIndex::arrange` meets its contract, one name more in order at each turn. Assumes nothing.
use Rattle.name_index.proofs.Arranging.{Arranging}
use Rattle.name_index.proofs.NameIndex.arrange.Given as goal

abbrev pub invariant-loop-i : goal.invariant-loop-i
invariant-loop-i l = Arranging l.text l.initial.self.starts l.count l.self.hashes l.self.starts l.i
