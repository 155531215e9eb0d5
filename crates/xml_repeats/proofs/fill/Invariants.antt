-- `xml_repeats::fill` meets its contract. The loop's invariant: whatever the row is, so much of it is noted and the rest is left. Assumes nothing.
use Rattle.xml_repeats.proofs.Filling.{Filling}
use Rattle.xml_repeats.proofs.fill.Given as goal

abbrev pub invariant-loop-count : goal.invariant-loop-count
invariant-loop-count l = Filling l.text l.from l.to l.index.starts l.count l.at
