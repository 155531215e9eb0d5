-- `load_nodes::first_begins` meets its contract. The loop's invariant: the heights up to j are written. Assumes nothing.
use Rattle.load_model.specs.Begins.{FirstBegins}
use Rattle.load_nodes.proofs.first_begins.Given as goal

abbrev pub invariant-loop-j : goal.invariant-loop-j
invariant-loop-j l = FirstBegins l.n l.j l.lows l.begins
