-- `load_nodes::gaps` meets its contract. The loop's invariant: the gaps of the heights up to h are written. Assumes nothing.
use Rattle.load_nodes.specs.Gaps.{GapsOf}
use Rattle.load_nodes.proofs.gaps.Given as goal

abbrev pub invariant-loop-h : goal.invariant-loop-h
invariant-loop-h l = GapsOf l.r l.h l.widths l.gaps
