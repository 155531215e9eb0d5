-- `xml_repeats::differ_in_batches` meets its contract. The loop's invariant: what is left differs exactly where all of it does. The
-- measure is what is left of the attributes. Assumes nothing.
use Prim.Native.Nat.{◌-◌}
use Rattle.xml_repeats.proofs.Batching.{Batching}
use Rattle.xml_repeats.proofs.differ_in_batches.Given as goal

abbrev pub invariant-loop-at : goal.invariant-loop-at
invariant-loop-at l = Batching l.text l.from l.to l.at

abbrev pub decreases-loop-at : goal.decreases-loop-at
decreases-loop-at l = l.to - l.at
