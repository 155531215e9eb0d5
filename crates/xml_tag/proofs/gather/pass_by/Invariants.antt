-- `xml_tag::pass_by` meets its contract. The loop's invariant: attributes stand up to the place. The measure is what is left of the text.
-- Assumes nothing.
use Prim.Native.Nat.{◌-◌}
use lib.ListN.{length}
use Rattle.xml_repeats.specs.Batches.{Chained}
use Rattle.xml_tag.proofs.gather.pass_by.Given as goal

abbrev pub invariant-loop-at : goal.invariant-loop-at
invariant-loop-at l = Chained l.text l.from l.at

abbrev pub decreases-loop-at : goal.decreases-loop-at
decreases-loop-at l = length l.text - l.at
