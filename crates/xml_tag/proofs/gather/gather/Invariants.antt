-- `xml_tag::gather` meets its contract. The loop's invariant: attributes were met up to the place, the filter has the places of their
-- names marked, and they differ where no two share one. The measure is what is left of the text. Assumes nothing.
use Prim.Native.Nat.{◌-◌}
use lib.ListN.{length}
use Rattle.xml_tag.proofs.GatherSteps.{Gathering}
use Rattle.xml_tag.proofs.gather.gather.Given as goal

abbrev pub invariant-loop-at : goal.invariant-loop-at
invariant-loop-at l = Gathering l.text l.from l.index.starts l.filter l.shared l.count l.at

abbrev pub decreases-loop-at : goal.decreases-loop-at
decreases-loop-at l = length l.text - l.at
