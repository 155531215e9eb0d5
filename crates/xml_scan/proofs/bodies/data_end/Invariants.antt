-- `xml_scan::data_end` meets its contract. The loop's invariant: what is found from each place on is what was looked for.
-- The measure is what is left of the text. Assumes nothing.
use Prim.Native.Nat.{◌-◌}
use lib.ListN.{length}
use Rattle.xml.specs.Scan.{data_length}
use Rattle.xml_scan.proofs.Seeks.{Seeking}
use Rattle.xml_scan.proofs.bodies.data_end.Given as goal

abbrev pub invariant-loop-i : goal.invariant-loop-i
invariant-loop-i l = Seeking data_length l.text l.from l.i

abbrev pub decreases-loop-i : goal.decreases-loop-i
decreases-loop-i l = length l.text - l.i
