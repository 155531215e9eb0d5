-- `xml_scan::body_end` meets its contract. The loop's invariant: what is found from each place on is what was looked for.
-- Assumes nothing.
use Rattle.xml.specs.Scan.{body_length}
use Rattle.xml_scan.proofs.Seeks.{Seeking}
use Rattle.xml_scan.proofs.bodies.body_end.Given as goal

abbrev pub invariant-loop-i : goal.invariant-loop-i
invariant-loop-i l = Seeking (body_length l.closer) l.text l.from l.i
