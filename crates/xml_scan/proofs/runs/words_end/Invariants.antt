-- `xml_scan::words_end` meets its contract. The loop's invariant: what is passed and what is left make up the run; a turn passes
-- four bytes. The measure is what is left of the text. Assumes nothing.
use Prim.Native.Nat.{◌-◌}
use lib.ListN.{length}
use Rattle.xml_classes.specs.Classes.{is_usual}
use Rattle.xml_scan.proofs.RunSteps.{Running}
use Rattle.xml_scan.proofs.runs.words_end.Given as goal

abbrev pub invariant-loop-i : goal.invariant-loop-i
invariant-loop-i l = Running is_usual l.text l.from l.i

abbrev pub decreases-loop-i : goal.decreases-loop-i
decreases-loop-i l = length l.text - l.i
