-- `xml_scan::run_end` meets its contract. The loop's invariant: whatever the test is, what is passed and what is left make up the run.
-- The measure is what is left of the text. Assumes nothing.
use mathlib.Core.Bool.{Bool}
use Prim.Native.Nat.{ℕ, ◌-◌}
use lib.ListN.{length}
use Rattle.xml_scan.specs.Post.{Tells}
use Rattle.xml_scan.proofs.RunSteps.{Running}
use Rattle.xml_scan.proofs.runs.run_end.Given as goal

abbrev pub invariant-loop-i : goal.invariant-loop-i
invariant-loop-i g l = (test : ℕ → Bool) → Tells (goal.F-post g l.passes) test → Running test l.text l.from l.i

abbrev pub decreases-loop-i : goal.decreases-loop-i
decreases-loop-i g l = length l.text - l.i
