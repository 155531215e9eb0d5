use mathlib.Core.Path.{sym}
use native.Mathlib.Omega.{arith}
use Rattle.xml_classes.specs.Classes.{is_usual}
use Rattle.xml_scan.proofs.Seeks.{seeking_start, seeking_at, seeking_none, seeking_on, seeking_run}
use Rattle.xml_scan.proofs.DataSteps.{data_over, data_ended, data_broken, data_on, data_usual}
use Rattle.xml_scan.proofs.bodies.data_end.Goals as goal

pub loop-i-init : goal.loop-i-init
loop-i-init c =
    rw c.words_end-i.ensures (seeking_run is_usual (data_usual _) _ (seeking_start _ _ _ c.requires))

pub returns-in-Ends : goal.returns-in-Ends
returns-in-Ends c = seeking_at c.loop-i.invariant (data_ended _ (sym c.in-Ends.ensures))

pub returns-in-Broken : goal.returns-in-Broken
returns-in-Broken c = seeking_none c.loop-i.invariant (data_broken _ (sym c.in-Broken.ensures))

pub loop-i-smaller : goal.loop-i-smaller
loop-i-smaller c = omega (arith, c.words_end-i-in-GoesOn.ensures)

pub loop-i-preserved : goal.loop-i-preserved
loop-i-preserved c =
    rw c.words_end-i-in-GoesOn.ensures
    (seeking_run is_usual (data_usual _) _
    (seeking_on c.loop-i.invariant c.loop-i-test.true (data_on _ _ c.loop-i-test.true (sym c.in-GoesOn.ensures))))

pub returns : goal.returns
returns c = seeking_at c.loop-i.invariant (data_over _ _ c.loop-i-test.false)
