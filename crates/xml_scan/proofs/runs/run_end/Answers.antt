use mathlib.Core.Path.{sym, ◌∙◌}
use native.Mathlib.Omega.{arith}
use Rattle.xml_scan.proofs.RunSteps.{running_start, running_turn, running_stop, running_end}
use Rattle.xml_scan.proofs.runs.run_end.Goals as goal

pub loop-i-init : goal.loop-i-init
loop-i-init g c test t = running_start _ _ _ c.requires.from_in_bounds

pub returns-then-not-passes : goal.returns-then-not-passes
returns-then-not-passes g c test t =
    running_stop (c.loop-i.invariant test t) (omega arith) (sym (t _ _ (omega (arith, c.type_inv.text c.loop-i.i)) c.passes.ensures) ∙ c.if-not-passes.true)

pub loop-i-preserved : goal.loop-i-preserved
loop-i-preserved g c test t =
    running_turn (c.loop-i.invariant test t) (omega arith) (sym (t _ _ (omega (arith, c.type_inv.text c.loop-i.i)) c.passes.ensures) ∙ c.if-not-passes.false)

pub returns : goal.returns
returns g c test t = running_end (c.loop-i.invariant test t) c.loop-i-test.false
