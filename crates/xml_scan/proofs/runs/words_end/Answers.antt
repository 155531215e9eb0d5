use mathlib.Core.Path.{sym, ◌∙◌}
use native.Mathlib.Omega.{arith}
use Rattle.xml_classes.specs.Classes.{is_usual}
use Rattle.xml_scan.proofs.RunSteps.{running_start, running_stop, passed_1, passed_2, passed_3, passed_4}
use Rattle.xml_scan.proofs.runs.words_end.Goals as goal

pub loop-i-init : goal.loop-i-init
loop-i-init c = running_start _ _ _ c.requires

pub returns-then-not-is_usual : goal.returns-then-not-is_usual
returns-then-not-is_usual c = running_stop c.loop-i.invariant (omega arith) (sym c.if-not-is_usual.ensures)

pub returns-then-not-is_usual-2 : goal.returns-then-not-is_usual-2
returns-then-not-is_usual-2 c =
    running_stop (passed_1 c.loop-i.invariant c.loop-i-test.true (sym c.if-not-is_usual.ensures)) (omega arith)
    (sym c.if-not-is_usual-2.ensures)

pub returns-then-not-is_usual-3 : goal.returns-then-not-is_usual-3
returns-then-not-is_usual-3 c =
    running_stop
    (passed_2 c.loop-i.invariant c.loop-i-test.true (sym c.if-not-is_usual.ensures)
    (sym c.if-not-is_usual-2.ensures)) (omega arith)
    (sym c.if-not-is_usual-3.ensures)

pub returns-then-not-is_usual-4 : goal.returns-then-not-is_usual-4
returns-then-not-is_usual-4 c =
    running_stop
    (passed_3 c.loop-i.invariant c.loop-i-test.true (sym c.if-not-is_usual.ensures)
    (sym c.if-not-is_usual-2.ensures)
    (sym c.if-not-is_usual-3.ensures)) (omega arith)
    (sym c.if-not-is_usual-4.ensures)

pub loop-i-preserved : goal.loop-i-preserved
loop-i-preserved c =
    passed_4 c.loop-i.invariant c.loop-i-test.true (sym c.if-not-is_usual.ensures)
    (sym c.if-not-is_usual-2.ensures)
    (sym c.if-not-is_usual-3.ensures)
    (sym c.if-not-is_usual-4.ensures)

pub returns : goal.returns
returns c = c.run_end.ensures is_usual (λ b t l e. e) ∙ c.loop-i.invariant.rest
