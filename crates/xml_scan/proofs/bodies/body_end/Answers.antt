use mathlib.Core.Path.{sym}
use Rattle.xml_scan.proofs.Seeks.{seeking_start, seeking_at, seeking_none, seeking_on}
use Rattle.xml_scan.proofs.BodySteps.{body_over, body_closed, body_broken, body_on}
use Rattle.xml_scan.proofs.bodies.body_end.Goals as goal

pub loop-i-init : goal.loop-i-init
loop-i-init c = seeking_start _ _ _ c.requires

pub returns-then-stands : goal.returns-then-stands
returns-then-stands c = seeking_at c.loop-i.invariant (body_closed _ _ _ c.loop-i-test.true (sym c.if-stands.ensures))

pub returns-then-not-is_char : goal.returns-then-not-is_char
returns-then-not-is_char c =
    seeking_none c.loop-i.invariant (body_broken _ _ _ c.loop-i-test.true (sym c.if-stands.ensures) (sym c.if-not-is_char.ensures))

pub loop-i-preserved : goal.loop-i-preserved
loop-i-preserved c =
    seeking_on c.loop-i.invariant c.loop-i-test.true
    (body_on _ _ _ c.loop-i-test.true (sym c.if-stands.ensures) (sym c.if-not-is_char.ensures))

pub returns : goal.returns
returns c = seeking_none c.loop-i.invariant (body_over _ _ _ c.loop-i-test.false)
