use mathlib.Core.Path.{refl, sym, ◌∙◌}
use native.Mathlib.Omega.{arith}
use Rattle.xml_scan.proofs.Seeks.{seeking_start, seeking_at, seeking_none}
use Rattle.xml_scan.proofs.ValueSteps.{value_over, value_closed, value_broken, value_within, seeking_past, part_found, part_missing, part_byte, part_none}
use Rattle.xml_scan.proofs.bodies.value_end.Goals as goal

pub loop-i-init : goal.loop-i-init
loop-i-init c = seeking_start _ _ _ c.requires

pub returns-then-c-quote : goal.returns-then-c-quote
returns-then-c-quote c =
    seeking_at c.loop-i.invariant (value_closed _ _ _ c.loop-i-test.true c.if-c-quote.true)

pub returns-in_err-i : goal.returns-in_err-i
returns-in_err-i c =
    c.from_residual.ensures
    ∙ seeking_none c.loop-i.invariant
    (value_broken _ _ _ c.loop-i-test.true 0 c.if-c-quote.false (part_missing _ _ c.loop-i-test.true c.if-c-eq38.true (sym c.in_err-i.was ∙ c.reference.ensures)) refl)

pub overflow_add-i : goal.overflow_add-i
overflow_add-i c =
    let q = part_found _ _ c.loop-i-test.true c.if-c-eq38.true (sym c.in_ok-i.was ∙ c.reference.ensures) in
    omega (arith, value_within _ _ _ c.loop-i-test.true q.0)

pub loop-i-smaller-then-c-eq38 : goal.loop-i-smaller-then-c-eq38
loop-i-smaller-then-c-eq38 c =
    let q = part_found _ _ c.loop-i-test.true c.if-c-eq38.true (sym c.in_ok-i.was ∙ c.reference.ensures) in
    omega (arith, value_within _ _ _ c.loop-i-test.true q.0, q.1)

pub loop-i-preserved-then-c-eq38 : goal.loop-i-preserved-then-c-eq38
loop-i-preserved-then-c-eq38 c =
    let q = part_found _ _ c.loop-i-test.true c.if-c-eq38.true (sym c.in_ok-i.was ∙ c.reference.ensures) in
    seeking_past _ c.loop-i.invariant c.loop-i-test.true c.if-c-quote.false q.0 q.1

pub returns-then-not-is_plain : goal.returns-then-not-is_plain
returns-then-not-is_plain c =
    seeking_none c.loop-i.invariant
    (value_broken _ _ _ c.loop-i-test.true 0 c.if-c-quote.false (part_none _ _ c.loop-i-test.true c.if-c-eq38.false (sym c.if-not-is_plain.ensures)) refl)

pub overflow_add-i-else-c-eq38 : goal.overflow_add-i-else-c-eq38
overflow_add-i-else-c-eq38 c = omega arith

pub loop-i-smaller : goal.loop-i-smaller
loop-i-smaller c = omega arith

pub loop-i-preserved : goal.loop-i-preserved
loop-i-preserved c =
    seeking_past 1 c.loop-i.invariant c.loop-i-test.true c.if-c-quote.false (part_byte _ _ c.loop-i-test.true c.if-c-eq38.false (sym c.if-not-is_plain.ensures)) (omega arith)

pub returns : goal.returns
returns c = seeking_none c.loop-i.invariant (value_over _ _ _ c.loop-i-test.false)
