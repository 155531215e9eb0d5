use mathlib.Core.Path.{sym}
use native.Mathlib.Omega.{arith}
use Rattle.xml_attributes.proofs.NextLaws.{next_order, next_name}
use Rattle.xml_repeats.proofs.Passing.{passing_start, passing_held, passing_turn, passing_broken, passing_end}
use Rattle.xml_repeats.proofs.none_held.Goals as goal

pub loop-at-init : goal.loop-at-init
loop-at-init c = passing_start _ _ _ _ _

pub returns-in_default : goal.returns-in_default
returns-in_default c = passing_broken c.loop-at.invariant c.loop-at-test.true (λ b n e q. grind arith)

pub returns-in_default-2 : goal.returns-in_default-2
returns-in_default-2 c = passing_broken c.loop-at.invariant c.loop-at-test.true (λ b n e q. grind arith)

pub slice_bounds-has-count : goal.slice_bounds-has-count
slice_bounds-has-count c = let o = next_order _ _ _ _ _ (omega arith) (sym (rw c.in-Some-Attribute.field-0-is at c.in-Some-Attribute.ensures)) in omega arith

pub slice_bounds-has-start : goal.slice_bounds-has-start
slice_bounds-has-start c = let o = next_order _ _ _ _ _ (omega arith) (sym (rw c.in-Some-Attribute.field-0-is at c.in-Some-Attribute.ensures)) in omega arith

pub slice_bounds-has-end : goal.slice_bounds-has-end
slice_bounds-has-end c = let o = next_order _ _ _ _ _ (omega arith) (sym (rw c.in-Some-Attribute.field-0-is at c.in-Some-Attribute.ensures)) in omega arith

pub returns-then-has : goal.returns-then-has
returns-then-has c =
    passing_held c.loop-at.invariant (sym (rw c.in-Some-Attribute.field-0-is at c.in-Some-Attribute.ensures)) c.loop-at-test.true (λ names held. rw (next_name _ _ _ _ _ (sym (rw c.in-Some-Attribute.field-0-is at c.in-Some-Attribute.ensures))) (c.has.ensures names held)) c.if-has.true

pub loop-at-smaller : goal.loop-at-smaller
loop-at-smaller c =
    let o = next_order _ _ _ _ _ (omega arith) (sym (rw c.in-Some-Attribute.field-0-is at c.in-Some-Attribute.ensures)) in
    omega arith

pub loop-at-preserved : goal.loop-at-preserved
loop-at-preserved c =
    passing_turn c.loop-at.invariant (sym (rw c.in-Some-Attribute.field-0-is at c.in-Some-Attribute.ensures)) c.loop-at-test.true (λ names held. rw (next_name _ _ _ _ _ (sym (rw c.in-Some-Attribute.field-0-is at c.in-Some-Attribute.ensures))) (c.has.ensures names held)) c.if-has.false

pub returns : goal.returns
returns c = passing_end c.loop-at.invariant c.loop-at-test.false c.requires.0
