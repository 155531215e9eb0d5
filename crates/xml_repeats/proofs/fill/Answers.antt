use mathlib.Core.Path.{◌≡◌, sym}
use native.Mathlib.Omega.{arith}
use Rattle.xml_repeats.proofs.Filling.{filling_start, filling_turn, filling_full, filling_over, filling_broken}
use Rattle.xml_repeats.proofs.fill.Goals as goal

pub loop-count-init : goal.loop-count-init
loop-count-init c = filling_start _ _ _ _

pub returns-then-to-at : goal.returns-then-to-at
returns-then-to-at c = record { batch = c.loop-count.invariant.parts; on = filling_over c.loop-count.invariant c.if-to-at.true }

pub returns-in_default : goal.returns-in_default
returns-in_default c =
    record { batch = c.loop-count.invariant.parts; on = filling_broken c.loop-count.invariant c.if-to-at.false (λ b n e q. grind arith) }

pub returns-in_default-2 : goal.returns-in_default-2
returns-in_default-2 c =
    record { batch = c.loop-count.invariant.parts; on = filling_broken c.loop-count.invariant c.if-to-at.false (λ b n e q. grind arith) }

pub loop-count-preserved : goal.loop-count-preserved
loop-count-preserved c =
    rw c.note.ensures.starts
    (filling_turn c.loop-count.invariant (sym (rw c.in-Some-Attribute.field-0-is at c.in-Some-Attribute.ensures)) c.if-to-at.false (omega arith) (omega arith) (rw c.note.ensures.starts at c.note.ensures.room))

pub returns : goal.returns
returns c = let full : c.loop-count.count ≡ 1024 = omega arith in
    record { batch = rw full at c.loop-count.invariant.parts; on = filling_full c.loop-count.invariant full }
