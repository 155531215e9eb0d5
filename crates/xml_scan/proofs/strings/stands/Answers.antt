use native.Mathlib.Omega.{arith}
use Rattle.xml_scan.proofs.StringSteps.{standing_start, standing_turn, standing_end, standing_other, standing_short}
use Rattle.xml_scan.proofs.strings.stands.Goals as goal

pub returns-then-text-at : goal.returns-then-text-at
returns-then-text-at c = standing_short c.args.string.now c.args.text.now c.args.at c.if-text-at.true

pub loop-k-init : goal.loop-k-init
loop-k-init c = standing_start _ _ _

pub returns-then-text-at-2 : goal.returns-then-text-at-2
returns-then-text-at-2 c = standing_other c.loop-k.invariant (omega arith) (omega arith) c.if-text-at-2.true

pub loop-k-preserved : goal.loop-k-preserved
loop-k-preserved c = standing_turn c.loop-k.invariant (omega arith) (omega arith) c.if-text-at-2.false

pub returns : goal.returns
returns c = standing_end c.loop-k.invariant (omega arith)
