use native.Mathlib.Omega.{arith}
use Rattle.name_index.proofs.Arranging.{arranging_start, arranging_next, arranging_turn, arranging_not, arranging_end}
use Rattle.name_index.proofs.NameIndex.arrange.Goals as goal

pub loop-i-init : goal.loop-i-init
loop-i-init c = arranging_start _ _ _ _

pub join-requires : goal.join-requires
join-requires c = arranging_next c.requires (omega arith) c.loop-i.invariant (omega arith)

pub returns-then-not-join : goal.returns-then-not-join
returns-then-not-join c = arranging_not c.requires (omega arith) c.loop-i.invariant (omega arith) c.join.ensures c.if-not-join.true

pub loop-i-preserved : goal.loop-i-preserved
loop-i-preserved c = arranging_turn c.requires (omega arith) c.loop-i.invariant (omega arith) c.join.ensures c.if-not-join.false

pub returns : goal.returns
returns c = arranging_end c.requires (omega arith) c.loop-i.invariant (omega arith)
