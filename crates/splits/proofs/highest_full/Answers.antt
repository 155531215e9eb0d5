use Rattle.splits.proofs.Splits.{climb_start, climb_on, climb_end}
use native.Mathlib.Omega.{arith}
use Rattle.splits.proofs.highest_full.Goals as goal

pub loop-h-init : goal.loop-h-init
loop-h-init c = climb_start _ _ _ _

pub loop-h-preserved : goal.loop-h-preserved
loop-h-preserved c =
    climb_on c.loop-h.invariant (omega arith) c.is_full.ensures c.higher-found.ensures

pub returns : goal.returns
returns c = climb_end c.loop-h.invariant (omega arith)

pub returns-2 : goal.returns-2
returns-2 c =
    climb_end (climb_on c.loop-h.invariant (omega arith) c.is_full.ensures c.higher-found.ensures) (omega arith)
