use mathlib.Core.Path.{◌≡◌}
use Prim.Native.Nat.{◌+◌, ◌-◌}
use native.Mathlib.Omega.{arith}
use Rattle.name_index.proofs.Inserting.{moving_start, moving_turn, moving_end}
use Rattle.name_index.proofs.insert.Goals as goal

pub loop-i-init : goal.loop-i-init
loop-i-init c = moving_start _ _ _ (omega arith)

pub loop-i-preserved : goal.loop-i-preserved
loop-i-preserved c =
    let e : c.loop-i.i - 1 + 1 ≡ c.loop-i.i = omega arith in
    rw e (moving_turn c.loop-i.invariant (omega arith) (omega (arith, c.loop-i.invariant.size)))

pub returns : goal.returns
returns c = moving_end c.loop-i.invariant _ (omega arith) (omega (arith, c.loop-i.invariant.size))
