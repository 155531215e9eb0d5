-- `shape::root_passes` meets its contract. Assumes nothing.
use Prim.Native.Nat.{◌-◌}
use native.Mathlib.Omega.{arith}
use Rattle.shape.proofs.HeaderLaws.{root_over, root_low, root_high}
use Rattle.shape.proofs.root_passes.Goals as goal

pub returns-then-highs-h : goal.returns-then-highs-h
returns-then-highs-h c = root_over _ _ _ _ c.if-highs-h.true

pub overflow_mul-result : goal.overflow_mul-result
overflow_mul-result c =
    omega (arith, c.requires.lows (c.args.h - 1))

pub returns-then-h-eq1 : goal.returns-then-h-eq1
returns-then-h-eq1 c = root_low _ _ _ _ c.if-highs-h.false c.if-h-eq1.true

pub returns-else-h-eq1 : goal.returns-else-h-eq1
returns-else-h-eq1 c = root_high _ _ _ _ c.if-highs-h.false c.if-h-eq1.false
