use native.Mathlib.Omega.{arith}
use Rattle.shape.proofs.HeaderLaws.{power_over, power_within}
use Rattle.shape.proofs.height_fits.Goals as goal

pub returns-then-p-gt-LABEL_LIMIT : goal.returns-then-p-gt-LABEL_LIMIT
returns-then-p-gt-LABEL_LIMIT c =
    power_over _ _ _ _ _ c.loop.invariant.0 c.requires.0 c.loop-test.true c.if-p-gt-LABEL_LIMIT.true

pub returns : goal.returns
returns c = power_within _ _ _ _ _ c.loop.invariant.0 c.loop.invariant.1 (omega arith)
