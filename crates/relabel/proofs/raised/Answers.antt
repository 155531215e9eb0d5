-- `relabel::raised` meets its contract. Assumes nothing.
use Prim.Native.Nat.{◌+◌}
use native.Mathlib.Omega.{arith}
use Rattle.shape.proofs.Sums.{cut_small}
use Rattle.relabel.proofs.raised.Goals as goal

pub overflow_cast-result : goal.overflow_cast-result
overflow_cast-result c = omega (arith, c.sum.ensures, cut_small (c.args.label.0 + c.args.by))
