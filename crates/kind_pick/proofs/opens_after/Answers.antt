-- `kind_pick::opens_after` meets its contract. Assumes nothing.
use native.Mathlib.Omega.{arith}
use Prim.Native.Nat.{◌%◌}
use lib.Dec.{eqb}
use Rattle.kind_pick.proofs.PickLaws.{more_by, at_most_one}
use Rattle.kind_pick.proofs.opens_after.Goals as goal

pub overflow_add-result : goal.overflow_add-result
overflow_add-result c = omega (arith, c.requires.1, c.at_begin.ensures, at_most_one (eqb (c.args.kind % 16) 1))

pub returns : goal.returns
returns c = rw c.at_begin.ensures (more_by _ (eqb (c.args.kind % 16) 1))
