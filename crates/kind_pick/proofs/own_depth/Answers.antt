-- `kind_pick::own_depth` meets its contract. Assumes nothing.
use native.Mathlib.Omega.{arith}
use borrow.Author.Tests.{eqb-true}
use Prim.Native.Nat.{◌%◌}
use lib.Dec.{eqb}
use Rattle.kind_pick.proofs.PickLaws.{less_by, within_by}
use Rattle.kind_pick.proofs.own_depth.Goals as goal

pub overflow_sub-result : goal.overflow_sub-result
overflow_sub-result c =
    rw c.at_end.ensures
    (within_by _ _ _ (eqb (c.args.kind % 16) 2) (λ e. omega (arith, c.requires.1 (eqb-true _ _ e))) (λ e. omega arith))

pub returns : goal.returns
returns c = rw c.at_end.ensures (less_by _ (eqb (c.args.kind % 16) 2))
