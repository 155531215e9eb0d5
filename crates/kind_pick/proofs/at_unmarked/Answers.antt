-- `kind_pick::at_unmarked` meets its contract. Assumes nothing.
use native.Mathlib.Omega.{arith}
use Rattle.kind_pick.proofs.PickLaws.{mark_none, mark_there}
use Rattle.kind_pick.proofs.at_unmarked.Goals as goal

pub returns-then-kind-lt-MARK : goal.returns-then-kind-lt-MARK
returns-then-kind-lt-MARK c = mark_none c.args.kind _ _ (omega (arith, c.if-kind-lt-MARK.true))

pub returns-else-kind-lt-MARK : goal.returns-else-kind-lt-MARK
returns-else-kind-lt-MARK c = mark_there c.args.kind _ _ (omega (arith, c.if-kind-lt-MARK.false))
