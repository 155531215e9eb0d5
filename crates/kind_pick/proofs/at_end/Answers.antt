-- `kind_pick::at_end` meets its contract. Assumes nothing.
use Rattle.kind_pick.proofs.PickLaws.{end_even, end_odd}
use Rattle.kind_pick.proofs.at_end.Goals as goal

pub returns-then-kind-eq0 : goal.returns-then-kind-eq0
returns-then-kind-eq0 c = end_even _ c.requires _ _ c.if-kind-eq0.true

pub returns-else-kind-eq0 : goal.returns-else-kind-eq0
returns-else-kind-eq0 c = end_odd _ c.requires _ _ c.if-kind-eq0.false
