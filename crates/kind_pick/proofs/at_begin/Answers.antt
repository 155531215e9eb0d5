-- `kind_pick::at_begin` meets its contract. Assumes nothing.
use Rattle.kind_pick.proofs.PickLaws.{begin_low, begin_high}
use Rattle.kind_pick.proofs.at_begin.Goals as goal

pub returns-then-kind-eq0 : goal.returns-then-kind-eq0
returns-then-kind-eq0 c = begin_low _ c.requires _ _ c.if-kind-eq0.true

pub returns-else-kind-eq0 : goal.returns-else-kind-eq0
returns-else-kind-eq0 c = begin_high _ c.requires _ _ c.if-kind-eq0.false
