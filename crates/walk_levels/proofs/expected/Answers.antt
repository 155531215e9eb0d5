-- `walk_levels::expected` meets its contract. Assumes nothing.
use borrow.Author.Tests.{eq-eqb, ne_eqb}
use Rattle.walk_levels.specs.Needs.{expected_label}
use Rattle.walk_levels.proofs.expected.Goals as goal

pub returns-then-next-end : goal.returns-then-next-end
unfolding expected_label
returns-then-next-end c = rw (← c.sum-next.ensures, eq-eqb _ _ c.if-next-end.true)

pub returns-else-next-end : goal.returns-else-next-end
unfolding expected_label
returns-else-next-end c = rw (← c.sum-next.ensures, ne_eqb _ _ c.if-next-end.false)
