-- `grant_list::names` meets its contract. Assumes nothing.
use borrow.Author.Tests.{eq-eqb, ne_eqb}
use Rattle.calls.specs.Rights.{names}
use Rattle.grant_list.proofs.names.Goals as goal

pub returns-then-g-party : goal.returns-then-g-party
unfolding names
returns-then-g-party c = simp (eq-eqb _ _ c.if-g-party.true)

pub returns : goal.returns
unfolding names
returns c = simp (ne_eqb _ _ c.if-g-party.false)
