-- `load_call::first_tag` meets its contract. Assumes nothing.
use borrow.Author.Tests.{eq-eqb, ne_eqb}
use Rattle.load_call.specs.Header.{first_number}
use Rattle.load_call.proofs.first_tag.Goals as goal

pub returns-then-n-eq0 : goal.returns-then-n-eq0
unfolding first_number
returns-then-n-eq0 c = rw (eq-eqb _ _ c.if-n-eq0.true)

pub returns : goal.returns
unfolding first_number
returns c = rw (ne_eqb _ _ c.if-n-eq0.false)
