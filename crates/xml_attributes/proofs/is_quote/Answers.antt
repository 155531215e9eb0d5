-- `xml_attributes::is_quote` meets its contract. Assumes nothing.
use borrow.Author.Tests.{eq-eqb, ne_eqb}
use Rattle.xml.specs.Grammar.{is_quote}
use Rattle.xml_attributes.proofs.is_quote.Goals as goal

pub returns-then-c-eq34 : goal.returns-then-c-eq34
unfolding is_quote
returns-then-c-eq34 c = rw (eq-eqb _ _ c.if-c-eq34.true)

pub returns-else-c-eq34 : goal.returns-else-c-eq34
unfolding is_quote
returns-else-c-eq34 c = rw (ne_eqb _ _ c.if-c-eq34.false)
