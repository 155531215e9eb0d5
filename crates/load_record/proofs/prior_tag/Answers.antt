-- `load_record::prior_tag` meets its contract. Assumes nothing.
use borrow.Author.Tests.{lt-ltb, le-ltb}
use Rattle.load_record.proofs.prior_tag.Goals as goal

pub returns-then-row-i : goal.returns-then-row-i
returns-then-row-i c = rw (lt-ltb _ _ c.if-row-i.true)

pub returns : goal.returns
returns c = rw (le-ltb _ _ c.if-row-i.false)
