-- `load_record::next_tag` meets its contract. Assumes nothing.
use borrow.Author.Tests.{lt-ltb, le-ltb}
use Rattle.load_record.proofs.next_tag.Goals as goal

pub returns-then-i-row : goal.returns-then-i-row
returns-then-i-row c = rw (lt-ltb _ _ c.if-i-row.true)

pub returns : goal.returns
returns c = rw (le-ltb _ _ c.if-i-row.false)
