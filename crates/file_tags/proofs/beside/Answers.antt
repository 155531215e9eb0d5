-- `file_tags::beside` meets its contract. Assumes nothing.
use borrow.Author.Tests.{lt-ltb, le-ltb}
use Rattle.file_tags.proofs.beside.Goals as goal

pub returns-then-parent-n : goal.returns-then-parent-n
returns-then-parent-n c = rw (lt-ltb _ _ c.if-parent-n.true)

pub returns-else-parent-n : goal.returns-else-parent-n
returns-else-parent-n c = rw (le-ltb _ _ c.if-parent-n.false)
