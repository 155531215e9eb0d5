-- `insert_link::raise` meets its contract. Assumes nothing.
use native.Mathlib.Numerals.{add-one}
use borrow.Author.Tests.{le-leb, lt-leb}
use Rattle.edit_model.specs.Insert.{raised_words}
use Rattle.insert_link.proofs.raise.Goals as goal

pub returns-then-top-split : goal.returns-then-top-split
unfolding raised_words
returns-then-top-split c =
    rw (← c.height_of-top.ensures, le-leb _ _ c.if-top-split.true) (rw add-one at c.set_height.ensures)

pub returns-else-top-split : goal.returns-else-top-split
unfolding raised_words
returns-else-top-split c = rw (← c.height_of-top.ensures, lt-leb _ _ c.if-top-split.false)
