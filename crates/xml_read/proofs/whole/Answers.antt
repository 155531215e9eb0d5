-- `xml_read::whole` meets its contract, by the two cases of a part. Assumes nothing.
use mathlib.Core.Path.{sym, ap}
use borrow.Author.Tests.{lt-ltb, le-ltb}
use Rattle.std.proofs.lemmas.Result.{err_from_is_err_and}
use Rattle.xml_read.specs.Whole.{whole_part}
use Rattle.xml_read.proofs.whole.Goals as goal

pub returns-in_err-c : goal.returns-in_err-c
unfolding whole_part
returns-in_err-c c =
    let p = err_from_is_err_and c.from_residual.result c.from_residual.ensures.1 in
    rw (p.1, p.2) (ap (whole_part _) (sym c.in_err-c.was))

pub returns-then-c-text : goal.returns-then-c-text
unfolding whole_part
returns-then-c-text c = rw (c.in_ok-c.was, lt-ltb _ _ c.if-c-text.true)

pub returns : goal.returns
unfolding whole_part
returns c = rw (c.in_ok-c.was, le-ltb _ _ c.if-c-text.false)
