-- `xml_read::xml_kinds` meets its contract: what the first reading says decides, and the second writes. Assumes nothing.
use native.Mathlib.Omega.{arith}
use Rattle.std.proofs.lemmas.Result.{err_from_is_err_and}
use Rattle.xml_read.proofs.Sheet.{reply_refused, reply_short, sure_second, reply_kinds}
use Rattle.xml_read.proofs.xml_kinds.Goals as goal

-- which has no list
pub read-requires : goal.read-requires
read-requires c = λ l. absurd (omega arith)

pub returns-in_err-count : goal.returns-in_err-count
returns-in_err-count c =
    let p = err_from_is_err_and c.from_residual.result c.from_residual.ensures.1 in
    let all = reply_refused c.args.text.now c.args.kinds.now _ _ c.read.ensures _ c.in_err-count.was in
    rw (p.1, p.2) (record { reply = all.0; list = all.1 })

pub returns-then-kinds-count : goal.returns-then-kinds-count
returns-then-kinds-count c =
    let all = reply_short c.args.text.now c.args.kinds.now _ _ c.read.ensures _ c.in_ok-count.was c.if-kinds-count.true in
    record { reply = all.0; list = all.1 }

pub read-requires-2 : goal.read-requires-2
read-requires-2 c = sure_second c.args.text.now c.args.kinds.now _ _ c.read.ensures _ c.in_ok-count.was

pub returns : goal.returns
returns c =
    let all = reply_kinds c.args.text.now c.args.kinds.now _ _ c.read.ensures _ c.in_ok-count.was c.if-kinds-count.false _ _ c.read-2.ensures in
    record { reply = all.0; list = all.1 }
