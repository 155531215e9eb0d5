-- `interpreter::reply::list` meets its contract, by the call's reply. Assumes nothing.
use Rattle.std.proofs.Common.{length, ap, arith, rules}
use Rattle.interpreter.proofs.Commands.{listed_few, listed_fits, listed_taken, listed_yes, listed_no}
use Rattle.interpreter.proofs.reply.list.Goals as goal

pub slice_bounds-tags-end : goal.slice_bounds-tags-end
slice_bounds-tags-end c = listed_fits _ _ c.list.ensures.reply c.in-Ok.is _ (search rules)

pub slice_bounds-listed-end : goal.slice_bounds-listed-end
slice_bounds-listed-end c = listed_taken _ _ c.list.ensures.reply c.in-Ok.is _ (search rules)

pub slice_bounds-labels-end : goal.slice_bounds-labels-end
slice_bounds-labels-end c = listed_fits _ _ c.list.ensures.reply c.in-Ok.is _ (search rules)

pub slice_bounds-listed-end-in-Ok : goal.slice_bounds-listed-end-in-Ok
slice_bounds-listed-end-in-Ok c = listed_taken _ _ c.list.ensures.reply c.in-Ok.is _ (search rules)

pub listed-requires : goal.listed-requires
listed-requires c =
    record { lines = omega (arith, listed_few _ _ c.list.ensures.reply c.in-Ok.is, listed_taken _ _ c.list.ensures.reply c.in-Ok.is c.list.new.tags (search rules), ap length c.requires) }

pub returns-in-Ok : goal.returns-in-Ok
returns-in-Ok c = rw (listed_yes _ _ c.list.ensures.reply c.in-Ok.is (search rules) c.list.ensures.tags c.list.ensures.labels) at c.listed.ensures

pub returns-in-Err : goal.returns-in-Err
returns-in-Err c = rw (c.number.ensures, listed_no _ c.list.ensures.reply c.in-Err.is) at c.no_line.ensures
