-- `list_call::count_unmarked` meets its contract. Assumes nothing.
use Rattle.store_refuse.proofs.Laws.{tag_room}
use Rattle.list_call.proofs.Along.{one_marked, one_unmarked}
use Rattle.list_call.proofs.count_unmarked.Goals as goal

pub kind_of-requires : goal.kind_of-requires
kind_of-requires c = tag_room c.requires

pub returns-then-kind_of-ge-MARK : goal.returns-then-kind_of-ge-MARK
returns-then-kind_of-ge-MARK c = rw (one_marked c.requires (rw c.kind_of.ensures at c.if-kind_of-ge-MARK.true))

pub returns : goal.returns
returns c = rw (one_unmarked c.requires (rw c.kind_of.ensures at c.if-kind_of-ge-MARK.false))
