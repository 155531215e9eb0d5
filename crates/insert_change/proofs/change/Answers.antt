-- `insert_change::change` meets its contract. Assumes nothing.
use native.Mathlib.Omega.{arith}
use Rattle.words.proofs.Fields.{header_long}
use Rattle.insert_change.proofs.Accepted.{records_said, few_all, stays_read, put_fits, put_edits, packed_here, inner_reads, inner_planned}
use Rattle.insert_change.proofs.change.Goals as goal

pub count_of-n-requires : goal.count_of-n-requires
count_of-n-requires c = (header_long (records_said c.requires.0))

pub overflow_cast-k : goal.overflow_cast-k
overflow_cast-k c = omega (arith, few_all c.requires.0)

pub height_of-requires : goal.height_of-requires
height_of-requires c = (header_long (records_said c.requires.0))

pub change_root-requires : goal.change_root-requires
change_root-requires c =
    (c.requires.0, record { top_is = c.requires.1; higher = omega (arith, c.height_of.ensures, c.if-height_of-top.true) })

pub inner_plan-p-requires : goal.inner_plan-p-requires
inner_plan-p-requires c =
    inner_reads c.requires.0 (stays_read c.requires.0 c.requires.1 c.height_of.ensures c.if-height_of-top.false) c.requires.2 c.requires.3

pub put-requires : goal.put-requires
put-requires c =
    let stays = stays_read c.requires.0 c.requires.1 c.height_of.ensures c.if-height_of-top.false in
    put_fits c.requires.0 (packed_here c.requires.0 stays c.requires.2 c.requires.3) c.count_of-n.ensures (inner_planned c.requires.0 stays c.requires.2 c.requires.3 c.inner_plan-p.ensures)

pub returns : goal.returns
returns c =
    let stays = stays_read c.requires.0 c.requires.1 c.height_of.ensures c.if-height_of-top.false in
    put_edits c.requires.0 (packed_here c.requires.0 stays c.requires.2 c.requires.3) c.count_of-n.ensures (inner_planned c.requires.0 stays c.requires.2 c.requires.3 c.inner_plan-p.ensures)
    c.put.ensures
