-- `insert_change::change_root` meets its contract. Assumes nothing.
use native.Mathlib.Omega.{arith}
use Rattle.words.proofs.Fields.{header_long}
use Rattle.insert_change.proofs.Accepted.{records_said, few_all, put_fits, put_edits, rise_fits, rise_packed, rise_reads, rise_planned}
use Rattle.insert_change.proofs.change_root.Goals as goal

pub count_of-n-requires : goal.count_of-n-requires
count_of-n-requires c = (header_long (records_said c.requires.0))

pub bounds-words-1 : goal.bounds-words-1
bounds-words-1 c = omega (arith, (header_long (records_said c.requires.0)))

pub bounds-words-2 : goal.bounds-words-2
bounds-words-2 c = omega (arith, (header_long (records_said c.requires.0)))

pub tables_for-tables-requires : goal.tables_for-tables-requires
tables_for-tables-requires c = rise_fits c.requires.0 c.requires.1

pub overflow_cast-kinds : goal.overflow_cast-kinds
overflow_cast-kinds c = omega (arith, few_all c.requires.0)

pub root_plan-p-requires : goal.root_plan-p-requires
root_plan-p-requires c = rise_reads c.requires.0 c.requires.1 c.tables_for-tables.ensures

pub put-requires : goal.put-requires
put-requires c =
    put_fits c.requires.0 (rise_packed c.requires.0 c.requires.1 c.tables_for-tables.ensures) c.count_of-n.ensures (rise_planned c.requires.0 c.requires.1 c.tables_for-tables.ensures c.root_plan-p.ensures)

pub returns : goal.returns
returns c =
    put_edits c.requires.0 (rise_packed c.requires.0 c.requires.1 c.tables_for-tables.ensures) c.count_of-n.ensures (rise_planned c.requires.0 c.requires.1 c.tables_for-tables.ensures c.root_plan-p.ensures) c.put.ensures
