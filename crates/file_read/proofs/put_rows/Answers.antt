use native.Mathlib.Omega.{arith}
use Rattle.file_read.proofs.PutLaws.{putting_first, row_there, row_room, kind_right, depth_few, putting_turn, putting_end}
use Rattle.file_read.proofs.put_rows.Goals as goal

pub loop-i-init : goal.loop-i-init
loop-i-init c = putting_first c.requires

pub put_row-requires : goal.put_row-requires
put_row-requires c =
    (row_there c.loop-i.invariant c.loop-i-test.true, row_room c.loop-i.invariant c.loop-i-test.true)

pub opens_after-opens-requires : goal.opens_after-opens-requires
opens_after-opens-requires c =
    (kind_right c.loop-i.invariant c.loop-i-test.true c.row_field-kind.ensures, omega (arith, depth_few c.loop-i.invariant c.loop-i-test.true c.row_field-kind.ensures c.own_depth-depth.ensures, c.loop-i-test.true))

pub loop-i-preserved : goal.loop-i-preserved
loop-i-preserved c =
    putting_turn c.loop-i.invariant c.loop-i-test.true c.row_field-kind.ensures c.own_depth-depth.ensures c.put_row.ensures c.opens_after-opens.ensures

pub returns : goal.returns
returns c = putting_end c.loop-i.invariant c.loop-i-test.false
