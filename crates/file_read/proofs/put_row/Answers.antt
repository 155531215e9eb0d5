-- `file_read::put_row` meets its contract: the row is read, then one word written after the other. Assumes nothing.
use native.Mathlib.Omega.{arith}
use Rattle.words.proofs.Fields.{room_same}
use Rattle.file_read.proofs.PutLaws.{room_of, row_put}
use Rattle.file_read.proofs.put_row.Goals as goal

pub set_next-requires : goal.set_next-requires
set_next-requires c = room_same (room_of c.requires.1 c.row_word.ensures) (omega arith)

pub set_prior-requires : goal.set_prior-requires
set_prior-requires c = room_same (room_of c.requires.1 c.row_word.ensures) (omega arith)

pub set_mate-requires : goal.set_mate-requires
set_mate-requires c = room_same (room_of c.requires.1 c.row_word.ensures) (omega arith)

pub set_up-requires : goal.set_up-requires
set_up-requires c = room_same (room_of c.requires.1 c.row_word.ensures) (omega arith)

pub set_kind-requires : goal.set_kind-requires
set_kind-requires c =
    room_same (room_of c.requires.1 c.row_word.ensures) (omega arith)

pub set_depth-requires : goal.set_depth-requires
set_depth-requires c =
    room_same (room_of c.requires.1 c.row_word.ensures) (omega arith)

pub returns : goal.returns
returns c =
    row_put _ c.args.bytes.now c.args.i _
    c.requires.0
    c.row_word.ensures
    c.row_word-2.ensures
    c.row_field.ensures
    c.row_field-2.ensures
    c.row_field-3.ensures
    c.row_field-4.ensures
    c.row_field-kind.ensures
    c.set_label.ensures
    c.set_next.ensures
    c.set_prior.ensures
    c.set_mate.ensures
    c.set_up.ensures
    c.set_kind.ensures
    c.set_depth.ensures
