-- `load_record::write_links` meets its contract. Assumes nothing.
use Rattle.words.proofs.Fields.{room_same}
use Rattle.load_record.specs.Record.{links_written}
use borrow.Author.Rules.{rules}
use native.Mathlib.Omega.{arith}
use Rattle.load_record.proofs.write_links.Goals as goal

pub set_mate-requires : goal.set_mate-requires
set_mate-requires c = search (rules, room_same)

pub set_mate-requires-2 : goal.set_mate-requires-2
set_mate-requires-2 c = search (rules, room_same)

pub set_up-requires : goal.set_up-requires
set_up-requires c =
    room_same c.requires.0 (omega arith)

pub returns : goal.returns
unfolding links_written
returns c =
    rw (c.set_up.ensures, c.set_mate-2.ensures, c.set_mate.ensures, c.set_depth.ensures)
