-- `load_record::write_place` meets its contract. Assumes nothing.
use Rattle.words.proofs.Fields.{room_same}
use Rattle.load_record.specs.Record.{place_written}
use borrow.Author.Rules.{rules}
use native.Mathlib.Omega.{arith}
use Rattle.load_record.proofs.write_place.Goals as goal

pub set_kind-requires : goal.set_kind-requires
set_kind-requires c = search (rules, room_same)

pub set_next-requires : goal.set_next-requires
set_next-requires c =
    room_same c.requires.1 (omega arith)

pub set_prior-requires : goal.set_prior-requires
set_prior-requires c =
    room_same c.requires.1 (omega arith)

pub returns : goal.returns
unfolding place_written
returns c =
    rw (c.set_prior.ensures, c.prior_tag.ensures, c.set_next.ensures, c.next_tag.ensures, c.set_kind.ensures, c.set_label.ensures)
