-- `relabel::number_leaf` meets its contract. Assumes nothing.
use borrow.Author.Rules.{rules}
use Rattle.words.proofs.Fields.{room}
use Rattle.edit_model.specs.Relabel.{counts_moved}
use Rattle.relabel.proofs.number_leaf.Goals as goal

pub kind_of-kind-requires : goal.kind_of-kind-requires
kind_of-kind-requires c = search (rules, room)

pub label_of-old-requires : goal.label_of-old-requires
label_of-old-requires c = search (rules, room)

pub set_label-requires : goal.set_label-requires
set_label-requires c = search (rules, room)

pub differs-requires : goal.differs-requires
differs-requires c = tt

pub at_unmarked-requires : goal.at_unmarked-requires
at_unmarked-requires c = tt

pub returns : goal.returns
unfolding counts_moved
returns c =
    record { words = c.set_label.ensures; moved = rw (c.at_unmarked.ensures, c.differs.ensures, c.label_of-old.ensures, c.kind_of-kind.ensures) }
