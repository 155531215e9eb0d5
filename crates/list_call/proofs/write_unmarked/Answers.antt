-- `list_call::write_unmarked` meets its contract. Assumes nothing.
use mathlib.Core.Path.{refl, ap, ◌∙◌}
use native.Mathlib.Omega.{arith}
use lib.ListN.{length}
use Rattle.store_refuse.proofs.Laws.{tag_room, words_of_tag}
use Rattle.list_call.proofs.Along.{one_marked, one_unmarked}
use Rattle.list_call.proofs.write_unmarked.Goals as goal

pub kind_of-requires : goal.kind_of-requires
kind_of-requires c = tag_room c.requires.tag_said

pub returns-then-kind_of-ge-MARK : goal.returns-then-kind_of-ge-MARK
returns-then-kind_of-ge-MARK c = rw (one_marked c.requires.tag_said (rw c.kind_of.ensures at c.if-kind_of-ge-MARK.true))
    (record { next = omega arith; tags = refl; labels = refl })

pub label_of-label-requires : goal.label_of-label-requires
label_of-label-requires c = tag_room c.requires.tag_said

pub bounds-tags-i : goal.bounds-tags-i
bounds-tags-i c = omega (arith, c.requires.tags_room, ap length (one_unmarked c.requires.tag_said (rw c.kind_of.ensures at c.if-kind_of-ge-MARK.false)))

pub bounds-labels-i : goal.bounds-labels-i
bounds-labels-i c = omega (arith, c.requires.labels_room, ap length (one_unmarked c.requires.tag_said (rw c.kind_of.ensures at c.if-kind_of-ge-MARK.false)))

pub returns : goal.returns
returns c =
    rw (one_unmarked c.requires.tag_said (rw c.kind_of.ensures at c.if-kind_of-ge-MARK.false))
    (record { next = refl; tags = refl; labels = rw (c.label_of-label.ensures ∙ (words_of_tag c.requires.tag_said).label_word) })
