use mathlib.Core.Path.{refl, sym, ◌∙◌}
use Rattle.lists.proofs.Tests.{not_same, are_same}
use Rattle.store_refuse.proofs.Laws.{tag_room}
use Rattle.list_call.proofs.Along.{tag_on}
use Rattle.list_call.proofs.Passes.{pass_falls, tags_room, labels_room, writing_turn, tags_end, labels_end, counting_end}
use Rattle.list_call.proofs.write_between.Goals as goal

pub write_unmarked-i-requires : goal.write_unmarked-i-requires
write_unmarked-i-requires c =
    record { tag_said = tag_on (c.loop-to.invariant).span (not_same _ _ refl (sym c.ne.ensures ∙ c.loop-to-test.true)); tags_room = tags_room (c.loop-to.invariant) (not_same _ _ refl (sym c.ne.ensures ∙ c.loop-to-test.true)); labels_room = labels_room (c.loop-to.invariant) (not_same _ _ refl (sym c.ne.ensures ∙ c.loop-to-test.true)) }

pub next_of-x-requires : goal.next_of-x-requires
next_of-x-requires c = tag_room (tag_on (c.loop-to.invariant).span (not_same _ _ refl (sym c.ne.ensures ∙ c.loop-to-test.true)))

pub loop-to-smaller : goal.loop-to-smaller
loop-to-smaller c = rw c.next_of-x.ensures (pass_falls (c.loop-to.invariant).span (not_same _ _ refl (sym c.ne.ensures ∙ c.loop-to-test.true)))

pub loop-to-preserved : goal.loop-to-preserved
loop-to-preserved c =
    rw (c.next_of-x.ensures, c.write_unmarked-i.ensures.next, c.write_unmarked-i.ensures.tags, c.write_unmarked-i.ensures.labels) (writing_turn (c.loop-to.invariant) (not_same _ _ refl (sym c.ne.ensures ∙ c.loop-to-test.true)))

pub returns : goal.returns
returns c =
    let last = are_same _ _ refl (sym c.ne.ensures ∙ c.loop-to-test.false) in
    record { tags = tags_end c.loop-to.invariant last c.requires.tags_room; labels = labels_end c.loop-to.invariant last c.requires.labels_room; count = counting_end c.loop-to.invariant.counts last }
