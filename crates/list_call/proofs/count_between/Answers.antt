use mathlib.Core.Path.{refl, sym, ◌∙◌}
use native.Mathlib.Omega.{arith}
use Rattle.lists.proofs.Tests.{not_same, are_same}
use Rattle.store_refuse.proofs.Laws.{tag_room}
use Rattle.list_call.proofs.Along.{tag_on}
use Rattle.list_call.proofs.Passes.{pass_falls, counting_turn, counting_few, counting_end}
use Rattle.list_call.proofs.count_between.Goals as goal

pub count_unmarked-count-requires : goal.count_unmarked-count-requires
count_unmarked-count-requires c = tag_on (c.loop-to.invariant).span (not_same _ _ refl (sym c.ne.ensures ∙ c.loop-to-test.true))

pub overflow_add-count : goal.overflow_add-count
overflow_add-count c = omega (arith, c.count_unmarked-count.ensures, counting_few (c.loop-to.invariant) (not_same _ _ refl (sym c.ne.ensures ∙ c.loop-to-test.true)))

pub next_of-x-requires : goal.next_of-x-requires
next_of-x-requires c = tag_room (tag_on (c.loop-to.invariant).span (not_same _ _ refl (sym c.ne.ensures ∙ c.loop-to-test.true)))

pub loop-to-smaller : goal.loop-to-smaller
loop-to-smaller c = rw c.next_of-x.ensures (pass_falls (c.loop-to.invariant).span (not_same _ _ refl (sym c.ne.ensures ∙ c.loop-to-test.true)))

pub loop-to-preserved : goal.loop-to-preserved
loop-to-preserved c =
    rw (c.next_of-x.ensures, c.count_unmarked-count.ensures) (counting_turn (c.loop-to.invariant) (not_same _ _ refl (sym c.ne.ensures ∙ c.loop-to-test.true)))

pub returns : goal.returns
returns c = counting_end c.loop-to.invariant (are_same _ _ refl (sym c.ne.ensures ∙ c.loop-to-test.false))
