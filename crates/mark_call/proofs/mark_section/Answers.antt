use mathlib.Core.Path.{sym, ◌∙◌}
use native.Mathlib.Omega.{arith}
use borrow.Author.Tests.{eqb-true, eqb-false}
use borrow.Author.Rules.{rules}
use Rattle.words.proofs.Fields.{room, room_same}
use Rattle.mark_call.proofs.Loop.{left_first, turn, turn_few, turn_long, left_turn, left_last, left_out, left_over}
use Rattle.mark_call.proofs.mark_section.Goals as goal

pub mate_of-last-requires : goal.mate_of-last-requires
mate_of-last-requires c = search (rules, room)

pub loop-init : goal.loop-init
loop-init c = left_first _ _ _ _ c.mate_of-last.ensures

pub mark_tag-marked-requires : goal.mark_tag-marked-requires
mark_tag-marked-requires c = room_same (room c.requires.records c.if-n-tag.false) c.loop.invariant.long

pub overflow_add-marked : goal.overflow_add-marked
overflow_add-marked c =
    omega (arith, turn_few (turn c.loop.invariant c.loop-test.true c.if-n-tag.false c.mark_tag-marked.ensures.new c.mark_tag-marked.ensures.words))

pub returns-then-eq : goal.returns-then-eq
returns-then-eq c =
    let all = left_last (turn c.loop.invariant c.loop-test.true c.if-n-tag.false c.mark_tag-marked.ensures.new c.mark_tag-marked.ensures.words) (eqb-true _ _ (sym c.eq.ensures ∙ c.if-eq.true)) in
    record { new = all.0; words = all.1 }

pub next_of-tag-requires : goal.next_of-tag-requires
next_of-tag-requires c =
    room_same (room c.requires.records c.if-n-tag.false) (turn_long (turn c.loop.invariant c.loop-test.true c.if-n-tag.false c.mark_tag-marked.ensures.new c.mark_tag-marked.ensures.words))

pub loop-preserved : goal.loop-preserved
loop-preserved c =
    left_turn (turn c.loop.invariant c.loop-test.true c.if-n-tag.false c.mark_tag-marked.ensures.new c.mark_tag-marked.ensures.words) (eqb-false _ _ (sym c.eq.ensures ∙ c.if-eq.false)) c.next_of-tag.ensures

pub returns-then-n-tag : goal.returns-then-n-tag
returns-then-n-tag c = let all = left_out c.loop.invariant c.if-n-tag.true in record { new = all.0; words = all.1 }

pub returns : goal.returns
returns c = let all = left_over c.loop.invariant c.loop-test.false in record { new = all.0; words = all.1 }
