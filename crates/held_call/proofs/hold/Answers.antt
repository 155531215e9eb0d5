-- `held_call::hold` meets its contract. Assumes nothing.
use mathlib.Core.Path.{sym}
use borrow.Author.Rules.{rules}
use native.Mathlib.Omega.{arith}
use Rattle.store_types.specs.Replies.{numbered, refusal_in}
use Rattle.calls.specs.Replies.{hold_reply}
use Rattle.calls.proofs.Checks.{check_refuses}
use Rattle.store_refuse.proofs.Laws.{tag_room, header_room}
use Rattle.held_call.proofs.Pairs.{section_tag, hold_held}
use Rattle.held_call.proofs.hold.Goals as goal

pub returns-in_err-check_section : goal.returns-in_err-check_section
unfolding hold_reply
returns-in_err-check_section c = check_refuses _ _ _ c.in_err-check_section.ensures _ _ (search rules)

pub label_of-start-requires : goal.label_of-start-requires
unfolding refusal_in
label_of-start-requires c = tag_room (section_tag _ _ (sym c.in_ok-check_section.ensures))

pub end_label-end-requires : goal.end_label-end-requires
unfolding refusal_in
end_label-end-requires c = section_tag _ _ (sym c.in_ok-check_section.ensures)

pub bounds-words-6 : goal.bounds-words-6
unfolding refusal_in
bounds-words-6 c = omega (arith, header_room _ (section_tag _ _ (sym c.in_ok-check_section.ensures)).says)

pub returns : goal.returns
unfolding numbered refusal_in
returns c = hold_held _ _ _ _ (sym c.in_ok-check_section.ensures) c.label_of-start.ensures c.end_label-end.ensures
