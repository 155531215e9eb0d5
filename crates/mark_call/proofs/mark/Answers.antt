-- `mark_call::mark` meets its contract: the words stay where the call is refused, and are the marked store's where it is
-- not. Assumes nothing.
use mathlib.Core.Path.{sym, ◌∙◌}
use borrow.Author.Rules.{rules}
use native.Mathlib.Omega.{arith}
use Rattle.store_types.specs.Replies.{numbered, refusal_in}
use Rattle.calls.specs.Replies.{mark_reply, mark_words}
use Rattle.calls.proofs.Checks.{check_refuses, check_keeps}
use Rattle.mark_call.proofs.Reply.{accepted, done}
use Rattle.mark_call.proofs.mark.Goals as goal

pub returns-in_err-check_section : goal.returns-in_err-check_section
unfolding mark_reply mark_words
returns-in_err-check_section c =
    record { reply = check_refuses _ _ _ c.in_err-check_section.ensures _ _ (search rules); words = check_keeps _ _ _ c.in_err-check_section.ensures _ _ }

pub count_of-n-requires : goal.count_of-n-requires
unfolding refusal_in
count_of-n-requires c = (accepted _ _ (sym c.in_ok-check_section.ensures)).header

pub mark_section-marked-requires : goal.mark_section-marked-requires
unfolding refusal_in
mark_section-marked-requires c =
    let a = accepted _ _ (sym c.in_ok-check_section.ensures) in
    rw c.count_of-n.ensures
    (record { tag = a.tag; records = a.records })

pub stamp_of-stamp-requires : goal.stamp_of-stamp-requires
unfolding refusal_in
stamp_of-stamp-requires c = (done _ _ (sym c.in_ok-check_section.ensures) (rw c.count_of-n.ensures at c.mark_section-marked.ensures.new) (rw c.count_of-n.ensures at c.mark_section-marked.ensures.words)).there

pub overflow_add-stamp : goal.overflow_add-stamp
unfolding refusal_in
overflow_add-stamp c = omega (arith, (done _ _ (sym c.in_ok-check_section.ensures) (rw c.count_of-n.ensures at c.mark_section-marked.ensures.new) (rw c.count_of-n.ensures at c.mark_section-marked.ensures.words)).same, c.stamp_of-stamp.ensures)

pub set_stamp-requires : goal.set_stamp-requires
unfolding refusal_in
set_stamp-requires c = (done _ _ (sym c.in_ok-check_section.ensures) (rw c.count_of-n.ensures at c.mark_section-marked.ensures.new) (rw c.count_of-n.ensures at c.mark_section-marked.ensures.words)).there

pub returns : goal.returns
unfolding numbered refusal_in
returns c =
    let m = (done _ _ (sym c.in_ok-check_section.ensures) (rw c.count_of-n.ensures at c.mark_section-marked.ensures.new) (rw c.count_of-n.ensures at c.mark_section-marked.ensures.words)).replies in
    record { reply = m.0; words = c.set_stamp.ensures ∙ rw c.stamp_of-stamp.ensures m.1 }
