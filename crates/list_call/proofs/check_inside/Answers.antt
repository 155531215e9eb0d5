-- `list_call::check_inside` meets its contract. Assumes nothing.
use mathlib.Core.Path.{sym, ◌∙◌}
use borrow.Author.Rules.{rules}
use Rattle.store_types.specs.Replies.{number_of, refusal_in}
use Rattle.store_refuse.proofs.Laws.{accepted_says, words_told, header_room, tag_below, tag_room}
use Rattle.list_call.proofs.ListRefusals.{inside_front, inside_unknown, inside_marked, inside_no_begin, inside_accepted}
use Rattle.list_call.proofs.check_inside.Goals as goal

pub returns-in_err-check_words : goal.returns-in_err-check_words
returns-in_err-check_words c = words_told _ _ _ _ c.in_err-check_words.ensures _ (search rules)

pub returns-then-is_none : goal.returns-then-is_none
unfolding refusal_in number_of
returns-then-is_none c = sym (inside_front _ _ (accepted_says _ _ (sym c.in_ok-check_words.ensures)) (sym c.is_none.ensures ∙ c.if-is_none.true))

pub count_of-requires : goal.count_of-requires
unfolding refusal_in number_of
count_of-requires c = header_room _ (accepted_says _ _ (sym c.in_ok-check_words.ensures))

pub returns-then-count_of-begin : goal.returns-then-count_of-begin
unfolding refusal_in number_of
returns-then-count_of-begin c = sym (inside_unknown _ _ (sym c.is_none.ensures ∙ c.if-is_none.false) (accepted_says _ _ (sym c.in_ok-check_words.ensures)) (rw c.count_of.ensures at c.if-count_of-begin.true))

pub kind_of-kind-requires : goal.kind_of-kind-requires
unfolding refusal_in number_of
kind_of-kind-requires c = tag_room (tag_below _ (accepted_says _ _ (sym c.in_ok-check_words.ensures)) _ (rw c.count_of.ensures at c.if-count_of-begin.false))

pub returns-then-kind-ge-MARK : goal.returns-then-kind-ge-MARK
unfolding refusal_in number_of
returns-then-kind-ge-MARK c =
    sym (inside_marked _ _ (sym c.is_none.ensures ∙ c.if-is_none.false) (tag_below _ (accepted_says _ _ (sym c.in_ok-check_words.ensures)) _ (rw c.count_of.ensures at c.if-count_of-begin.false)) (rw c.kind_of-kind.ensures at c.if-kind-ge-MARK.true))

pub returns-then-kind-ne-KIND_BEGIN : goal.returns-then-kind-ne-KIND_BEGIN
unfolding refusal_in number_of
returns-then-kind-ne-KIND_BEGIN c =
    sym (inside_no_begin _ _ (sym c.is_none.ensures ∙ c.if-is_none.false) (tag_below _ (accepted_says _ _ (sym c.in_ok-check_words.ensures)) _ (rw c.count_of.ensures at c.if-count_of-begin.false)) (rw c.kind_of-kind.ensures at c.if-kind-ge-MARK.false) (λ e. c.if-kind-ne-KIND_BEGIN.true (c.kind_of-kind.ensures ∙ e)))

pub returns : goal.returns
unfolding refusal_in number_of
returns c =
    sym (inside_accepted _ _ (sym c.is_none.ensures ∙ c.if-is_none.false) (tag_below _ (accepted_says _ _ (sym c.in_ok-check_words.ensures)) _ (rw c.count_of.ensures at c.if-count_of-begin.false)) (rw c.kind_of-kind.ensures at c.if-kind-ge-MARK.false) (sym c.kind_of-kind.ensures ∙ c.if-kind-ne-KIND_BEGIN.false))
