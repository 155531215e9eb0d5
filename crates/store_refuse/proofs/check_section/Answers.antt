-- `store_refuse::check_section` meets its contract. Assumes nothing.
use mathlib.Core.Path.{sym, ◌∙◌}
use borrow.Author.Rules.{rules}
use Rattle.store_types.specs.Replies.{number_of, refusal_in}
use Rattle.store_refuse.proofs.Laws.{accepted_says, words_told, header_room, tag_below, tag_room, section_unknown, section_marked, section_ends, section_accepted}
use Rattle.store_refuse.proofs.check_section.Goals as goal

pub returns-in_err-check_words : goal.returns-in_err-check_words
returns-in_err-check_words c = words_told _ _ _ _ c.in_err-check_words.ensures _ (search rules)

pub count_of-requires : goal.count_of-requires
unfolding refusal_in
count_of-requires c = header_room _ (accepted_says _ _ (sym c.in_ok-check_words.ensures))

pub returns-then-count_of-tag : goal.returns-then-count_of-tag
unfolding refusal_in number_of
returns-then-count_of-tag c = sym (section_unknown _ _ (accepted_says _ _ (sym c.in_ok-check_words.ensures)) (rw c.count_of.ensures at c.if-count_of-tag.true))

pub kind_of-kind-requires : goal.kind_of-kind-requires
unfolding refusal_in
kind_of-kind-requires c = tag_room (tag_below _ (accepted_says _ _ (sym c.in_ok-check_words.ensures)) _ (rw c.count_of.ensures at c.if-count_of-tag.false))

pub returns-then-kind-ge-MARK : goal.returns-then-kind-ge-MARK
unfolding refusal_in number_of
returns-then-kind-ge-MARK c = sym (section_marked _ _ (tag_below _ (accepted_says _ _ (sym c.in_ok-check_words.ensures)) _ (rw c.count_of.ensures at c.if-count_of-tag.false)) (rw c.kind_of-kind.ensures at c.if-kind-ge-MARK.true))

pub returns-then-kind-eq-KIND_END : goal.returns-then-kind-eq-KIND_END
unfolding refusal_in number_of
returns-then-kind-eq-KIND_END c =
    sym (section_ends _ _ (tag_below _ (accepted_says _ _ (sym c.in_ok-check_words.ensures)) _ (rw c.count_of.ensures at c.if-count_of-tag.false)) (rw c.kind_of-kind.ensures at c.if-kind-ge-MARK.false) (sym c.kind_of-kind.ensures ∙ c.if-kind-eq-KIND_END.true))

pub returns : goal.returns
unfolding refusal_in
returns c =
    sym (section_accepted _ _ (tag_below _ (accepted_says _ _ (sym c.in_ok-check_words.ensures)) _ (rw c.count_of.ensures at c.if-count_of-tag.false)) (rw c.kind_of-kind.ensures at c.if-kind-ge-MARK.false) (λ e. c.if-kind-eq-KIND_END.false (c.kind_of-kind.ensures ∙ e)))
