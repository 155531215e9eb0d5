-- `held_call::asked` meets its contract. Assumes nothing.
use borrow.Author.Tests.{leb-false}
use mathlib.Core.Logic.{inl, inr}
use native.Mathlib.Omega.{arith}
use Rattle.store_types.specs.Replies.{number_of, numbered}
use Rattle.store_refuse.proofs.Laws.{header_room, tag_below, tag_room}
use Rattle.held_call.proofs.Pairs.{other_book, no_such_tag, not_begin, pair_asked}
use Rattle.held_call.proofs.asked.Goals.{then-n-section-via-then-n-section, then-n-section-via-else-n-section+then-n-tag}
use Rattle.held_call.proofs.asked.Goals as goal

pub bounds-words-6 : goal.bounds-words-6
bounds-words-6 c = omega (arith, header_room _ c.requires)

pub returns-then-pair-book : goal.returns-then-pair-book
unfolding numbered number_of
returns-then-pair-book c = other_book _ _ _ c.requires c.if-pair-book.true

pub count_of-n-requires : goal.count_of-n-requires
count_of-n-requires c = header_room _ c.requires

pub returns-then-n-section : goal.returns-then-n-section
unfolding numbered number_of
returns-then-n-section c =
    no_such_tag _ _ _ c.requires c.if-pair-book.false
    (elim c.then-n-section.branch [
      | then-n-section-via-then-n-section w ↦ inl (rw c.count_of-n.ensures at w.if-n-section.true)
      | then-n-section-via-else-n-section+then-n-tag w ↦ inr (rw c.count_of-n.ensures at w.if-n-tag.true)
    ])

pub kind_of-requires : goal.kind_of-requires
kind_of-requires c = tag_room (tag_below _ c.requires _ (rw c.count_of-n.ensures at c.if-n-section.false))

pub returns-then-kind_of-ne-KIND_BEGIN : goal.returns-then-kind_of-ne-KIND_BEGIN
unfolding numbered number_of
returns-then-kind_of-ne-KIND_BEGIN c =
    not_begin _ _ _ (tag_below _ c.requires _ (rw c.count_of-n.ensures at c.if-n-section.false)) (tag_below _ (tag_below _ c.requires _ (rw c.count_of-n.ensures at c.if-n-section.false)).says _ (leb-false _ _ (rw c.count_of-n.ensures at c.if-n-tag.false-raw))) c.if-pair-book.false (rw c.kind_of.ensures at c.if-kind_of-ne-KIND_BEGIN.true)

pub answer-requires : goal.answer-requires
answer-requires c =
    pair_asked _ _ _ (tag_below _ c.requires _ (rw c.count_of-n.ensures at c.if-n-section.false)) (tag_below _ (tag_below _ c.requires _ (rw c.count_of-n.ensures at c.if-n-section.false)).says _ (leb-false _ _ (rw c.count_of-n.ensures at c.if-n-tag.false-raw))) c.if-pair-book.false (rw c.kind_of.ensures at c.if-kind_of-ne-KIND_BEGIN.false)
