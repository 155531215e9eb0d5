-- `held_call::answer` meets its contract. Assumes nothing.
use borrow.Author.Tests.{not-true, not-false, lt-ltb, le-ltb}
use mathlib.Core.Path.{sym, ◌∙◌}
use mathlib.Core.Bool.{true, false, ◌&&◌, and-false}
use lib.Dec.{ltb}
use mathlib.Core.Path.{◌≡◌}
use Rattle.store_types.specs.Replies.{number_of, numbered}
use Rattle.store_refuse.proofs.Laws.{tag_room}
use Rattle.held_call.proofs.Pairs.{outdated, other_marked, tells}
use Rattle.held_call.proofs.answer.Goals.{else-start-label-via-then-start-label+else-label-end, else-start-label-via-else-start-label}
use Rattle.held_call.proofs.answer.Goals as goal

pub returns-then-not-is_current : goal.returns-then-not-is_current
unfolding numbered number_of
returns-then-not-is_current c = outdated _ _ _ c.requires (sym c.is_current.ensures ∙ not-true _ c.if-not-is_current.true-raw)

pub kind_of-requires : goal.kind_of-requires
kind_of-requires c = tag_room c.requires.other

pub returns-then-kind_of-ge-MARK : goal.returns-then-kind_of-ge-MARK
unfolding numbered number_of
returns-then-kind_of-ge-MARK c =
    other_marked _ _ _ c.requires (sym c.is_current.ensures ∙ not-false _ c.if-not-is_current.false-raw) (rw c.kind_of.ensures at c.if-kind_of-ge-MARK.true)

pub label_of-label-requires : goal.label_of-label-requires
label_of-label-requires c = tag_room c.requires.other

pub returns-then-label-end : goal.returns-then-label-end
unfolding numbered number_of
returns-then-label-end c =
    (tells _ _ _ c.requires (sym c.is_current.ensures ∙ not-false _ c.if-not-is_current.false-raw) (rw c.kind_of.ensures at c.if-kind_of-ge-MARK.false) true (rw c.label_of-label.ensures at (let it : (ltb c.args.pair.start.0 c.label_of-label.result.0 && ltb c.label_of-label.result.0 c.args.pair.end.0) ≡ true = rw (lt-ltb _ _ c.if-start-label.true) c.if-label-end.true-raw in it)))

pub returns : goal.returns
unfolding numbered number_of
returns c =
    (tells _ _ _ c.requires (sym c.is_current.ensures ∙ not-false _ c.if-not-is_current.false-raw) (rw c.kind_of.ensures at c.if-kind_of-ge-MARK.false) false (rw c.label_of-label.ensures at (let it : (ltb c.args.pair.start.0 c.label_of-label.result.0 && ltb c.label_of-label.result.0 c.args.pair.end.0) ≡ false = (elim c.else-start-label.branch [
      | else-start-label-via-then-start-label+else-label-end w ↦ rw (le-ltb _ _ w.if-label-end.false, and-false)
      | else-start-label-via-else-start-label w ↦ rw (le-ltb _ _ w.if-start-label.false)
    ]) in it)))
