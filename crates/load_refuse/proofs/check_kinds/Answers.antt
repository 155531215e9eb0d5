use mathlib.Core.Path.{sym, ◌∙◌}
use borrow.Author.Tests.{eq-eqb, ne_eqb, not-true, not-false}
use native.Mathlib.Omega.{arith}
use lib.ListN.{get_or}
use Rattle.std.proofs.lemmas.List.{take_rest}
use Rattle.store_types.specs.Replies.{number_of, refusal_in}
use Rattle.calls.specs.Kind.{kind_of}
use Rattle.load_refuse.proofs.KindBits.{end_first, end_closes}
use Rattle.load_refuse.proofs.KindsSeen.{kinds_stop, kinds_break, kinds_go, kinds_end, depth_most}
use Rattle.load_refuse.proofs.check_kinds.Goals as goal

pub returns-then-not-is_a_kind : goal.returns-then-not-is_a_kind
unfolding refusal_in number_of
returns-then-not-is_a_kind c =
    sym (kinds_stop _ c.loop-i.i c.loop-i-test.true c.loop-i.depth (sym c.is_a_kind.ensures ∙ not-true _ c.if-not-is_a_kind.true-raw)) ∙ c.loop-i.invariant.1

pub returns-then-depth-ends : goal.returns-then-depth-ends
unfolding refusal_in
returns-then-depth-ends c =
    let first = end_first c.loop-i.depth _ (rw c.ends.ensures at c.if-depth-ends.true) in
    rw take_rest at c.rest_refusal.ensures ∙ sym (kinds_break _ c.loop-i.i c.loop-i-test.true first.0) ∙ (rw first.1 at c.loop-i.invariant.1)

pub loop-i-preserved : goal.loop-i-preserved
loop-i-preserved c =
    let kind = (sym c.is_a_kind.ensures ∙ not-false _ c.if-not-is_a_kind.false-raw) in (
      rw c.depth_after-depth.ensures omega (arith, depth_most (kind_of (get_or (c.args.kinds.now) c.loop-i.i 0)) c.loop-i.depth),
      rw c.depth_after-depth.ensures (sym (kinds_go _ c.loop-i.i c.loop-i-test.true c.loop-i.depth kind (end_closes _ _ (rw c.ends.ensures at c.if-depth-ends.false))) ∙ c.loop-i.invariant.1),
    )

pub returns-then-depth-ne0 : goal.returns-then-depth-ne0
unfolding refusal_in number_of
returns-then-depth-ne0 c =
    sym (kinds_end c.loop-i.depth _ _ c.loop-i-test.false ∙ rw (ne_eqb _ _ c.if-depth-ne0.true)) ∙ c.loop-i.invariant.1

pub returns : goal.returns
unfolding refusal_in
returns c =
    sym (kinds_end c.loop-i.depth _ _ c.loop-i-test.false ∙ rw (eq-eqb _ _ c.if-depth-ne0.false)) ∙ c.loop-i.invariant.1
