use mathlib.Core.Path.{sym, ◌∙◌}
use mathlib.Core.List.{[]}
use native.Mathlib.Omega.{arith}
use Rattle.xml_attributes.specs.Chain.{here}
use Rattle.xml_attributes.proofs.NextLaws.{next_later}
use Rattle.xml_tag.proofs.GatherSteps.{passing_turn, passing_closes}
use Rattle.xml_tag.proofs.TailSteps.{chain_broken, chain_over}
use Rattle.xml_tag.proofs.gather.pass_by.Goals as goal

pub loop-at-init : goal.loop-at-init
loop-at-init c = record { row = []; chain = here; within = c.requires.0 }

pub next_in_tag-requires : goal.next_in_tag-requires
next_in_tag-requires c = c.loop-at.invariant.within

pub returns-in-Closer : goal.returns-in-Closer
returns-in-Closer c =
    passing_closes c.loop-at.invariant _ _ (sym (rw c.in-Closer.is at c.in_ok-end.ensures)) c.requires.1

pub returns-in_err-end : goal.returns-in_err-end
returns-in_err-end c = c.from_residual.ensures ∙ chain_broken c.loop-at.invariant.chain [] (sym c.in_err-end.ensures)

pub loop-at-smaller : goal.loop-at-smaller
loop-at-smaller c =
    let o = next_later _ _ _ _ _ (sym (rw c.in-Attribute.is at c.in_ok-end.ensures)) in
    omega arith

pub loop-at-preserved : goal.loop-at-preserved
loop-at-preserved c =
    passing_turn c.loop-at.invariant _ _ _ (sym (rw c.in-Attribute.is at c.in_ok-end.ensures))

pub returns : goal.returns
returns c = chain_over c.loop-at.invariant.chain [] c.loop-at-test.false
