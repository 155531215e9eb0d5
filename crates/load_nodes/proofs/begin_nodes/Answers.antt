use mathlib.Core.Path.{refl, sym, ◌∙◌}
use native.Mathlib.Omega.{arith}
use Rattle.shape.proofs.Sums.{cut_small}
use Rattle.load_nodes.proofs.Nodes.{begun_stays, begun_goes, begun_ends, told}
use Rattle.load_nodes.proofs.begin_nodes.Goals as goal

pub loop-j-init : goal.loop-j-init
loop-j-init c = (c.requires.1, refl)

pub returns-then-begins-j : goal.returns-then-begins-j
returns-then-begins-j c =
    let all = told _ _ (sym (begun_stays _ _ _ _ c.loop-j.j c.loop-j.at c.loop-j.begins c.loop-j-test.true c.if-begins-j.true) ∙ c.loop-j.invariant.1) in record { label = all.0; begins = all.1 }

pub sum-at-requires : goal.sum-at-requires
sum-at-requires c =
    (omega (arith, c.loop-j.invariant.0), c.requires.2.each c.loop-j.j)

pub next_begin-requires : goal.next_begin-requires
next_begin-requires c =
    (c.requires.0, c.requires.3.each c.loop-j.j)

pub loop-j-preserved : goal.loop-j-preserved
loop-j-preserved c = (
  rw c.sum-at.ensures (cut_small _),
  rw (c.next_begin.ensures, c.sum-at.ensures) (sym (begun_goes _ _ _ _ c.loop-j.j c.loop-j.at c.loop-j.begins c.loop-j-test.true c.if-begins-j.false) ∙ c.loop-j.invariant.1),
)

pub returns : goal.returns
returns c =
    let all = told _ _ (sym (begun_ends _ _ _ _ c.loop-j.j c.loop-j.at c.loop-j.begins (omega arith)) ∙ c.loop-j.invariant.1) in record { label = all.0; begins = all.1 }
