use mathlib.Core.Path.{◌≡◌}
use native.Mathlib.Omega.{arith}
use Rattle.load_nodes.proofs.Nodes.{first_none, first_more}
use Rattle.load_nodes.proofs.first_begins.Goals as goal

pub loop-j-init : goal.loop-j-init
loop-j-init c = first_none _ _

pub next_begin-requires : goal.next_begin-requires
next_begin-requires c = (omega arith, c.requires.1.each _)

pub loop-j-preserved : goal.loop-j-preserved
loop-j-preserved c =
    rw c.next_begin.ensures (first_more _ _ _ _ (omega arith) c.loop-j.invariant)

pub returns : goal.returns
returns c =
    let e : c.loop-j.j ≡ c.args.under = omega arith in
    rw (← e) c.loop-j.invariant
