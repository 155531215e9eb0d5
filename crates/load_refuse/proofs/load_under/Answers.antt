use Rattle.load_refuse.proofs.Height.{search_starts, search_goes, height_below, search_ends}
use native.Mathlib.Omega.{arith}
use Rattle.load_refuse.proofs.load_under.Goals as goal

pub loop-p-init : goal.loop-p-init
loop-p-init c = search_starts c.args.r c.args.n

pub overflow_add-h : goal.overflow_add-h
overflow_add-h c =
    omega (arith, height_below c.args.r c.args.n _ _ c.requires.least c.loop-p.invariant)

pub loop-p-smaller : goal.loop-p-smaller
loop-p-smaller c =
    omega (arith, height_below c.args.r c.args.n _ _ c.requires.least c.loop-p.invariant)

pub loop-p-preserved : goal.loop-p-preserved
loop-p-preserved c =
    search_goes c.args.r c.args.n _ _ c.loop-p.invariant c.loop-p-test.true

pub returns : goal.returns
returns c =
    search_ends c.args.r c.args.n _ _ c.requires.least c.loop-p.invariant c.loop-p-test.false
