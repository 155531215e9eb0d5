use mathlib.Core.Path.{◌≡◌}
use native.Mathlib.Omega.{arith}
use Rattle.load_nodes.proofs.GapLaws.{room_below, room_small, gaps_none, gaps_more}
use Rattle.load_nodes.proofs.gaps.Goals as goal

pub loop-h-init : goal.loop-h-init
loop-h-init c = gaps_none _ _

pub bounds-widths-h : goal.bounds-widths-h
bounds-widths-h c = omega (arith, c.requires.height)

pub bounds-widths-h-in-loop-h : goal.bounds-widths-h-in-loop-h
bounds-widths-h-in-loop-h c = omega (arith, c.requires.height)

pub overflow_mul-gaps : goal.overflow_mul-gaps
overflow_mul-gaps c = record { fits = room_small _ _ _ _ c.requires c.loop-h-test.true }

pub overflow_sub-gaps : goal.overflow_sub-gaps
overflow_sub-gaps c = room_below _ _ _ _ c.requires c.loop-h-test.true

pub bounds-gaps-h : goal.bounds-gaps-h
bounds-gaps-h c = omega (arith, c.requires.height)

pub loop-h-preserved : goal.loop-h-preserved
loop-h-preserved c =
    gaps_more _ _ c.loop-h.h _ _ c.requires c.loop-h-test.true c.loop-h.invariant

pub returns : goal.returns
returns c =
    let e : c.loop-h.h ≡ c.args.under = omega arith in
    rw (← e) c.loop-h.invariant
