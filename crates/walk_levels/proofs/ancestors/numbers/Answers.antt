use native.Mathlib.Omega.{arith}
use lib.ListN.{get_or, replicate}
use Rattle.powers.specs.Tables.{table_length}
use Rattle.walk_levels.proofs.AncestorNumbers.{step_fits, descend_start, descend_on, descend_end}
use Rattle.walk_levels.proofs.ancestors.numbers.Goals as goal

pub loop-h-init : goal.loop-h-init
loop-h-init c =
    descend_start c.args.widths.now c.args.under c.args.label.0 (replicate table_length 0)

pub bounds-widths-h : goal.bounds-widths-h
bounds-widths-h c = omega (arith, c.requires.height)

pub overflow_sub-above : goal.overflow_sub-above
overflow_sub-above c = omega arith

pub nonzero_div-above : goal.nonzero_div-above
nonzero_div-above c = c.requires.widths c.loop-h.h (omega arith) (omega arith)

pub overflow_mul-above : goal.overflow_mul-above
overflow_mul-above c = omega (arith, step_fits c.args.label.0 c.loop-h.above (get_or c.args.widths.now c.loop-h.h 0), c.loop-h.invariant.most)

pub overflow_add-above : goal.overflow_add-above
overflow_add-above c = omega (arith, step_fits c.args.label.0 c.loop-h.above (get_or c.args.widths.now c.loop-h.h 0), c.loop-h.invariant.most)

pub bounds-numbers-h : goal.bounds-numbers-h
bounds-numbers-h c = omega (arith, c.requires.height)

pub loop-h-preserved : goal.loop-h-preserved
loop-h-preserved c = descend_on c.loop-h.invariant (omega arith)

pub returns : goal.returns
returns c = descend_end c.loop-h.invariant (omega arith)
