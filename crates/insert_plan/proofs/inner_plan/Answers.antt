-- `insert_plan::inner_plan` meets its contract. Assumes nothing.
use mathlib.Core.Path.{refl}
use native.Mathlib.Omega.{arith}
use Rattle.words.proofs.Fields.{header_long}
use Rattle.insert_plan.proofs.Plans.{found_under, found_inside, plain_asks, split_asks, inner_plain, inner_split}
use Rattle.insert_plan.proofs.inner_plan.Goals as goal

pub height_of-requires : goal.height_of-requires
height_of-requires c = header_long c.requires.records

pub plain_plan-requires : goal.plain_plan-requires
plain_plan-requires c = plain_asks c.requires refl

pub returns-then-h-eq0 : goal.returns-then-h-eq0
returns-then-h-eq0 c =
    inner_plain _ _ _ _ _ _ _ (found_under _ _ _ c.highest_full-h.ensures c.height_of.ensures) c.if-h-eq0.true c.plain_plan.ensures

pub bounds-tables-h : goal.bounds-tables-h
bounds-tables-h c = omega (arith, found_inside c.requires (found_under _ _ _ c.highest_full-h.ensures c.height_of.ensures))

pub bounds-sizes-h : goal.bounds-sizes-h
bounds-sizes-h c = omega (arith, found_inside c.requires (found_under _ _ _ c.highest_full-h.ensures c.height_of.ensures))

pub overflow_cast-sizes : goal.overflow_cast-sizes
overflow_cast-sizes c =
    omega (arith, (split_asks c.requires (found_under _ _ _ c.highest_full-h.ensures c.height_of.ensures) c.if-h-eq0.false).size)

pub split_plan-requires : goal.split_plan-requires
split_plan-requires c =
    split_asks c.requires (found_under _ _ _ c.highest_full-h.ensures c.height_of.ensures) c.if-h-eq0.false

pub returns : goal.returns
returns c =
    inner_split _ _ _ _ _ _ _ (found_under _ _ _ c.highest_full-h.ensures c.height_of.ensures) c.if-h-eq0.false c.requires.numbers_are refl c.left_border-border.ensures c.split_plan.ensures

pub offset_bounds-tables-h : goal.offset_bounds-tables-h
offset_bounds-tables-h c = omega (arith, found_inside c.requires (found_under _ _ _ c.highest_full-h.ensures c.height_of.ensures))

pub offset_bounds-sizes-h : goal.offset_bounds-sizes-h
offset_bounds-sizes-h c = omega (arith, found_inside c.requires (found_under _ _ _ c.highest_full-h.ensures c.height_of.ensures))
