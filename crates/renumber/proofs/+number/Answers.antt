use mathlib.Core.Path.{◌≡◌}
use Prim.Native.Nat.{◌+◌, ◌-◌, ◌/◌, ◌≤◌}
use native.Mathlib.Nat.{sub-zero}
use native.Mathlib.Omega.{arith}
use lib.ListN.{get_or}
use Rattle.shape.specs.Packed.{widths_in, lows_in, r_in}
use Rattle.relabel.proofs.Rows.{start, arrived}
use Rattle.renumber.proofs.Parts.{parts_start, parts_end, trees_zero, row_part, each_power, each_some, each_parts, fit_below, next_part, part_counted, part_on}
use Rattle.renumber.proofs.+number.Goals as goal

-- HEIGHT 0: the leaves
pub number_leaves-requires : goal.number_leaves-requires
number_leaves-requires t c =
    (c.requires.0, c.requires.1.number, c.requires.1.widths 0)

pub returns-then-j-eq0 : goal.returns-then-j-eq0
returns-then-j-eq0 t c =
    rw (← trees_zero c.args.words.now (widths_in c.args.tables.now) (r_in c.args.tables.now) c.args.j c.args.a c.args.x.0 c.args.count c.if-j-eq0.true)
    c.number_leaves.ensures

pub shape_of-words-then-j-eq0 : goal.shape_of-words-then-j-eq0
shape_of-words-then-j-eq0 t c = c.number_leaves.auto.words

pub loop-done-init : goal.loop-done-init
loop-done-init t c =
    let some : 1 ≤ c.args.j = omega arith in
    let all = parts_start c.args.words.now (widths_in c.args.tables.now) (r_in c.args.tables.now) c.args.j (get_or (lows_in c.args.tables.now) c.args.j 0) c.args.a c.args.x.0 c.args.count some (each_power c.requires.1 some) in
    rw (sub-zero (c.args.count / get_or (lows_in c.args.tables.now) c.args.j 0))
    (rw all (start _ _ _ _ _ c.requires.0 c.requires.1.number), each_parts c.requires.1 some)

pub part_size-size-requires : goal.part_size-size-requires
part_size-size-requires t c = each_some c.requires.1 (omega arith)

pub number-q-requires : goal.number-q-requires
number-q-requires t c =
    let next = (next_part _ _ _ _ (omega arith) c.loop-done.invariant.1 c.part_size-size.ensures) in
    (omega arith, (row_part c.loop-done.invariant.0.row c.part_size-size.result next.fits, fit_below c.requires.1 (omega arith) c.loop-done.at c.part_size-size.result c.loop-done.invariant.0.number next.least))

pub loop-done-preserved : goal.loop-done-preserved
loop-done-preserved t c =
    let some : 1 ≤ c.args.j = omega arith in
    let more : 1 ≤ c.args.count / get_or (lows_in c.args.tables.now) c.args.j 0 - c.loop-done.done = omega arith in
    let less : c.args.count / get_or (lows_in c.args.tables.now) c.args.j 0 - (c.loop-done.done + 1) ≡ c.args.count / get_or (lows_in c.args.tables.now) c.args.j 0 - c.loop-done.done - 1 = omega arith in
    rw less (
      rw c.sum-at.ensures
          (part_on (widths_in c.args.tables.now) (r_in c.args.tables.now) c.args.j (get_or (lows_in c.args.tables.now) c.args.j 0) (c.args.count / get_or (lows_in c.args.tables.now) c.args.j 0 - c.loop-done.done) c.loop-done.invariant.0 c.number-q.ensures c.requires.1.degree some (each_power c.requires.1 some) more c.loop-done.invariant.1 c.part_size-size.ensures c.number-q.auto.words),
      (next_part _ _ _ _ more c.loop-done.invariant.1 c.part_size-size.ensures).after,
    )

pub returns : goal.returns
returns t c =
    let none : c.args.count / get_or (lows_in c.args.tables.now) c.args.j 0 - c.loop-done.done ≡ 0 = omega arith in
    let end = parts_end c.loop-done.words (widths_in c.args.tables.now) (r_in c.args.tables.now) c.args.j (get_or (lows_in c.args.tables.now) c.args.j 0) c.loop-done.at c.loop-done.tag.0 c.loop-done.left in
    arrived c.loop-done.invariant.0 (c.loop-done.invariant.1.none none) (rw none end)

pub shape_of-words : goal.shape_of-words
shape_of-words t c = c.loop-done.invariant.0.long

-- RANGES
pub overflow_sub-below : goal.overflow_sub-below
overflow_sub-below t c = omega arith

pub bounds-tables-j : goal.bounds-tables-j
bounds-tables-j t c = omega (arith, c.requires.1.height)

pub bounds-tables-j-2 : goal.bounds-tables-j-2
bounds-tables-j-2 t c = omega (arith, c.requires.1.height)

pub nonzero_div-parts : goal.nonzero_div-parts
nonzero_div-parts t c = each_some c.requires.1 (omega arith)

pub overflow_add-moved : goal.overflow_add-moved
overflow_add-moved t c =
    let few = part_counted (widths_in c.args.tables.now) (r_in c.args.tables.now) c.args.j (get_or (lows_in c.args.tables.now) c.args.j 0) (c.args.count / get_or (lows_in c.args.tables.now) c.args.j 0 - c.loop-done.done) c.loop-done.invariant.0 c.number-q.ensures (next_part _ _ _ _ (omega arith) c.loop-done.invariant.1 c.part_size-size.ensures).fits in
    omega (arith, few, c.requires.0.most)

pub sum-at-requires : goal.sum-at-requires
sum-at-requires t c =
    (omega (arith, c.loop-done.invariant.0.number), c.requires.1.widths c.args.j)

pub overflow_sub-left : goal.overflow_sub-left
overflow_sub-left t c = (next_part _ _ _ _ (omega arith) c.loop-done.invariant.1 c.part_size-size.ensures).fits
