-- `insert_plan::split_plan` meets its contract. Assumes nothing.
use mathlib.Core.Path.{refl}
use Prim.Native.Nat.{◌+◌, ◌≤◌}
use native.Mathlib.Omega.{arith}
use lib.ListN.{get_or}
use Rattle.shape.specs.Packed.{lows_in}
use Rattle.insert_plan.proofs.Plans.{taken_few, low_is, low_some, trees_few, times_width, split_made}
use Rattle.insert_plan.specs.Parts.{plan_record, border_record}
use Rattle.insert_plan.proofs.split_plan.Goals as goal

pub overflow_add-trees : goal.overflow_add-trees
overflow_add-trees c = omega (arith, taken_few c.requires c.in_node-split.ensures, c.requires.size)

pub nonzero_div-trees : goal.nonzero_div-trees
nonzero_div-trees c = omega (arith, low_some c.requires c.in_node-split.ensures refl)

pub times-by-requires : goal.times-by-requires
times-by-requires c =
    let few : c.saturating_sub.result ≤ 400000 = omega (arith, c.saturating_sub.ensures, trees_few c.requires c.in_node-split.ensures (get_or (lows_in c.args.tables.now) c.args.h 0)) in
    omega (arith, times_width 400000 few refl (c.requires.widths c.args.h))

pub sum-end-requires : goal.sum-end-requires
sum-end-requires c =
    (c.requires.numbers (c.args.h + 1), c.requires.widths (c.args.h + 1))

pub overflow_add-result-2 : goal.overflow_add-result-2
overflow_add-result-2 c =
    omega (arith, taken_few c.requires c.in_node-split.ensures, c.struct_known-1.given)

pub returns : goal.returns
unfolding plan_record border_record
returns c =
    split_made _ _ _ _ c.args.h c.args.l c.args.k (border_record c.args.border) c.in_node-split.ensures (low_is c.requires c.in_node-split.ensures refl)
    c.saturating_sub.ensures refl c.times-by.ensures refl refl c.sum-end.ensures refl c.saturating_sub-2.ensures
