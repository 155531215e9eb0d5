-- `splits::in_splits` meets its contract. Assumes nothing.
use mathlib.Core.Path.{◌≡◌}
use Prim.Native.Nat.{◌*◌, ◌-◌, ◌^◌}
use native.Mathlib.Nat.{div-mul-le_self}
use native.Mathlib.Omega.{arith}
use lib.ListN.{get_or}
use Rattle.shape.specs.Packed.{lows_in, highs_in, s_in, r_in}
use Rattle.tree.specs.Grown.{in_splits}
use Rattle.splits.proofs.Cuts.{split_takes, split_some}
use Rattle.splits.proofs.in_splits.Goals as goal

pub overflow_sub-each : goal.overflow_sub-each
overflow_sub-each c = omega (
  arith,
  split_takes _ _ c.args.j _ _ (omega (arith, c.requires.degree_s)) (c.requires.highs c.args.j (omega arith)) (c.requires.lows c.args.j (omega arith)),
)

pub nonzero_div-result : goal.nonzero_div-result
nonzero_div-result c = omega (
  arith,
  split_takes _ _ c.args.j _ _ (omega (arith, c.requires.degree_s)) (c.requires.highs c.args.j (omega arith)) (c.requires.lows c.args.j (omega arith)),
  split_some _ _ c.args.j c.requires.degree_s c.requires.degree_r,
)

pub overflow_mul-result : goal.overflow_mul-result
overflow_mul-result c = omega (arith, div-mul-le_self c.args.rest (get_or (highs_in c.args.tables.now) c.args.j 0 - get_or (lows_in c.args.tables.now) c.args.j 0))

pub returns : goal.returns
unfolding in_splits
returns c =
    let each : get_or (highs_in c.args.tables.now) c.args.j 0 - get_or (lows_in c.args.tables.now) c.args.j 0 ≡ (s_in c.args.tables.now - 1) * r_in c.args.tables.now ^ c.args.j = omega (
      arith,
      split_takes _ _ c.args.j _ _ (omega (arith, c.requires.degree_s)) (c.requires.highs c.args.j (omega arith)) (c.requires.lows c.args.j (omega arith)),
    ) in
    rw each
