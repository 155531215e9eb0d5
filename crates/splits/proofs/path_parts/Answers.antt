-- `splits::path_parts` meets its contract. Assumes nothing.
use mathlib.Core.Path.{refl}
use Prim.Native.Nat.{◌-◌, ◌≤◌}
use native.Mathlib.Numerals.{sub-one}
use native.Mathlib.Omega.{arith}
use Rattle.splits.proofs.Cuts.{cut_up, splits_lower}
use Rattle.splits.proofs.path_parts.Goals as goal

pub overflow_sub-trees : goal.overflow_sub-trees
overflow_sub-trees c = omega (arith, c.requires.1.path.low)

pub nonzero_div-trees : goal.nonzero_div-trees
nonzero_div-trees c = omega (arith, (cut_up c.requires.0 c.requires.1 refl).some)

pub overflow_mul-before : goal.overflow_mul-before
overflow_mul-before c = rw (sub-one c.args.at) (omega (arith, (cut_up c.requires.0 c.requires.1 refl)))

pub overflow_add-own : goal.overflow_add-own
overflow_add-own c = omega (arith, (cut_up c.requires.0 c.requires.1 refl))

pub overflow_sub-j : goal.overflow_sub-j
overflow_sub-j c = omega (arith, c.requires.0)

pub in_splits-split-requires : goal.in_splits-split-requires
in_splits-split-requires c = splits_lower c.requires.1.splits (c.args.j - 1) (omega arith)

pub overflow_sub-result : goal.overflow_sub-result
overflow_sub-result c = rw (sub-one c.args.at) (omega (arith, (cut_up c.requires.0 c.requires.1 refl)))

pub overflow_sub-result-2 : goal.overflow_sub-result-2
overflow_sub-result-2 c = rw (sub-one c.args.at) (omega (arith, (cut_up c.requires.0 c.requires.1 refl)))

pub overflow_sub-result-3 : goal.overflow_sub-result-3
overflow_sub-result-3 c = rw (sub-one c.args.at) (omega (arith, (cut_up c.requires.0 c.requires.1 refl)))

pub overflow_add-result : goal.overflow_add-result
overflow_add-result c = rw (sub-one c.args.at) (omega (arith, (cut_up c.requires.0 c.requires.1 refl), (let it : c.in_splits-split.result ≤ c.args.rest = rw (c.in_splits-split.ensures, sub-one) (cut_up c.requires.0 c.requires.1 refl).split in it)))

pub overflow_sub-result-4 : goal.overflow_sub-result-4
overflow_sub-result-4 c = (let it : c.in_splits-split.result ≤ c.args.rest = rw (c.in_splits-split.ensures, sub-one) (cut_up c.requires.0 c.requires.1 refl).split in it)

pub returns : goal.returns
returns c =
    let d = (cut_up c.requires.0 c.requires.1 refl) in
    rw ((sub-one c.args.at), c.in_splits-split.ensures, sub-one c.args.j)
    (record { trees = rw d.each_is; before = rw d.each_is; own = rw d.each_is; after = omega (arith, d.fits); at = rw d.each_is; rest = refl })
