-- `insert_plan::plain_plan` meets its contract. Assumes nothing.
use mathlib.Core.Path.{refl}
use native.Mathlib.Omega.{arith}
use Rattle.store_types.specs.Limits.{most_tags}
use Rattle.insert_plan.proofs.Plans.{plain_made, times_width}
use Rattle.insert_plan.specs.Parts.{plan_record}
use Rattle.insert_plan.proofs.plain_plan.Goals as goal

pub next_label-number-requires : goal.next_label-number-requires
next_label-number-requires c = (c.requires.place, c.requires.widths 0)

pub sum-requires : goal.sum-requires
sum-requires c = (c.requires.parent_fits, c.requires.widths 1)

pub times-requires : goal.times-requires
times-requires c =
    omega (arith, times_width most_tags c.requires.few refl (c.requires.widths 0))

pub returns : goal.returns
unfolding plan_record
returns c =
    plain_made _ _ _ _ _ c.requires.parent_is refl refl c.next_label-number.ensures c.sum.ensures c.times.ensures
