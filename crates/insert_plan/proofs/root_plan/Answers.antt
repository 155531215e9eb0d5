-- `insert_plan::root_plan` meets its contract. Assumes nothing.
use native.Mathlib.Omega.{arith}
use Rattle.words.proofs.Fields.{header_long}
use Rattle.insert_plan.proofs.Plans.{taken_most, root_made}
use Rattle.insert_plan.specs.Parts.{plan_record}
use Rattle.insert_plan.proofs.root_plan.Goals as goal

pub count_of-n-requires : goal.count_of-n-requires
count_of-n-requires c = header_long c.requires.records

pub overflow_add-result-2 : goal.overflow_add-result-2
overflow_add-result-2 c =
    omega (arith, taken_most _ c.requires.node c.in_node-split.ensures, c.struct_known-1.given)

pub returns : goal.returns
unfolding plan_record
returns c =
    root_made _ _ _ _ _ _ c.count_of-n.ensures c.left_border-border.ensures.steps_are c.in_node-split.ensures c.saturating_sub.ensures
