-- `insert_plan::apply` meets its contract. Assumes nothing.
use native.Mathlib.Omega.{arith}
use Rattle.words.proofs.PlaceLaws.{place_in}
use Rattle.words.proofs.Fields.{records_kept}
use Rattle.insert_plan.proofs.Plans.{number_asks, applied_by, moved_few, count_kept}
use Rattle.insert_plan.specs.Parts.{plan_record}
use Rattle.insert_plan.proofs.apply.Goals as goal

pub behind-start-requires : goal.behind-start-requires
unfolding plan_record
behind-start-requires c = place_in c.requires.records c.requires.left

pub number_path-q-requires : goal.number_path-q-requires
unfolding plan_record
number_path-q-requires c =
    number_asks _ _ (plan_record c.args.p) c.behind-start.ensures c.cut-first.ensures c.requires

pub shift-requires : goal.shift-requires
unfolding plan_record
shift-requires c =
    let kept = count_kept _ _ (plan_record c.args.p) c.behind-start.ensures c.cut-first.ensures c.number_path-q.ensures in
    (rw kept (records_kept c.requires.records c.number_path-q.auto.words), c.requires.by)

pub overflow_add-result : goal.overflow_add-result
unfolding plan_record
overflow_add-result c =
    let few = moved_few _ _ (plan_record c.args.p) c.behind-start.ensures c.cut-first.ensures c.number_path-q.ensures _ _ c.shift.ensures.moved in
    omega (arith, few, c.requires.row.most, c.requires.records.few)

pub returns : goal.returns
unfolding plan_record
returns c =
    let all = applied_by _ _ (plan_record c.args.p) c.behind-start.ensures c.cut-first.ensures c.number_path-q.ensures c.shift.ensures.words c.shift.ensures.moved in record { words = all.0; moved = all.1 }
