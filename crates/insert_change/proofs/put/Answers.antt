-- `insert_change::put` meets its contract. Assumes nothing.
use mathlib.Core.Path.{refl}
use native.Mathlib.Omega.{arith}
use Rattle.words.proofs.Fields.{header_long}
use Rattle.insert_plan.specs.Parts.{plan_record}
use Rattle.insert_change.proofs.Edits.{put_applies, put_done}
use Rattle.insert_change.proofs.put.Goals as goal

pub raise-requires : goal.raise-requires
unfolding plan_record
raise-requires c =
    (omega (arith, header_long c.requires.row.records, c.add_row.auto), omega (arith, c.requires.plan.path.splits.height))

pub apply-numbered-requires : goal.apply-numbered-requires
unfolding plan_record
apply-numbered-requires c =
    put_applies _ _ _ _ _ (plan_record c.args.p) c.add_row.ensures c.raise.ensures c.requires

pub overflow_cast-result : goal.overflow_cast-result
unfolding plan_record
overflow_cast-result c = omega (arith, c.requires.plan.path.splits.height)

pub returns : goal.returns
unfolding plan_record
returns c =
    put_done _ _ _ _ _ (plan_record c.args.p) c.add_row.ensures c.raise.ensures c.apply-numbered.ensures.words c.apply-numbered.ensures.moved refl c.saturating_sub.ensures
