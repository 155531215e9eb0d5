use native.Mathlib.Omega.{arith}
use Rattle.file_pass.specs.Needs.{passes_all}
use Rattle.file_pass.proofs.JudgeLaws.{never_deep}
use Rattle.file_walk.specs.Needs.{most_open}
use Rattle.file_walk.proofs.judge.+with_most.Goals as goal

pub with_most-requires : goal.with_most-requires
with_most-requires t c =
    absurd (never_deep (passes_all c.args.bytes.now c.args.tables.now c.args.size.under c.args.size.n) most_open c.in-Err-TooDeep.ensures c.requires.walk_fits.records.few (omega arith) (rw c.in-Err-TooDeep.field-0-is))
