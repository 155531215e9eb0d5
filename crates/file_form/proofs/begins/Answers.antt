-- `file_form::begins` meets its contract. Assumes nothing.
use Rattle.store_types.specs.Records.{record_number}
use Rattle.file_form.proofs.FormLaws.{begins_not, begins_by_kind}
use Rattle.file_form.proofs.begins.Goals as goal

pub returns-then-u32_at-follows : goal.returns-then-u32_at-follows
returns-then-u32_at-follows c = begins_not c.args.bytes.now (record_number c.args.kind) c.args.words c.args.at c.u32_at.ensures c.if-u32_at-follows.true

pub returns : goal.returns
returns c =
    rw c.number.ensures
    (begins_by_kind c.args.bytes.now (record_number c.args.kind) c.args.words c.args.at c.u32_at.ensures c.if-u32_at-follows.false c.u16_at.ensures)
