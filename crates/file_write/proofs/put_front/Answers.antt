-- `file_write::put_front` meets its contract. Assumes nothing.
use Rattle.store_types.specs.Records.{record_number}
use Rattle.file_write.proofs.RecordLaws.{front_stored}
use Rattle.file_write.proofs.put_front.Goals as goal

pub returns : goal.returns
returns c =
    front_stored c.args.bytes.now c.args.at (record_number c.args.kind) c.args.words c.put_u32.ensures (rw c.number.ensures at c.put_u16.ensures)
