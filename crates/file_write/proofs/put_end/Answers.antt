-- `file_write::put_end` meets its contract. Assumes nothing.
use Rattle.store_types.specs.FileLayout.{end_kind}
use Rattle.file_write.proofs.RecordLaws.{word_stored}
use Rattle.file_write.proofs.put_end.Goals as goal

pub returns : goal.returns
returns c =
    word_stored c.args.bytes.now c.args.at end_kind c.args.n c.put_front.ensures c.put_u32.ensures
