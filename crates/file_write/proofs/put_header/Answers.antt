-- `file_write::put_header` meets its contract. Assumes nothing.
use native.Mathlib.Omega.{arith}
use Rattle.calls.specs.Replies.{said}
use Rattle.store_refuse.proofs.Laws.{header_room}
use Rattle.file_write.proofs.RecordLaws.{header_stored}
use Rattle.file_write.proofs.put_header.Goals as goal

pub returns : goal.returns
returns c =
    header_stored c.args.words.now (said c.args.words.now) c.args.bytes.now c.requires.says c.put_front.ensures c.put_words.ensures

pub slice_bounds-put_words-end : goal.slice_bounds-put_words-end
slice_bounds-put_words-end c = omega (arith, header_room _ c.requires.says)
