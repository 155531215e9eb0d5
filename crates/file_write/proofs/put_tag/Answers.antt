-- `file_write::put_tag` meets its contract. Assumes nothing.
use native.Mathlib.Omega.{arith}
use Rattle.file_write.proofs.RecordLaws.{tag_fits, tag_stored}
use Rattle.file_write.proofs.put_tag.Goals as goal

pub overflow_add-to : goal.overflow_add-to
overflow_add-to c = omega (arith, c.words_for-from.ensures, tag_fits c.requires.tag_said)

pub offset_bounds-words-from : goal.offset_bounds-words-from
offset_bounds-words-from c = omega (arith, c.words_for-from.ensures, tag_fits c.requires.tag_said)

pub returns : goal.returns
returns c =
    tag_stored c.requires.tag_said c.args.bytes.now c.args.at c.words_for-from.ensures c.put_front.ensures c.put_u32.ensures
    c.put_words.ensures

pub slice_bounds-put_words-end : goal.slice_bounds-put_words-end
slice_bounds-put_words-end c = omega (arith, c.words_for-from.ensures, tag_fits c.requires.tag_said)
