-- `file_form::header` meets its contract. Assumes nothing.
use Rattle.file_form.proofs.FormLaws.{header_by}
use Rattle.file_form.proofs.header.Goals as goal

pub returns : goal.returns
returns c =
    header_by _
    c.header_word.ensures
    c.header_word-2.ensures
    c.header_word-3.ensures
    c.header_word-4.ensures
    c.header_word-5.ensures
    c.header_word-6.ensures
    c.header_word-7.ensures
