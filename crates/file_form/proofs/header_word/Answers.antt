-- `file_form::header_word` meets its contract. Assumes nothing.
use mathlib.Core.Path.{sym, ◌∙◌}
use Rattle.file_model.proofs.Places.{header_at}
use Rattle.file_form.proofs.header_word.Goals as goal

pub returns : goal.returns
returns c = c.u32_at.ensures ∙ sym (header_at _ _ c.requires.1 c.requires.2)
