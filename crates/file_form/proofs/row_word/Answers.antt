-- `file_form::row_word` meets its contract. Assumes nothing.
use mathlib.Core.Path.{sym, ◌∙◌}
use Rattle.file_model.proofs.Places.{row_at}
use Rattle.file_form.proofs.row_word.Goals as goal

pub returns : goal.returns
returns c = c.u32_at.ensures ∙ sym (row_at _ _ _ c.requires.0.below c.requires.1)
