-- `file_form::formed` meets its contract. Assumes nothing.
use mathlib.Core.Path.{ap, ◌∙◌}
use native.Mathlib.Omega.{arith}
use Rattle.store_types.specs.FileLayout.{file_bytes}
use Rattle.file_form.proofs.FormLaws.{formed_not, formed_short, formed_headless, formed_by_tags}
use Rattle.file_form.proofs.formed.Goals as goal

pub returns-then-bytes : goal.returns-then-bytes
returns-then-bytes c = formed_short _ c.if-bytes.true

pub returns-then-bytes-file_bytes : goal.returns-then-bytes-file_bytes
returns-then-bytes-file_bytes c = formed_not _ (λ e. c.if-bytes-file_bytes.true (omega (arith, e, c.file_bytes.ensures, c.count-n.ensures)))

pub returns-then-not-begins : goal.returns-then-not-begins
returns-then-not-begins c = formed_headless _ (c.if-bytes-file_bytes.false ∙ (c.file_bytes.ensures ∙ ap file_bytes c.count-n.ensures)) c.begins.ensures c.if-not-begins.true-raw

pub returns : goal.returns
returns c =
    formed_by_tags _ (c.if-bytes-file_bytes.false ∙ (c.file_bytes.ensures ∙ ap file_bytes c.count-n.ensures)) c.begins.ensures c.if-not-begins.false-raw (λ i l. omega (arith, c.shared_slice_known-1.given i)) (rw c.count-n.ensures at c.tags_formed.ensures)
