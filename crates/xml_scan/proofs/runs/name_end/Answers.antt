-- `xml_scan::name_end` meets its contract: no text, no name, or a run behind the first byte. Assumes nothing.
use mathlib.Core.Path.{sym}
use Rattle.xml.specs.Bytes.{is_name_char}
use Rattle.xml_scan.proofs.RunSteps.{name_none, name_other, name_run}
use Rattle.xml_scan.proofs.runs.name_end.Goals as goal

pub returns-then-is_name_start : goal.returns-then-is_name_start
returns-then-is_name_start c =
    name_run _ _ c.if-from-text.true (sym c.if-is_name_start.ensures) (c.run_end.ensures is_name_char (λ b t l e. e))

pub returns-else-is_name_start : goal.returns-else-is_name_start
returns-else-is_name_start c = name_other _ _ c.if-from-text.true (sym c.if-is_name_start.ensures)

pub returns-else-from-text : goal.returns-else-from-text
returns-else-from-text c = name_none _ _ c.if-from-text.false
