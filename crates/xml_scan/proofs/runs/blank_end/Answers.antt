-- `xml_scan::blank_end` meets its contract, by the test of spaces. Assumes nothing.
use Rattle.xml.specs.Bytes.{is_space}
use Rattle.xml_scan.proofs.runs.blank_end.Goals as goal

pub returns : goal.returns
returns c = c.run_end.ensures is_space (λ b t l e. e)
