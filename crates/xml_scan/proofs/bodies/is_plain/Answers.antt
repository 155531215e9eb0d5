-- `xml_scan::is_plain` meets its contract. Assumes nothing.
use mathlib.Core.Path.{◌∙◌}
use Rattle.xml_scan.proofs.ValueSteps.{plain_less, plain_other}
use Rattle.xml_scan.proofs.bodies.is_plain.Goals as goal

pub returns-then-c-eq60 : goal.returns-then-c-eq60
returns-then-c-eq60 c = plain_less _ c.if-c-eq60.true

pub returns : goal.returns
returns c = c.is_char.ensures ∙ plain_other _ c.if-c-eq60.false
