-- `xml_classes::is_name_start` meets its contract, by the class. Assumes nothing.
use mathlib.Core.Path.{◌∙◌}
use native.Mathlib.Omega.{arith}
use Rattle.xml_classes.proofs.ByteTests.{start_class}
use Rattle.xml_classes.proofs.is_name_start.Goals as goal

pub returns : goal.returns
returns c = c.eq.ensures ∙ rw c.class_of.ensures (start_class c.args.b (omega arith))
