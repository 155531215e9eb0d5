-- `xml_classes::is_char` meets its contract, by the class. Assumes nothing.
use mathlib.Core.Path.{◌∙◌}
use native.Mathlib.Omega.{arith}
use Rattle.xml_classes.proofs.ByteTests.{char_class}
use Rattle.xml_classes.proofs.is_char.Goals as goal

pub returns : goal.returns
returns c = c.ne.ensures ∙ rw c.class_of.ensures (char_class c.args.b (omega arith))
