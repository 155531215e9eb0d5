-- `xml_classes::is_space` meets its contract, by the class. Assumes nothing.
use mathlib.Core.Path.{◌∙◌}
use Rattle.xml_classes.proofs.ByteTests.{space_class}
use Rattle.xml_classes.proofs.is_space.Goals as goal

pub returns : goal.returns
returns c = c.eq.ensures ∙ rw c.class_of.ensures (space_class c.args.b)
