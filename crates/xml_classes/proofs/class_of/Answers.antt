-- `xml_classes::class_of` meets its contract: the table is tested whole, by one test that is computed. Assumes nothing.
use mathlib.Core.Path.{refl}
use native.Mathlib.Omega.{arith}
use Rattle.xml.specs.Bytes.{class_of, is_char, is_space, is_name_start, is_name_char}
use Rattle.xml_classes.specs.declared.TheConstants.{CLASSES}
use Rattle.xml_classes.proofs.ByteTests.{all_below, table_classes}
use Rattle.xml_classes.proofs.class_of.Goals as goal

pub returns : goal.returns
unfolding all_below class_of is_char is_space is_name_start is_name_char
returns c = table_classes CLASSES refl c.args.b (omega arith)
