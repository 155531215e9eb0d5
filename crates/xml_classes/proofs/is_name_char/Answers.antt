-- `xml_classes::is_name_char` meets its contract, by the two classes of names. Assumes nothing.
use mathlib.Core.Path.{◌∙◌, ap}
use Rattle.xml_classes.proofs.ByteTests.{of_names, name_class, names_yes, names_no}
use Rattle.xml_classes.proofs.is_name_char.Goals as goal

pub returns-in-NameStart : goal.returns-in-NameStart
returns-in-NameStart c = names_yes _ c.in-NameStart.is ∙ (ap of_names c.class_of.ensures ∙ name_class c.args.b)

pub returns-in_default : goal.returns-in_default
returns-in_default c =
    names_no _ c.in_default.not-NameStart c.in_default.not-NameOnly ∙ (ap of_names c.class_of.ensures ∙ name_class c.args.b)
