-- `xml_classes::is_usual` meets its contract, by the two classes that are not usual. Assumes nothing.
use mathlib.Core.Path.{sym, ◌∙◌}
use Rattle.xml_classes.proofs.ByteTests.{usual_if, usual_else}
use Rattle.xml_classes.proofs.is_usual.Goals as goal

pub returns-then-ne : goal.returns-then-ne
returns-then-ne c =
    c.ne-then-ne.ensures ∙ usual_if c.args.b _ c.class_of-class.ensures (sym c.ne.ensures ∙ c.if-ne.true)

pub returns-else-ne : goal.returns-else-ne
returns-else-ne c = c.if-ne.false ∙ usual_else c.args.b _ c.class_of-class.ensures (sym c.ne.ensures ∙ c.if-ne.false)
