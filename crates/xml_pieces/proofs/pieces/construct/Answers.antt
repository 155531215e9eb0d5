-- `xml_pieces::pieces::construct` meets its contract, by whether < stands there. Assumes nothing.
use mathlib.Core.Path.{sym}
use Rattle.xml_pieces.proofs.pieces.construct.Goals as goal

pub markup-requires : goal.markup-requires
markup-requires c =
    (c.requires.0, record { markup = sym c.if-stands.ensures; here = c.requires.1 })

pub text_run-requires : goal.text_run-requires
text_run-requires c =
    (c.requires.0, sym c.if-stands.ensures)
