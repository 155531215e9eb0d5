-- `xml_ends::opens_element` meets its contract, test by test. Assumes nothing.
use mathlib.Core.Path.{sym}
use Rattle.xml_pieces.specs.Pieces.{opens_element}
use Rattle.xml_ends.proofs.opens_element.Goals as goal

pub returns-then-not-stands : goal.returns-then-not-stands
unfolding opens_element
returns-then-not-stands c = rw (sym c.if-not-stands.ensures)

pub returns-then-stands : goal.returns-then-stands
unfolding opens_element
returns-then-stands c =
    rw (sym c.if-not-stands.ensures, sym c.if-stands.ensures)

pub returns : goal.returns
unfolding opens_element
returns c =
    rw (sym c.if-not-stands.ensures, sym c.if-stands.ensures, c.stands-3.ensures)
