-- `xml_scan::reference` meets its contract: five tests, of which the first that holds decides. Assumes nothing.
use mathlib.Core.Path.{sym}
use Rattle.xml.specs.Grammar.{reference_text}
use Rattle.xml_scan.proofs.References.{is_lt, is_gt, is_amp, is_apos, is_quot, is_no_reference}
use Rattle.xml_scan.proofs.strings.reference.Goals as goal

pub returns-then-stands : goal.returns-then-stands
unfolding reference_text
returns-then-stands c =
    is_lt _ (sym c.if-stands.ensures)

pub returns-then-stands-2 : goal.returns-then-stands-2
unfolding reference_text
returns-then-stands-2 c =
    is_gt _ (sym c.if-stands.ensures) (sym c.if-stands-2.ensures)

pub returns-then-stands-3 : goal.returns-then-stands-3
unfolding reference_text
returns-then-stands-3 c =
    is_amp _ (sym c.if-stands.ensures) (sym c.if-stands-2.ensures) (sym c.if-stands-3.ensures)

pub returns-then-stands-4 : goal.returns-then-stands-4
unfolding reference_text
returns-then-stands-4 c =
    is_apos _ (sym c.if-stands.ensures) (sym c.if-stands-2.ensures) (sym c.if-stands-3.ensures) (sym c.if-stands-4.ensures)

pub returns-then-stands-5 : goal.returns-then-stands-5
unfolding reference_text
returns-then-stands-5 c =
    is_quot _ (sym c.if-stands.ensures) (sym c.if-stands-2.ensures) (sym c.if-stands-3.ensures) (sym c.if-stands-4.ensures) (sym c.if-stands-5.ensures)

pub returns : goal.returns
unfolding reference_text
returns c =
    is_no_reference _ (sym c.if-stands.ensures) (sym c.if-stands-2.ensures) (sym c.if-stands-3.ensures) (sym c.if-stands-4.ensures) (sym c.if-stands-5.ensures)
