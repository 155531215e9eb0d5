-- `xml_pieces::pieces::markup` meets its contract, opener by opener. Assumes nothing.
use mathlib.Core.Path.{sym}
use native.Mathlib.Omega.{arith}
use Rattle.xml_laws.proofs.Bounds.{stands_within}
use Rattle.xml_pieces.proofs.PieceLaws.{instruction_refused, doctype_refused, declaration_refused}
use Rattle.xml_pieces.proofs.pieces.markup.Goals as goal

pub comment-requires : goal.comment-requires
comment-requires c =
    let stands = sym c.if-stands.ensures in
    (stands_within _ c.args.text.now c.args.at (omega (arith, c.requires.0)) stands, stands)

pub cdata-requires : goal.cdata-requires
cdata-requires c =
    let stands = sym c.if-stands-2.ensures in
    (stands_within _ c.args.text.now c.args.at (omega (arith, c.requires.0)) stands, stands)

pub returns-then-stands-3 : goal.returns-then-stands-3
returns-then-stands-3 c =
    instruction_refused c.args.text.now c.args.at c.requires.0 c.requires.1 (sym c.if-stands.ensures)
    (sym c.if-stands-2.ensures) (sym c.if-stands-3.ensures)

pub returns-then-stands-4 : goal.returns-then-stands-4
returns-then-stands-4 c =
    doctype_refused c.args.text.now c.args.at c.requires.0 c.requires.1 (sym c.if-stands.ensures)
    (sym c.if-stands-2.ensures) (sym c.if-stands-3.ensures)
    (sym c.if-stands-4.ensures)

pub returns : goal.returns
returns c =
    declaration_refused c.args.text.now c.args.at c.requires.0 c.requires.1 (sym c.if-stands.ensures)
    (sym c.if-stands-2.ensures) (sym c.if-stands-3.ensures)
    (sym c.if-stands-4.ensures)
