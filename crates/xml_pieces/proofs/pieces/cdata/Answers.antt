-- `xml_pieces::pieces::cdata` meets its contract, by what its body's end says. Assumes nothing.
use native.Mathlib.Omega.{arith}
use Rattle.xml_pieces.proofs.PieceLaws.{cdata_found, cdata_missing, text_within}
use Rattle.xml_pieces.proofs.pieces.cdata.Goals as goal

pub returns-in_default : goal.returns-in_default
returns-in_default c =
    cdata_missing c.args.text.now c.args.at (omega (arith, c.requires.0)) c.requires.1 c.in_default.ensures

pub overflow_add-result : goal.overflow_add-result
overflow_add-result c =
    omega (arith, text_within _ _ _ (cdata_found c.args.text.now c.args.at (omega (arith, c.requires.0)) c.requires.1 _ c.in-Some.ensures))

pub returns : goal.returns
returns c =
    cdata_found c.args.text.now c.args.at (omega (arith, c.requires.0)) c.requires.1 _ c.in-Some.ensures
