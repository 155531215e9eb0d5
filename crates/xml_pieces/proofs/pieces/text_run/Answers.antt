-- `xml_pieces::pieces::text_run` meets its contract: a reference where & stands, else character data. Assumes nothing.
use native.Mathlib.Omega.{arith}
use Rattle.xml_pieces.proofs.PieceLaws.{reference_missing, reference_piece, data_missing, data_piece, text_within}
use Rattle.xml_pieces.proofs.pieces.text_run.Goals as goal

pub returns-in_default : goal.returns-in_default
returns-in_default c = reference_missing c.args.text.now c.args.at c.requires.0 c.if-text-at-eq38.true c.in_default.ensures

pub overflow_add-result : goal.overflow_add-result
overflow_add-result c =
    omega (arith, text_within _ _ _ (reference_piece c.args.text.now c.args.at c.requires.0 _ c.if-text-at-eq38.true c.in-Some.ensures))

pub returns-then-text-at-eq38 : goal.returns-then-text-at-eq38
returns-then-text-at-eq38 c = reference_piece c.args.text.now c.args.at c.requires.0 _ c.if-text-at-eq38.true c.in-Some.ensures

pub returns-in_default-data_end : goal.returns-in_default-data_end
returns-in_default-data_end c =
    data_missing c.args.text.now c.args.at c.requires.0 c.requires.1 c.if-text-at-eq38.false c.in_default-data_end.ensures

pub returns : goal.returns
returns c =
    data_piece c.args.text.now c.args.at c.requires.0 c.requires.1 c.if-text-at-eq38.false _ c.in-Some-data_end.ensures
