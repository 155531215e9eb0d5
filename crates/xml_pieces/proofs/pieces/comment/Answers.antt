-- `xml_pieces::pieces::comment` meets its contract, by where the first two hyphens stand. Assumes nothing.
use mathlib.Core.Path.{sym}
use Prim.Native.Nat.{◌+◌}
use native.Mathlib.Omega.{arith}
use Rattle.xml_pieces.proofs.PieceLaws.{comment_found, comment_missing, comment_open, comment_within, body_within}
use Rattle.xml_pieces.proofs.pieces.comment.Goals as goal

pub returns-in_default : goal.returns-in_default
returns-in_default c =
    comment_missing c.args.text.now c.args.at (omega (arith, c.requires.0)) c.requires.1 c.in_default.ensures

pub stands-requires : goal.stands-requires
stands-requires c =
    body_within c.args.text.now (c.args.at + 4) _ c.in-Some.ensures

pub overflow_add-result : goal.overflow_add-result
overflow_add-result c =
    omega (arith, comment_within _ _ _ (comment_found c.args.text.now c.args.at (omega (arith, c.requires.0)) c.requires.1 _ c.in-Some.ensures (sym c.if-stands.ensures)))

pub returns-then-stands : goal.returns-then-stands
returns-then-stands c =
    comment_found c.args.text.now c.args.at (omega (arith, c.requires.0)) c.requires.1 _ c.in-Some.ensures (sym c.if-stands.ensures)

pub returns : goal.returns
returns c =
    comment_open c.args.text.now c.args.at (omega (arith, c.requires.0)) c.requires.1 _ c.in-Some.ensures (sym c.if-stands.ensures)
