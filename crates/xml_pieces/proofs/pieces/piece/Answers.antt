-- `xml_pieces::pieces::piece` meets its contract, by what the construct at its place comes to. Assumes nothing.
use Rattle.std.proofs.lemmas.Result.{err_from_is_err_and}
use Rattle.xml_pieces.proofs.Outcomes.{text_on, comment_on, piece_refused}
use Rattle.xml_pieces.proofs.pieces.piece.Goals as goal

pub returns-in_err-e : goal.returns-in_err-e
returns-in_err-e c d =
    let p = err_from_is_err_and c.from_residual.result c.from_residual.ensures.1 in
    rw (p.1, p.2) (piece_refused c.args.text.now d c.args.here _ _ c.in_err-e.ensures)

pub returns-in-Text : goal.returns-in-Text
returns-in-Text c d =
    text_on c.args.text.now d c.args.here _ _ _ _ c.requires.0 (rw c.in-Text.is at c.in_ok-e.ensures) c.put_text-n.ensures.count c.put_text-n.ensures.list

pub returns-in-Comment : goal.returns-in-Comment
returns-in-Comment c d = comment_on c.args.text.now d c.args.here _ _ c.requires.0 (rw c.in-Comment.is at c.in_ok-e.ensures)
