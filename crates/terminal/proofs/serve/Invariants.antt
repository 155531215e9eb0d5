-- `terminal::serve` meets its contract: what is left of the piece is passed as the whole is, and what was printed so far was
-- written. Assumes nothing.
use Rattle.std.proofs.Common.{length}
use Rattle.terminal.proofs.Turns.{Going}
use Rattle.terminal.proofs.serve.Given as goal

abbrev pub invariant-loop-rest : goal.invariant-loop-rest
invariant-loop-rest g l =
    Going l.initial.session.line l.initial.session.words.now l.piece l.session.line l.session.words.now l.rest (g.W.Write.contents l.initial.output) (g.W.Write.contents l.output)

abbrev pub decreases-loop-rest : goal.decreases-loop-rest
decreases-loop-rest g l = length l.rest
