-- `interpreter::session::Session::step` meets its contract, by whether the piece has a line feed. Assumes nothing.
use Rattle.std.proofs.Common.{refl, arith}
use Rattle.line_reader.proofs.Gathering.{stretch_within}
use Rattle.interpreter.proofs.Steps.{steps_on, steps_answer}
use Rattle.interpreter.proofs.session.Session.step.Goals as goal

pub returns-then-taken-piece : goal.returns-then-taken-piece
returns-then-taken-piece c = record { same_reference = refl; steps = rw c.clear.ensures (steps_on _ c.args.piece.now c.gather-taken.ensures.taken c.gather-taken.ensures.gathered c.args.self.now.words.now c.if-taken-piece.true) }

pub overflow_add-result : goal.overflow_add-result
overflow_add-result c = omega (arith, c.gather-taken.ensures.taken, stretch_within c.args.piece.now)

pub returns : goal.returns
returns c =
    record {
      same_reference = refl;
      steps = rw c.clear-2.ensures (steps_answer _ c.args.piece.now c.gather-taken.ensures.taken c.gather-taken.ensures.gathered c.args.self.now.words.now _ _ c.if-taken-piece.false (rw c.as_slice.ensures.all at c.answer.ensures.words) (rw c.as_slice.ensures.all at c.answer.ensures.text));
    }
