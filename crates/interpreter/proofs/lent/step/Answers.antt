-- `interpreter::lent::step` meets its contract, by whether the piece has a line feed. Assumes nothing.
use borrow.Author.Rules.{rules}
use Rattle.interpreter.proofs.LentSteps.{steps_on, steps_answer}
use Rattle.interpreter.proofs.lent.step.Goals as goal

pub returns-then-piece-at : goal.returns-then-piece-at
returns-then-piece-at c = steps_on c.args.piece.now c.args.from c.gather-gathered.ensures (search rules) c.args.words.now c.args.out.now c.if-piece-at.true

pub returns : goal.returns
returns c =
    steps_answer c.args.piece.now c.args.from c.gather-gathered.ensures (search rules) c.args.words.now _ c.args.out.now _ _ c.if-piece-at.false c.answer-text.ensures.words c.answer-text.ensures.text
