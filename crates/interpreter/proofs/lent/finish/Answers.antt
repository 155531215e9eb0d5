-- `interpreter::lent::finish` meets its contract. Assumes nothing.
use borrow.Author.Rules.{rules}
use Rattle.interpreter.proofs.LentSteps.{ends_none, ends_line}
use Rattle.interpreter.proofs.lent.finish.Goals as goal

pub returns-then-held-eq0 : goal.returns-then-held-eq0
returns-then-held-eq0 c =
    let all = ends_none c.args.held c.args.line.now c.args.words.now c.args.out.now c.if-held-eq0.true in record { words = all.0; text = all.1 }

pub returns : goal.returns
returns c =
    let all = ends_line c.args.held _ c.args.line.now c.args.words.now _ c.args.out.now _ _ c.if-held-eq0.false (search rules)
    c.within-in_hand.ensures c.answer.ensures.words c.answer.ensures.text in record { words = all.0; text = all.1 }
