-- `file_pass::top_of` meets its contract. Assumes nothing.
use borrow.Author.Tests.{eq-eqb, ne_eqb}
use Rattle.file_pass.proofs.top_of.Goals as goal

pub returns-then-depth-eq0 : goal.returns-then-depth-eq0
returns-then-depth-eq0 c = rw (eq-eqb _ 0 c.if-depth-eq0.true)

pub returns : goal.returns
returns c = rw (ne_eqb c.args.depth 0 c.if-depth-eq0.false)
