-- `walk_levels::watched` meets its contract. Assumes nothing.
use borrow.Author.Tests.{eq-eqb, ne_eqb}
use Rattle.walk_levels.proofs.watched.Goals as goal

pub returns-then-end-watch : goal.returns-then-end-watch
returns-then-end-watch c = rw (eq-eqb c.args.end c.args.watch c.if-end-watch.true)

pub returns-else-end-watch : goal.returns-else-end-watch
returns-else-end-watch c = rw (ne_eqb c.args.end c.args.watch c.if-end-watch.false)
