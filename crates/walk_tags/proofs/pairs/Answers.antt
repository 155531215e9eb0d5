-- `walk_tags::pairs` meets its contract. Assumes nothing.
use borrow.Author.Rules.{rules}
use Rattle.walk_tags.specs.Needs.{pair_table}
use Rattle.walk_tags.proofs.pairs.Goals as goal

pub returns : goal.returns
unfolding pair_table
returns c = search rules
