-- `walk_tags::may_stand` meets its contract. Assumes nothing.
use borrow.Author.Rules.{rules}
use Rattle.walk_tags.specs.Needs.{bit_of}
use Rattle.walk_tags.proofs.may_stand.Goals as goal

pub returns : goal.returns
unfolding bit_of
returns c = search rules
