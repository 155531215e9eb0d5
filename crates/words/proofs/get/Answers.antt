-- `words::get` meets its contract. Assumes nothing.
use borrow.Author.Rules.{rules}
use Rattle.store_types.specs.Layout.{records_at, field}
use Rattle.words.proofs.get.Goals as goal

pub bounds-words-x : goal.bounds-words-x
unfolding records_at
bounds-words-x c = search rules

pub returns : goal.returns
unfolding field records_at
returns c = search rules
