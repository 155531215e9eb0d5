-- `words::put` meets its contract. Assumes nothing.
use borrow.Author.Rules.{rules}
use Rattle.store_types.specs.Layout.{records_at, with_field}
use Rattle.words.proofs.put.Goals as goal

pub bounds-words-x : goal.bounds-words-x
unfolding records_at
bounds-words-x c = search rules

pub returns : goal.returns
unfolding with_field records_at
returns c = search rules
