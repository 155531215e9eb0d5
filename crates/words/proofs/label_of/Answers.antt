-- `words::label_of` meets its contract. Assumes nothing.
use borrow.Author.Rules.{rules}
use Rattle.store_types.specs.Layout.{records_at, label_at}
use Rattle.words.proofs.label_of.Goals as goal

pub bounds-words-x : goal.bounds-words-x
unfolding records_at
bounds-words-x c = search rules

pub returns : goal.returns
unfolding label_at records_at
returns c = search rules
