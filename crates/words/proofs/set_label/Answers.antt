-- `words::set_label` meets its contract. Assumes nothing.
use borrow.Author.Rules.{rules}
use Rattle.store_types.specs.Layout.{records_at, with_label}
use Rattle.words.proofs.set_label.Goals as goal

pub bounds-words-x : goal.bounds-words-x
unfolding records_at
bounds-words-x c = search rules

pub returns : goal.returns
unfolding with_label records_at
returns c = search rules
