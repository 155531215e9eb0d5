-- `words::words_for` meets its contract. Assumes nothing.
use borrow.Author.Rules.{rules}
use Rattle.store_types.specs.Layout.{words_for}
use Rattle.words.proofs.words_for.Goals as goal

pub returns : goal.returns
unfolding words_for
returns c = search rules
