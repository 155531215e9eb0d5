-- `file_form::count` meets its contract. Assumes nothing.
use borrow.Author.Rules.{rules}
use Rattle.calls.specs.File.{count_in}
use Rattle.file_form.proofs.count.Goals as goal

pub returns : goal.returns
unfolding count_in
returns c = search rules
