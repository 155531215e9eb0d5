-- `number_set::add` meets its contract. Assumes nothing.
use Rattle.number_set.proofs.SetLaws.{holds_more}
use Rattle.number_set.proofs.add.Goals as goal

pub returns : goal.returns
returns c = λ xs h. holds_more _ c.requires h
