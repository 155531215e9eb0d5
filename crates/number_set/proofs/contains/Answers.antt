-- `number_set::contains` meets its contract. Assumes nothing.
use Rattle.number_set.specs.Bits.{in_set}
use Rattle.number_set.proofs.contains.Goals as goal

pub returns : goal.returns
unfolding in_set
returns c = λ xs h. h.tells _
