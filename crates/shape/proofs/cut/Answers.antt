-- `shape::cut` meets its contract. Assumes nothing.
use mathlib.Core.Path.{refl}
use Rattle.shape.specs.Sums.{cut}
use Rattle.shape.proofs.cut.Goals as goal

pub returns : goal.returns
unfolding cut
returns c = refl
