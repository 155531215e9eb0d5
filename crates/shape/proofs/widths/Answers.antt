-- `shape::widths` meets its contract. Assumes nothing.
use Rattle.shape.specs.Tables.{widths_of}
use Rattle.shape.proofs.widths.Goals as goal

pub returns : goal.returns
unfolding widths_of
returns c = c.fill.ensures
