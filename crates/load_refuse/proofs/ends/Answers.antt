-- `load_refuse::ends` meets its contract. Assumes nothing.
use Rattle.load_refuse.proofs.KindBits.{unmarked, no_mark}
use Rattle.load_refuse.proofs.ends.Goals as goal

pub at_end-requires : goal.at_end-requires
at_end-requires c = unmarked _ c.requires

pub returns : goal.returns
returns c = rw (no_mark _ c.requires) at c.at_end.ensures
