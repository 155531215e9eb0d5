-- `load_record::mate_at` meets its contract. Assumes nothing.
use Rattle.load_record.proofs.Inside.{mate_picked}
use Rattle.load_record.proofs.mate_at.Goals as goal

pub returns : goal.returns
returns c = mate_picked _ _ _ _ c.requires c.at_end.ensures
