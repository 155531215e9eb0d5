-- `file_read::put_header` meets its contract. Assumes nothing.
use Rattle.lists.specs.Fronts.{in_front}
use Rattle.file_read.proofs.put_header.Goals as goal

pub returns : goal.returns
unfolding in_front
returns c = rw (c.copy_from_slice.ensures.after, c.requires.0)
