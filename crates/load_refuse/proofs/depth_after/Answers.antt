-- `load_refuse::depth_after` meets its contract. Assumes nothing.
use Rattle.load_refuse.proofs.KindBits.{unmarked, no_mark, depth_sum}
use Rattle.load_refuse.proofs.depth_after.Goals as goal

pub at_begin-begins-requires : goal.at_begin-begins-requires
at_begin-begins-requires c = unmarked _ c.requires.1

pub returns : goal.returns
returns c =
    rw (c.ends.ensures, c.at_begin-begins.ensures, no_mark _ c.requires.1) (depth_sum _ _)
