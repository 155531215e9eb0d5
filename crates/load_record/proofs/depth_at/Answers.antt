-- `load_record::depth_at` meets its contract. Assumes nothing.
use Rattle.kind_pick.proofs.PickLaws.{no_mark, unmarked}
use Rattle.load_record.proofs.Inside.{depth_picked}
use Rattle.load_record.proofs.depth_at.Goals as goal

pub own_depth-requires : goal.own_depth-requires
own_depth-requires c =
    (unmarked _ c.requires.number.low c.requires.number.high, λ e. c.requires.some (rw (no_mark _ c.requires.number.low c.requires.number.high) at e))

pub returns : goal.returns
returns c = depth_picked _ _ _ c.requires.number c.own_depth.ensures
