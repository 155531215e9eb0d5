use native.Mathlib.Omega.{arith}
use Rattle.shape.proofs.RoomLaws.{search_goes}
use Rattle.shape.proofs.height_for.Goals as goal

pub loop-most-preserved : goal.loop-most-preserved
loop-most-preserved c = search_goes c.requires c.loop-most.invariant (omega arith)
