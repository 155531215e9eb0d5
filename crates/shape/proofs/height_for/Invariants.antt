-- `shape::height_for` meets its contract. The loop's invariant: the height that it has come to has this limit, and the one below has
-- no room (Searching). The measure is what is left up to n. Assumes nothing.
use Prim.Native.Nat.{suc, ◌-◌}
use Rattle.shape.proofs.RoomLaws.{Searching}
use Rattle.shape.proofs.height_for.Given as goal

abbrev pub invariant-loop-most : goal.invariant-loop-most
invariant-loop-most l = Searching l.n l.limit l.r l.h l.top l.most

abbrev pub decreases-loop-most : goal.decreases-loop-most
decreases-loop-most l = suc l.n - l.most
