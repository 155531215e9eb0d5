-- `load_refuse::load_under` meets its contract. The loop's invariant: p is twice the power above h, and no lower
-- height fits. The measure is what is left of the tags, of which a height below the least leaves some. Assumes nothing.
use Prim.Native.Nat.{◌-◌}
use Rattle.load_refuse.proofs.Height.{Searched}
use Rattle.load_refuse.proofs.load_under.Given as goal

abbrev pub invariant-loop-p : goal.invariant-loop-p
invariant-loop-p l = Searched l.r l.n l.h l.p

abbrev pub decreases-loop-p : goal.decreases-loop-p
decreases-loop-p l = l.n - l.h
