-- `list_call::count_between` meets its contract. The loop's invariant: what is counted and what is left make up
-- the whole. The measure is how many tags are left. Assumes nothing.
use Prim.Native.Nat.{◌-◌}
use Rattle.calls.specs.Store.{place_of}
use Rattle.calls.specs.Replies.{said}
use Rattle.list_call.proofs.Passes.{Counting}
use Rattle.list_call.proofs.count_between.Given as goal

abbrev pub invariant-loop-to : goal.invariant-loop-to
invariant-loop-to l = Counting l.words l.initial.x.0 l.to.0 l.x.0 l.count

abbrev pub decreases-loop-to : goal.decreases-loop-to
decreases-loop-to l = place_of (said l.words) l.to.0 - place_of (said l.words) l.x.0
