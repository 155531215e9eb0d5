-- `list_call::write_between` meets its contract. The loop's invariant: writing what is left behind what is
-- written makes the whole. The measure is how many tags are left. Assumes nothing.
use Prim.Native.Nat.{◌-◌}
use Rattle.calls.specs.Store.{place_of}
use Rattle.calls.specs.Replies.{said}
use Rattle.list_call.proofs.Passes.{Writing}
use Rattle.list_call.proofs.write_between.Given as goal

abbrev pub invariant-loop-to : goal.invariant-loop-to
invariant-loop-to l = Writing l.words l.initial.x.0 l.to.0 l.x.0 l.i l.initial.tags l.initial.labels l.tags l.labels

abbrev pub decreases-loop-to : goal.decreases-loop-to
decreases-loop-to l = place_of (said l.words) l.to.0 - place_of (said l.words) l.x.0
