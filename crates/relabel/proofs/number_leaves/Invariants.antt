-- `relabel::number_leaves` meets its contract. The loop's invariant: the leaves that are left, numbered from here, come to the
-- whole (OnWay). Assumes nothing.
use Prim.Native.Nat.{◌-◌}
use Rattle.relabel.specs.Needs.{leaves_numbered}
use Rattle.relabel.proofs.Rows.{OnWay}
use Rattle.relabel.proofs.number_leaves.Given as goal

abbrev pub invariant-loop : goal.invariant-loop
invariant-loop l =
    OnWay (leaves_numbered l.initial.words l.width l.a l.initial.tag.0 l.count) (leaves_numbered l.words l.width l.at l.tag.0 (l.count - l.counter)) l.initial.words l.words l.initial.tag.0 l.count l.tag.0 (l.count - l.counter) l.at l.moved
