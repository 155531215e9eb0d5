-- `xml_repeats::none_held` meets its contract. The loop's invariant: what is left to pass by says what all of it does. The measure is
-- what is left. Assumes nothing.
use Prim.Native.Nat.{◌-◌}
use Rattle.xml_repeats.proofs.Passing.{Passing}
use Rattle.xml_repeats.proofs.none_held.Given as goal

abbrev pub invariant-loop-at : goal.invariant-loop-at
invariant-loop-at l = Passing l.text l.from l.to l.index.starts l.count l.at

abbrev pub decreases-loop-at : goal.decreases-loop-at
decreases-loop-at l = l.to - l.at
