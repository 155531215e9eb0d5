-- `NameIndex::find` meets its contract, by halves. Assumes nothing.
use mathlib.Core.List.{◌∷◌}
use Prim.Native.Nat.{◌-◌}
use Rattle.name_index.proofs.Entries.{Finding}
use Rattle.name_index.proofs.NameIndex.find.Given as goal

abbrev pub invariant-loop-low : goal.invariant-loop-low
invariant-loop-low l = Finding l.text l.self.hashes l.self.starts l.count (l.h ∷ l.name) l.low l.high

abbrev pub decreases-loop-low : goal.decreases-loop-low
decreases-loop-low l = l.high - l.low
