-- `load_refuse::check_kinds` meets its contract. The loop's invariant: the kinds that are left decide, where as many
-- begins are open as are counted. Assumes nothing.
use mathlib.Core.Path.{◌≡◌}
use Prim.Native.Nat.{◌≤◌}
use lib.ListN.{drop}
use Rattle.load_refuse.specs.Refusals.{kinds_refusal}
use Rattle.load_refuse.proofs.check_kinds.Given as goal

abbrev pub invariant-loop-i : goal.invariant-loop-i
invariant-loop-i l = (l.depth ≤ l.i) × (kinds_refusal l.depth (drop l.i l.kinds) ≡ kinds_refusal 0 l.kinds)
