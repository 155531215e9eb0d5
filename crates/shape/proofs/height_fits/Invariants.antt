-- `shape::height_fits` meets its contract. The loop's invariant: p is a power of b, of as many turns, and fits. Assumes nothing.
use mathlib.Core.Path.{◌≡◌}
use Prim.Native.Nat.{◌*◌, ◌-◌, ◌^◌, ◌≤◌}
use Rattle.shape.proofs.height_fits.Given as goal

abbrev pub invariant-loop : goal.invariant-loop
invariant-loop l = (l.p ≡ (l.s * l.r - 1) ^ l.counter) × (l.p ≤ 4294967296)
