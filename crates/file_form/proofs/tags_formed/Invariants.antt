-- `file_form::tags_formed` meets its contract. The loop's invariant: what is left of the records, from the next on and at its place,
-- comes to the whole. Assumes nothing.
use mathlib.Core.Path.{◌≡◌}
use Prim.Native.Nat.{◌-◌}
use lib.ListN.{drop}
use Rattle.store_types.specs.FileLayout.{row_bytes, record_place}
use Rattle.calls.specs.File.{tags_formed}
use Rattle.file_form.proofs.tags_formed.Given as goal

abbrev pub invariant-loop : goal.invariant-loop
invariant-loop l =
    (l.at ≡ record_place l.counter) × (tags_formed (l.n - l.counter) l.n (drop l.at l.bytes) ≡ tags_formed l.n l.n (drop row_bytes l.bytes))
