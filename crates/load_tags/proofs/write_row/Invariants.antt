-- `load_tags::write_row` meets its contract. The loop's invariant: the first i tags of the row are written, but for the mates of the
-- open begins. Assumes nothing.
use Prim.Native.Nat.{◌+◌}
use Rattle.store_types.specs.Limits.{no_tag}
use Rattle.load_record.specs.Record.{AroundKnown}
use Rattle.load_tags.proofs.Filling.{Filling}
use Rattle.load_tags.proofs.write_row.Given as goal

abbrev pub invariant-loop-i : goal.invariant-loop-i
invariant-loop-i l =
    Filling l.kinds l.row l.initial.inside.begin.0 l.depth (λ x. no_tag) l.initial.words (l.row.first + l.i) l.words l.inside.begin.0 l.inside.depth
    × AroundKnown l.words (l.row.first + l.i) l.inside
