-- `load_tags::write_tags` meets its contract. The loop's invariant: the first i tags are written, but for the mates of the
-- open begins, and the label has come to place i. Assumes nothing.
use lib.ListN.{length, get_or}
use Rattle.store_types.specs.Limits.{no_tag}
use Rattle.load_model.proofs.Steps.{Abreast}
use Rattle.load_record.specs.Record.{AroundKnown}
use Rattle.load_nodes.specs.Gaps.{gap}
use Rattle.load_tags.specs.Tags.{labels_new}
use Rattle.load_tags.proofs.Filling.{Filling}
use Rattle.load_tags.proofs.write_tags.Given as goal

abbrev pub invariant-loop-i : goal.invariant-loop-i
invariant-loop-i l =
    Abreast l.r l.under (length l.kinds) (gap l.r l.widths) l.i 0 l.label l.begins
    × Filling l.kinds l.row no_tag 0 (λ x. get_or (labels_new l.r l.widths (length l.kinds) l.under) x 0) l.initial.words l.i l.words l.inside.begin.0 l.inside.depth
    × AroundKnown l.words l.i l.inside
