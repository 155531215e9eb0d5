-- The measures of `xml_read::nesting::content` and `item`: the depth left, and of one depth content comes above its items. The loop's
-- invariant: content has been read on up to the cursor. The loop's measure is what is left of the text. Assumes nothing.
use Prim.Native.Nat.{◌+◌, ◌*◌, ◌-◌}
use lib.ListN.{length}
use Rattle.xml_pieces.specs.Outcome.{InText, ReadsOn}
use Rattle.std.specs.Prelude.{Ok}
use Rattle.xml_read.proofs.nesting.+content_item.Given as goal

abbrev pub decreases-content : goal.decreases-content
decreases-content l = 2 * l.depth + 1

abbrev pub decreases-item : goal.decreases-item
decreases-item l = 2 * l.depth

abbrev pub invariant-content-loop-kinds : goal.invariant-content-loop-kinds
invariant-content-loop-kinds l =
    InText l.text l.here × ReadsOn l.text l.depth l.initial.here l.initial.here.at l.initial.kinds l.kinds (Ok l.here)

abbrev pub decreases-content-loop-kinds : goal.decreases-content-loop-kinds
decreases-content-loop-kinds l = length l.text - l.here.at
