-- `renumber::number` meets its contract. It calls itself one height lower, so its measure is the height. The loop's invariant:
-- the parts that are left, numbered from here, come to the whole (OnWay), and there are tags for them (PartsLeft). Assumes nothing.
use Prim.Native.Nat.{◌-◌}
use Rattle.shape.specs.Packed.{widths_in, r_in}
use Rattle.renumber.specs.Needs.{trees_numbered}
use Rattle.relabel.proofs.Rows.{OnWay}
use Rattle.renumber.proofs.Parts.{parts_numbered, PartsLeft}
use Rattle.renumber.proofs.+number.Given as goal

abbrev pub decreases-number : goal.decreases-number
decreases-number l = l.j

abbrev pub invariant-loop-done : goal.invariant-loop-done
invariant-loop-done l =
    OnWay (trees_numbered l.initial.words (widths_in l.tables) (r_in l.tables) l.j l.a l.initial.tag.0 l.count) (parts_numbered l.words (widths_in l.tables) (r_in l.tables) l.j l.each (l.parts - l.done) l.at l.tag.0 l.left) l.initial.words l.words l.initial.tag.0 l.count l.tag.0 l.left l.at l.moved
    × PartsLeft (l.parts - l.done) l.each l.left
