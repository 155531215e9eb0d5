-- `load_record::write_tag` meets its contract. Assumes nothing.
use Rattle.words.proofs.Fields.{room, room_same}
use Rattle.load_record.proofs.Inside.{mate_room, known_placed, whole, depth_small, begin_behind, known_behind, depth_behind}
use native.Mathlib.Omega.{arith}
use Rattle.load_record.proofs.write_tag.Goals as goal

pub write_place-requires : goal.write_place-requires
write_place-requires c = (c.requires.0.below, room c.requires.0.records c.requires.0.below)

pub up_at-up-requires : goal.up_at-up-requires
up_at-up-requires c = (
  c.requires.0.depth.number,
  (λ e. room_same (room c.requires.0.records (c.requires.0.begun e)) (omega arith)),
  (λ k. rw c.write_place.ensures (known_placed _ _ _ _ _ _ c.requires.0 c.requires.1 k)),
)

pub write_links-requires : goal.write_links-requires
write_links-requires c =
    (room_same (room c.requires.0.records c.requires.0.below) (omega arith), room_same (mate_room c.requires.0 c.mate_at-mate.ensures) (omega arith))

pub open_behind-requires : goal.open_behind-requires
open_behind-requires c =
    (c.requires.0.depth.number, depth_small c.requires.0 c.depth_at-depth.ensures)

pub returns : goal.returns
returns c =
    let up = rw c.write_place.ensures at c.up_at-up.ensures in
    let words = whole _ _ _ _ _ _ c.requires.0 c.requires.1 _ _ _ _ _ c.write_place.ensures c.mate_at-mate.ensures c.up_at-up.ensures c.depth_at-depth.ensures c.write_links.ensures in record { words = words; begin = begin_behind _ _ _ _ _ _ c.requires.0 c.requires.1 _ _ _ up c.open_behind.ensures; around = rw words (known_behind _ _ _ _ _ _ c.requires.0 c.requires.1 _ _ _ up c.open_behind.ensures); depth = depth_behind _ _ _ _ _ _ c.requires.0 c.requires.1 _ _ _ up c.open_behind.ensures c.depth_at-depth.ensures }
