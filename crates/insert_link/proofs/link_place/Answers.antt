-- `insert_link::link_place` meets its contract. Assumes nothing.
use Rattle.words.proofs.PlaceLaws.{place_room}
use Rattle.insert_link.proofs.Links.{linked_front, linked_tag}
use Rattle.insert_link.proofs.link_place.Goals as goal

pub set_next-requires : goal.set_next-requires
set_next-requires c =
    place_room _ _ c.is_none.ensures c.requires c.if-is_none.false

pub returns-then-is_none : goal.returns-then-is_none
returns-then-is_none c =
    linked_front _ _ c.is_none.ensures _ c.if-is_none.true c.set_first.ensures

pub returns-else-is_none : goal.returns-else-is_none
returns-else-is_none c =
    linked_tag _ _ c.is_none.ensures _ c.if-is_none.false c.set_next.ensures
