-- `insert_link::link_next` meets its contract. Assumes nothing.
use Rattle.words.proofs.PlaceLaws.{place_room}
use Rattle.insert_link.proofs.Links.{linked_none, linked_back}
use Rattle.insert_link.proofs.link_next.Goals as goal

pub returns-then-is_none : goal.returns-then-is_none
returns-then-is_none c = linked_none _ _ c.is_none.ensures _ c.if-is_none.true

pub set_prior-requires : goal.set_prior-requires
set_prior-requires c =
    place_room _ _ c.is_none.ensures c.requires c.if-is_none.false

pub returns : goal.returns
returns c =
    linked_back _ _ c.is_none.ensures _ c.if-is_none.false c.set_prior.ensures
