-- `words::places::behind` meets its contract. Assumes nothing.
use Rattle.words.proofs.PlaceLaws.{place_room, behind_front, behind_tag}
use Rattle.words.proofs.places.behind.Goals as goal

pub returns-then-is_none : goal.returns-then-is_none
returns-then-is_none c = behind_front _ _ c.is_none.ensures c.if-is_none.true

pub next_of-requires : goal.next_of-requires
next_of-requires c = place_room _ _ c.is_none.ensures c.requires c.if-is_none.false

pub returns : goal.returns
returns c = behind_tag _ _ c.is_none.ensures c.if-is_none.false c.next_of.ensures
