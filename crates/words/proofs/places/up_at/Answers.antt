-- `words::places::up_at` meets its contract. Assumes nothing.
use Rattle.words.proofs.PlaceLaws.{place_room, up_front, up_begin, up_other}
use Rattle.words.proofs.places.up_at.Goals as goal

pub returns-then-is_none : goal.returns-then-is_none
returns-then-is_none c = up_front _ _ c.is_none.ensures c.if-is_none.true

pub kind_of-requires : goal.kind_of-requires
kind_of-requires c = place_room _ _ c.is_none.ensures c.requires c.if-is_none.false

pub returns-then-kind_of-eq-KIND_BEGIN : goal.returns-then-kind_of-eq-KIND_BEGIN
returns-then-kind_of-eq-KIND_BEGIN c =
    up_begin _ _ c.is_none.ensures c.if-is_none.false c.kind_of.ensures c.if-kind_of-eq-KIND_BEGIN.true

pub up_of-requires : goal.up_of-requires
up_of-requires c =
    place_room _ _ c.is_none.ensures c.requires c.if-is_none.false

pub returns : goal.returns
returns c =
    up_other _ _ c.is_none.ensures c.if-is_none.false c.kind_of.ensures c.if-kind_of-eq-KIND_BEGIN.false c.up_of.ensures
