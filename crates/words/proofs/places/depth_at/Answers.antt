-- `words::places::depth_at` meets its contract. Assumes nothing.
use native.Mathlib.Omega.{arith}
use native.Mathlib.Numerals.{add-one}
use Rattle.words.proofs.PlaceLaws.{place_room, depth_front, depth_begin, depth_other}
use Rattle.words.proofs.places.depth_at.Goals as goal

pub returns-then-is_none : goal.returns-then-is_none
returns-then-is_none c = depth_front _ _ c.is_none.ensures c.if-is_none.true

pub kind_of-requires : goal.kind_of-requires
kind_of-requires c = place_room _ _ c.is_none.ensures c.requires.0 c.if-is_none.false

pub depth_of-requires : goal.depth_of-requires
depth_of-requires c =
    place_room _ _ c.is_none.ensures c.requires.0 c.if-is_none.false

pub overflow_add-result : goal.overflow_add-result
overflow_add-result c =
    omega (
      arith,
      c.depth_of.ensures,
      c.requires.1,
      depth_begin _ _ c.is_none.ensures c.if-is_none.false c.kind_of.ensures c.if-kind_of-eq-KIND_BEGIN.true,
    )

pub returns-then-kind_of-eq-KIND_BEGIN : goal.returns-then-kind_of-eq-KIND_BEGIN
returns-then-kind_of-eq-KIND_BEGIN c =
    rw (add-one, c.depth_of.ensures)
    (depth_begin _ _ c.is_none.ensures c.if-is_none.false c.kind_of.ensures c.if-kind_of-eq-KIND_BEGIN.true)

pub depth_of-requires-2 : goal.depth_of-requires-2
depth_of-requires-2 c =
    place_room _ _ c.is_none.ensures c.requires.0 c.if-is_none.false

pub returns : goal.returns
returns c =
    depth_other _ _ c.is_none.ensures c.if-is_none.false c.kind_of.ensures c.if-kind_of-eq-KIND_BEGIN.false c.depth_of-2.ensures
