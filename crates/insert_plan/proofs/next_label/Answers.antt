-- `insert_plan::next_label` meets its contract. Assumes nothing.
use Rattle.words.proofs.PlaceLaws.{place_room}
use Rattle.insert_plan.proofs.Plans.{next_front, next_tag}
use Rattle.insert_plan.proofs.next_label.Goals as goal

pub returns-then-is_none : goal.returns-then-is_none
returns-then-is_none c = next_front _ _ c.is_none.ensures _ c.if-is_none.true

pub label_of-requires : goal.label_of-requires
label_of-requires c = place_room _ _ c.is_none.ensures c.requires.0 c.if-is_none.false

pub returns : goal.returns
returns c =
    next_tag _ _ c.is_none.ensures _ c.if-is_none.false c.label_of.ensures c.sum.ensures
