-- `list_call::first_inside` meets its contract. Assumes nothing.
use mathlib.Core.Path.{sym, ◌∙◌}
use Rattle.store_refuse.proofs.Laws.{accepted_says, header_room, tag_room}
use Rattle.list_call.proofs.Listed.{begin_tag, first_front, first_behind}
use Rattle.list_call.proofs.first_inside.Goals as goal

pub first_of-requires : goal.first_of-requires
first_of-requires c = header_room _ (accepted_says _ _ c.requires)

pub returns-then-is_none : goal.returns-then-is_none
returns-then-is_none c = c.first_of.ensures ∙ first_front _ _ c.requires (sym c.is_none.ensures ∙ c.if-is_none.true)

pub next_of-requires : goal.next_of-requires
next_of-requires c = tag_room (begin_tag _ _ c.requires (sym c.is_none.ensures ∙ c.if-is_none.false))

pub returns : goal.returns
returns c = c.next_of.ensures ∙ first_behind _ _ c.requires (sym c.is_none.ensures ∙ c.if-is_none.false)
