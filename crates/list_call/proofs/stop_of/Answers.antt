-- `list_call::stop_of` meets its contract. Assumes nothing.
use mathlib.Core.Path.{sym, ◌∙◌}
use Rattle.store_refuse.proofs.Laws.{tag_room}
use Rattle.list_call.proofs.Listed.{begin_tag, stop_behind, stop_mate}
use Rattle.list_call.proofs.stop_of.Goals as goal

pub returns-then-is_none : goal.returns-then-is_none
returns-then-is_none c = stop_behind _ _ c.requires (sym c.is_none.ensures ∙ c.if-is_none.true)

pub mate_of-requires : goal.mate_of-requires
mate_of-requires c = tag_room (begin_tag _ _ c.requires (sym c.is_none.ensures ∙ c.if-is_none.false))

pub returns : goal.returns
returns c = c.mate_of.ensures ∙ stop_mate _ _ c.requires (sym c.is_none.ensures ∙ c.if-is_none.false)
