-- `held_call::is_current` meets its contract. Assumes nothing.
use mathlib.Core.Path.{refl, sym, ◌∙◌}
use Rattle.lists.proofs.Tests.{not_same, are_same}
use Rattle.store_refuse.proofs.Laws.{tag_room}
use Rattle.held_call.proofs.Pairs.{start_moved, end_moved, unmoved}
use Rattle.held_call.proofs.is_current.Goals as goal

pub label_of-start-requires : goal.label_of-start-requires
label_of-start-requires c = tag_room c.requires

pub returns-then-ne : goal.returns-then-ne
returns-then-ne c =
    sym (start_moved _ _ c.requires (λ z. not_same _ _ refl (sym c.ne.ensures ∙ c.if-ne.true) (c.label_of-start.ensures ∙ sym z)))

pub returns-then-ne-2 : goal.returns-then-ne-2
returns-then-ne-2 c =
    sym (end_moved _ _ c.requires (λ z. not_same _ _ refl (sym c.ne-2.ensures ∙ c.if-ne-2.true) (c.end_label-end.ensures ∙ sym z)))

pub kind_of-requires : goal.kind_of-requires
kind_of-requires c = tag_room c.requires

pub returns : goal.returns
returns c =
    rw c.kind_of.ensures
    (sym
    (unmoved _ _ c.requires (sym (are_same _ _ refl (sym c.ne.ensures ∙ c.if-ne.false)) ∙ c.label_of-start.ensures)
    (sym (are_same _ _ refl (sym c.ne-2.ensures ∙ c.if-ne-2.false)) ∙ c.end_label-end.ensures)))
