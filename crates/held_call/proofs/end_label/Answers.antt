-- `held_call::end_label` meets its contract: the mate of a tag is a tag. Assumes nothing.
use mathlib.Core.Path.{◌∙◌}
use Rattle.store_refuse.proofs.Laws.{tag_room, words_of_tag, mate_of_tag}
use Rattle.held_call.proofs.end_label.Goals as goal

pub mate_of-mate-requires : goal.mate_of-mate-requires
mate_of-mate-requires c = tag_room c.requires

pub label_of-requires : goal.label_of-requires
label_of-requires c =
    rw (c.mate_of-mate.ensures ∙ (words_of_tag c.requires).mate_word) (tag_room (mate_of_tag c.requires))

pub returns : goal.returns
returns c =
    c.label_of.ensures ∙ rw (c.mate_of-mate.ensures ∙ (words_of_tag c.requires).mate_word) (words_of_tag (mate_of_tag c.requires)).label_word
