-- `grant_call::check_grant` meets its contract: a section that hold takes has a record. Assumes nothing.
use mathlib.Core.Path.{sym}
use Rattle.store_types.specs.Replies.{refusal_in}
use Rattle.store_refuse.proofs.Laws.{tag_room}
use Rattle.held_call.proofs.Pairs.{section_tag}
use Rattle.grant_call.proofs.check_grant.Goals as goal

pub kind_of-requires : goal.kind_of-requires
unfolding refusal_in
kind_of-requires c = tag_room (section_tag _ _ (sym c.in_ok-check_section.ensures))
