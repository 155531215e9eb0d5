use Rattle.store_refuse.proofs.Laws.{header_room, tag_room as record_room}
use Rattle.file_write.proofs.TagLoop.{left_first, tag_there, tag_room, left_turn, left_end}
use Rattle.file_write.proofs.put_tags.Goals as goal

pub count_of-n-requires : goal.count_of-n-requires
count_of-n-requires c = header_room _ c.requires.says

pub first_of-tag-requires : goal.first_of-tag-requires
first_of-tag-requires c = header_room _ c.requires.says

pub loop-init : goal.loop-init
loop-init c = left_first _ _ _ c.requires.says c.first_of-tag.ensures

pub put_tag-requires : goal.put_tag-requires
put_tag-requires c =
    record { tag_said = tag_there c.loop.invariant c.requires.says c.count_of-n.ensures c.loop-test.true; room = tag_room c.loop.invariant c.requires.says c.count_of-n.ensures c.loop-test.true c.requires.room }

pub next_of-tag-requires : goal.next_of-tag-requires
next_of-tag-requires c =
    record_room (tag_there c.loop.invariant c.requires.says c.count_of-n.ensures c.loop-test.true)

pub loop-preserved : goal.loop-preserved
loop-preserved c =
    left_turn c.loop.invariant c.requires.says c.count_of-n.ensures c.loop-test.true c.put_tag.ensures
    c.next_of-tag.ensures

pub returns : goal.returns
returns c = let all = left_end c.loop.invariant c.requires.says c.count_of-n.ensures c.loop-test.false in record { place = all.0; bytes = all.1 }
