-- `file_write::put_tags` meets its contract: what is left to write from the loop's tag on comes to the whole. Assumes nothing.
use Rattle.file_write.proofs.TagLoop.{TagsLeft}
use Rattle.file_write.proofs.put_tags.Given as goal

abbrev pub invariant-loop : goal.invariant-loop
invariant-loop l = TagsLeft l.words l.initial.bytes l.bytes l.tag.0 l.at l.counter
