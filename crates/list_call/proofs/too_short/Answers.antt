-- `list_call::too_short` meets its contract: no more are listed than the book has tags. Assumes nothing.
use borrow.Author.Tests.{leb-true}
use Rattle.store_refuse.proofs.Laws.{header_room}
use Rattle.list_call.proofs.Along.{between_all}
use Rattle.list_call.proofs.ListReplies.{short_none, short_tags, short_labels}
use Rattle.list_call.proofs.too_short.Goals as goal

pub count_of-n-requires : goal.count_of-n-requires
count_of-n-requires c = header_room _ c.requires.says

pub returns-then-n-labels : goal.returns-then-n-labels
returns-then-n-labels c =
    short_none _ _ _ _ (between_all _ _ _ c.requires.says) (rw c.count_of-n.ensures at c.if-n-tags.true) (leb-true _ _ (rw c.count_of-n.ensures at c.if-n-labels.true-raw))

pub returns-then-tags-count : goal.returns-then-tags-count
returns-then-tags-count c = short_tags _ _ _ c.count_between-count.ensures c.if-tags-count.true

pub returns-else-tags-count : goal.returns-else-tags-count
returns-else-tags-count c = short_labels _ _ _ c.count_between-count.ensures c.if-tags-count.false
