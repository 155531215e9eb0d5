-- `walk_tags::count_mark` meets its contract. Assumes nothing.
use Rattle.walk_tags.proofs.TestLaws.{mark_counted}
use Rattle.walk_tags.proofs.count_mark.Goals as goal

pub returns : goal.returns
returns c = mark_counted _ _ _ (c.get_at.ensures _ c.requires.there) c.requires.kind
