-- `walk_tags::depth_fits` meets its contract. Assumes nothing.
use Rattle.walk_tags.proofs.TestLaws.{depth_tested}
use Rattle.walk_tags.proofs.depth_fits.Goals as goal

pub at_end-requires : goal.at_end-requires
at_end-requires c = rw (c.get_at-kind.ensures _ c.requires.there) c.requires.kind

pub returns : goal.returns
returns c = depth_tested _ _ _ (c.get_at-kind.ensures _ c.requires.there) (c.get_at-own.ensures _ c.requires.there) c.at_end.ensures
