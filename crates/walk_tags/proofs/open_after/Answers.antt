-- `walk_tags::open_after` meets its contract. Assumes nothing.
use native.Mathlib.Omega.{arith}
use Rattle.walk_tags.proofs.TagLaws.{kind_fitting}
use Rattle.walk_tags.proofs.TestLaws.{stands_there, open_right}
use Rattle.walk_tags.proofs.open_after.Goals as goal

pub get_at-kind-requires : goal.get_at-kind-requires
get_at-kind-requires c = (stands_there c.requires.0, omega arith)

pub get_at-up-requires : goal.get_at-up-requires
get_at-up-requires c = (stands_there c.requires.0, omega arith)

pub at_begin-requires : goal.at_begin-requires
at_begin-requires c = rw (c.get_at-kind.ensures _ c.requires.0.there) (kind_fitting _ _ _ _ _ c.requires.1)

pub returns : goal.returns
returns c = open_right _ _ _ _ _ c.requires.1 (c.get_at-up.ensures _ c.requires.0.there) (rw (c.get_at-kind.ensures _ c.requires.0.there) at c.at_begin.ensures)
