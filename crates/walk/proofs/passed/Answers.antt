-- `walk::passed` meets its contract. Assumes nothing.
use mathlib.Core.Path.{refl}
use native.Mathlib.Omega.{arith}
use Rattle.words.proofs.Fields.{room}
use Rattle.walk_tags.proofs.TestLaws.{stands_there, depth_there}
use Rattle.walk.proofs.passed.Goals as goal

pub get_at-requires : goal.get_at-requires
get_at-requires c = (stands_there c.requires.tag.0, omega arith)

pub depth_after-depth-requires : goal.depth_after-depth-requires
depth_after-depth-requires c = (depth_there c.requires.tag.0 c.requires.tag.1, c.requires.deep)

pub count_mark-marks-requires : goal.count_mark-marks-requires
count_mark-marks-requires c = record { room = room c.requires.tag.0.records c.requires.tag.0.below; there = c.requires.tag.0.there; kind = c.requires.counts.0; few = c.requires.counts.2 }

pub label_there-label-requires : goal.label_there-label-requires
label_there-label-requires c = stands_there c.requires.tag.0

pub returns : goal.returns
returns c = record {
  place = refl;
  tag = c.get_at.ensures _ c.requires.tag.0.there;
  there = c.of.ensures;
  prior = refl;
  parent = c.open_after-parent.ensures;
  depth = c.depth_after-depth.ensures;
  marks = c.count_mark-marks.ensures;
  expect = rw (c.label_there-label.ensures _ c.requires.tag.0.there) at c.expected.ensures;
}
