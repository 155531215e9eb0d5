-- `file_tags::passed` meets its contract. Assumes nothing.
use mathlib.Core.Path.{refl}
use native.Mathlib.Omega.{arith}
use Rattle.store_types.specs.Layout.{at_next, at_up, at_kind}
use Rattle.kind_pick.specs.Needs.{KindWord}
use Rattle.walk_tags.proofs.TagLaws.{kind_fitting}
use Rattle.walk_tags.proofs.TestLaws.{fits_small, mark_counted, open_right}
use Rattle.file_tags.proofs.TagRows.{field_there, label_there, depth_enough, depth_counted}
use Rattle.file_tags.proofs.passed.Goals as goal

pub at_begin-requires : goal.at_begin-requires
at_begin-requires c = (let it : KindWord c.row_field-kind.result = rw (field_there c.requires.tag.2 c.requires.tag.1 at_kind (omega arith) c.row_field-kind.ensures) (kind_fitting _ _ _ _ _ c.requires.fits) in it)

pub at_end-requires : goal.at_end-requires
at_end-requires c = (let it : KindWord c.row_field-kind.result = rw (field_there c.requires.tag.2 c.requires.tag.1 at_kind (omega arith) c.row_field-kind.ensures) (kind_fitting _ _ _ _ _ c.requires.fits) in it)

pub overflow_sub-own : goal.overflow_sub-own
overflow_sub-own c =
    depth_enough _ _ _ c.requires.deep (rw (field_there c.requires.tag.2 c.requires.tag.1 at_kind (omega arith) c.row_field-kind.ensures) at c.at_end.ensures)

pub at_begin-requires-2 : goal.at_begin-requires-2
at_begin-requires-2 c = (let it : KindWord c.row_field-kind.result = rw (field_there c.requires.tag.2 c.requires.tag.1 at_kind (omega arith) c.row_field-kind.ensures) (kind_fitting _ _ _ _ _ c.requires.fits) in it)

pub overflow_add-result : goal.overflow_add-result
overflow_add-result c = omega (arith, c.requires.counts)

pub overflow_add-result-2 : goal.overflow_add-result-2
overflow_add-result-2 c =
    omega (arith, c.requires.counts, (let it : KindWord c.row_field-kind.result = rw (field_there c.requires.tag.2 c.requires.tag.1 at_kind (omega arith) c.row_field-kind.ensures) (kind_fitting _ _ _ _ _ c.requires.fits) in it).small)

pub returns : goal.returns
returns c =
    let word = (field_there c.requires.tag.2 c.requires.tag.1 at_kind (omega arith) c.row_field-kind.ensures) in
    record {
      place = refl;
      tag = field_there c.requires.tag.2 c.requires.tag.1 at_next (omega arith) c.row_field.ensures;
      there = c.of.ensures;
      prior = refl;
      parent = open_right _ _ _ _ _ c.requires.fits (field_there c.requires.tag.2 c.requires.tag.1 at_up (omega arith) c.row_field-up.ensures) (rw word at c.at_begin.ensures);
      depth = depth_counted _ _ _ c.requires.deep (rw word at c.at_end.ensures) (rw word at c.at_begin-2.ensures);
      marks = mark_counted _ _ _ word (fits_small _ _ _ _ _ c.requires.fits);
      expect = rw (label_there c.requires.tag.2 c.requires.tag.1 c.row_word.ensures) at c.expected.ensures;
    }
