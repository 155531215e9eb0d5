-- `file_tags::number_fits` meets its contract. Assumes nothing.
use Rattle.walk_levels.proofs.SizeLaws.{never}
use Rattle.file_tags.proofs.TagRows.{number_other, number_beyond, number_new}
use Rattle.file_tags.proofs.number_fits.Goals as goal

pub returns-then-row_word-x : goal.returns-then-row_word-x
returns-then-row_word-x c = record { ok = number_other _ _ _ c.row_word.ensures c.if-row_word-x.true; met = never }

pub returns-then-n-x : goal.returns-then-n-x
returns-then-n-x c =
    record { ok = number_beyond _ _ _ c.row_word.ensures c.if-row_word-x.false c.requires.1 c.if-n-x.true; met = never }

pub returns-then-contains : goal.returns-then-contains
returns-then-contains c =
    record {
      ok = rw c.if-contains.true at (number_new _ _ _ c.row_word.ensures c.if-row_word-x.false c.requires.1 c.if-n-x.false
          (c.contains.ensures _ c.requires.3));
      met = never;
    }

pub returns : goal.returns
returns c =
    record {
      ok = rw c.if-contains.false at (number_new _ _ _ c.row_word.ensures c.if-row_word-x.false c.requires.1 c.if-n-x.false
          (c.contains.ensures _ c.requires.3));
      met = (λ _. c.add.ensures _ c.requires.3);
    }
