use mathlib.Core.Bool.{true≢false}
use mathlib.Core.Path.{sym}
use Rattle.load_tags.proofs.Filling.{book_fits, book_kind, row_starts, tag_fits, row_turns, book_ends}
use Rattle.load_tags.proofs.Labelled.{lows_fit, lows_small, small, labels_start, labels_begun, labels_next, label_new}
use native.Mathlib.Omega.{arith}
use Rattle.load_tags.proofs.write_tags.Goals as goal

pub table-lows-requires : goal.table-lows-requires
table-lows-requires c = lows_fit _ _ _ _ c.requires.1

pub first_begins-begins-requires : goal.first_begins-begins-requires
first_begins-begins-requires c =
    (omega (arith, c.requires.1.widths.height), lows_small _ _ _ _ c.requires.1 _ c.table-lows.ensures)

pub loop-i-init : goal.loop-i-init
loop-i-init c = (
  labels_start _ _ _ _ c.requires.1 _ _ c.gaps-gaps.ensures c.table-lows.ensures _ c.first_begins-begins.ensures,
  row_starts _ _ _ _ _ _ (book_fits c.requires.0),
  record { up = λ k. absurd (true≢false (sym k)); below = λ k. absurd (true≢false (sym k)) },
)

pub begin_nodes-label-requires : goal.begin_nodes-label-requires
begin_nodes-label-requires c = (
  omega (arith, c.requires.0.records.few, c.loop-i-test.true),
  small _ _ _ _ c.requires.1 _ _ _ _ c.loop-i.invariant.0,
  c.gaps-gaps.ensures.entries,
  lows_small _ _ _ _ c.requires.1 _ c.table-lows.ensures,
)

pub overflow_cast-label : goal.overflow_cast-label
overflow_cast-label c = omega (arith, small _ _ _ _ c.requires.1 _ _ _ _ (labels_begun _ _ _ _ c.requires.1 _ _ c.gaps-gaps.ensures c.table-lows.ensures c.loop-i.i c.loop-i.label c.loop-i.begins c.loop-i-test.true c.loop-i.invariant.0 _ _ c.begin_nodes-label.ensures.label c.begin_nodes-label.ensures.begins))

pub write_tag-inside-requires : goal.write_tag-inside-requires
write_tag-inside-requires c =
    (tag_fits _ _ _ _ _ _ (book_fits c.requires.0) c.loop-i.i c.loop-i.words c.loop-i.inside.begin.0 c.loop-i.inside.depth c.loop-i.invariant.1 c.loop-i-test.true _ (book_kind c.args.kinds.now c.loop-i.i), c.loop-i.invariant.2)

pub sum-label-requires : goal.sum-label-requires
sum-label-requires c = (omega (arith, small _ _ _ _ c.requires.1 _ _ _ _ (labels_begun _ _ _ _ c.requires.1 _ _ c.gaps-gaps.ensures c.table-lows.ensures c.loop-i.i c.loop-i.label c.loop-i.begins c.loop-i-test.true c.loop-i.invariant.0 _ _ c.begin_nodes-label.ensures.label c.begin_nodes-label.ensures.begins)), c.requires.1.widths.entries.each _)

pub loop-i-preserved : goal.loop-i-preserved
loop-i-preserved c =
    let here = labels_begun _ _ _ _ c.requires.1 _ _ c.gaps-gaps.ensures c.table-lows.ensures c.loop-i.i c.loop-i.label c.loop-i.begins c.loop-i-test.true c.loop-i.invariant.0 _ _ c.begin_nodes-label.ensures.label c.begin_nodes-label.ensures.begins in (
      rw c.sum-label.ensures (labels_next _ _ _ _ c.requires.1 c.loop-i.i _ _ here),
      rw (c.write_tag-inside.ensures.words, c.write_tag-inside.ensures.begin, c.write_tag-inside.ensures.depth) (row_turns _ _ _ _ _ _ (book_fits c.requires.0) c.loop-i.i c.loop-i.words c.loop-i.inside.begin.0 c.loop-i.inside.depth c.loop-i.invariant.1 c.loop-i-test.true _ (book_kind c.args.kinds.now c.loop-i.i) _ (label_new _ _ _ _ c.requires.1 c.loop-i.i _ _ c.loop-i-test.true here)),
      c.write_tag-inside.ensures.around,
    )

pub shape_of-words : goal.shape_of-words
shape_of-words c = c.loop-i.invariant.1.filled.beside.size

pub returns : goal.returns
returns c =
    book_ends _ _ _ c.requires.0 c.loop-i.i _ _ _ c.loop-i.invariant.1 (omega arith)
