use mathlib.Core.Path.{◌≡◌, refl, ap, sym, ◌∙◌}
use mathlib.Core.Bool.{true}
use borrow.Author.Tests.{not-false}
use Prim.Native.Nat.{◌≤◌}
use native.Mathlib.Omega.{arith}
use lib.ListN.{length, length-set}
use Rattle.store_types.specs.Layout.{at_first, at_kind, word_at, field}
use Rattle.calls.specs.File.{header_in, count_in, file_words}
use Rattle.walk_model.specs.Walk.{kind_fits}
use Rattle.walk.proofs.PassLaws.{label_here, walk_whole, walk_misplaced, walk_refused, walk_more, walk_end, passed_fits, standing_kept}
use Rattle.file_tags.specs.Needs.{TagRow}
use Rattle.file_tags.proofs.TagRows.{row_there, label_there}
use Rattle.file_pass.specs.Needs.{order_left}
use Rattle.file_pass.proofs.JudgeLaws.{header_there, few_tags, row_below, tag_below, pass_start, deep_fails, ends_said, order_behind, order_fails, number_own, number_below, row_read, order_more, met_more, top_read, shallow, depth_right, so_far_more, order_end, out_of_order, not_passed, deep_judged, last_judged}
use Rattle.file_pass.proofs.pass.Goals as goal

pub first_of-first-requires : goal.first_of-first-requires
first_of-first-requires c = header_there c.requires

pub loop-v-init : goal.loop-v-init
loop-v-init c =
    let began = pass_start c.requires c.args.opens.now c.new-levels.ensures c.first_of-first.ensures c.of.ensures c.started-v.ensures in
    (began.0, c.pairs-pairs.ensures, began.1, began.2, began.3, began.4, refl)

pub overflow_sub-size : goal.overflow_sub-size
overflow_sub-size c = omega (arith, c.loop-v.invariant.0)

pub overflow_cast-size : goal.overflow_cast-size
overflow_cast-size c = omega (arith, c.requires.walk_fits.records.few)

pub shape_of-opens-then-size-v : goal.shape_of-opens-then-size-v
shape_of-opens-then-size-v c = c.loop-v.invariant.6

pub returns-then-size-v : goal.returns-then-size-v
returns-then-size-v c =
    not_passed (order_left c.args.bytes.now 0 (word_at (header_in c.args.bytes.now) at_first)) (walk_whole (file_words c.args.bytes.now) c.args.tables.now c.args.size.n c.args.size.under) _ _ (deep_fails c.requires _ c.loop-v.levels c.loop-v.invariant.5 c.loop-v.invariant.3 c.if-size-v.true)

pub shape_of-opens-then-opens-v : goal.shape_of-opens-then-opens-v
shape_of-opens-then-opens-v c = c.loop-v.invariant.6

pub returns-then-opens-v : goal.returns-then-opens-v
returns-then-opens-v c =
    deep_judged (order_left c.args.bytes.now 0 (word_at (header_in c.args.bytes.now) at_first)) (walk_whole (file_words c.args.bytes.now) c.args.tables.now c.args.size.n c.args.size.under) _ _ (omega (arith, c.loop-v.invariant.6, c.if-opens-v.true)) (shallow c.loop-v.invariant.5) c.if-size-v.false

pub number_fits-requires : goal.number_fits-requires
number_fits-requires c =
    (record { long = c.requires.long; below = (row_below c.requires c.loop-v-test.true) }, c.requires.counted, c.requires.walk_fits.records.few, c.loop-v.invariant.5.holds)

pub shape_of-opens-then-not-number_fits : goal.shape_of-opens-then-not-number_fits
shape_of-opens-then-not-number_fits c = c.loop-v.invariant.6

pub returns-then-not-number_fits : goal.returns-then-not-number_fits
returns-then-not-number_fits c =
    out_of_order (order_left c.args.bytes.now 0 (word_at (header_in c.args.bytes.now) at_first)) (walk_whole (file_words c.args.bytes.now) c.args.tables.now c.args.size.n c.args.size.under) _ _ (order_fails c.args.bytes.now _ _ (row_below c.requires c.loop-v-test.true) c.number_fits.ensures.ok c.loop-v.invariant.4 c.if-not-number_fits.true-raw)

pub row_word-requires : goal.row_word-requires
row_word-requires c = (row_there (row_read c.args.bytes.now _ _ (row_below c.requires c.loop-v-test.true) c.number_fits.ensures.ok c.loop-v.invariant.4 c.if-not-number_fits.false-raw) c.requires.long, omega arith)

pub label_fits-requires : goal.label_fits-requires
label_fits-requires c = (c.requires.walk_fits.tables_fit, (tag_below c.requires (number_below c.args.bytes.now _ _ (row_below c.requires c.loop-v-test.true) c.number_fits.ensures.ok c.loop-v.invariant.4 c.if-not-number_fits.false-raw)))

pub shape_of-opens-then-not-label_fits : goal.shape_of-opens-then-not-label_fits
shape_of-opens-then-not-label_fits c = c.loop-v.invariant.6

pub returns-then-not-label_fits : goal.returns-then-not-label_fits
returns-then-not-label_fits c =
    not_passed (order_left c.args.bytes.now 0 (word_at (header_in c.args.bytes.now) at_first)) (walk_whole (file_words c.args.bytes.now) c.args.tables.now c.args.size.n c.args.size.under) _ _ (walk_misplaced _ c.args.tables.now _ _ _ _ c.loop-v.invariant.3 c.loop-v-test.true (let it : c.label_fits.result ≡ label_here (file_words c.args.bytes.now) c.args.tables.now c.args.size.n c.args.size.under c.loop-v.v c.loop-v.levels = (c.label_fits.ensures (file_words c.args.bytes.now) (label_there (row_read c.args.bytes.now _ _ (row_below c.requires c.loop-v-test.true) c.number_fits.ensures.ok c.loop-v.invariant.4 c.if-not-number_fits.false-raw) (number_own c.args.bytes.now _ _ (row_below c.requires c.loop-v-test.true) c.number_fits.ensures.ok c.loop-v.invariant.4 c.if-not-number_fits.false-raw) c.row_word.ensures) c.loop-v.invariant.2).0 in it) c.if-not-label_fits.true-raw)

pub top_of-requires : goal.top_of-requires
top_of-requires c = omega (arith, c.if-opens-v.false)

pub tag_fits-requires : goal.tag_fits-requires
tag_fits-requires c =
    let rows : TagRow c.args.bytes.now c.loop-v.v.place c.loop-v.v.tag.0 c.loop-v.v.parent.0 c.top_of.result = record {
      long = c.requires.long;
      few = few_tags c.requires;
      own = number_own c.args.bytes.now _ _ (row_below c.requires c.loop-v-test.true) c.number_fits.ensures.ok c.loop-v.invariant.4 c.if-not-number_fits.false-raw;
      read = row_read c.args.bytes.now _ _ (row_below c.requires c.loop-v-test.true) c.number_fits.ensures.ok c.loop-v.invariant.4 c.if-not-number_fits.false-raw;
      open_row = top_read c.args.bytes.now _ _ _ _ _ c.loop-v.invariant.5.reads c.loop-v.invariant.5.opened c.top_of.ensures;
    } in
    (rows, c.requires.counted, c.loop-v.invariant.2.around, c.loop-v.invariant.1)

pub shape_of-opens-then-not-tag_fits : goal.shape_of-opens-then-not-tag_fits
shape_of-opens-then-not-tag_fits c = c.loop-v.invariant.6

pub returns-then-not-tag_fits : goal.returns-then-not-tag_fits
returns-then-not-tag_fits c =
    not_passed (order_left c.args.bytes.now 0 (word_at (header_in c.args.bytes.now) at_first)) (walk_whole (file_words c.args.bytes.now) c.args.tables.now c.args.size.n c.args.size.under) _ _
    (walk_refused _ c.args.tables.now _ _ _ _ c.loop-v.invariant.3 c.loop-v-test.true (let it : c.label_fits.result ≡ label_here (file_words c.args.bytes.now) c.args.tables.now c.args.size.n c.args.size.under c.loop-v.v c.loop-v.levels = (c.label_fits.ensures (file_words c.args.bytes.now) (label_there (row_read c.args.bytes.now _ _ (row_below c.requires c.loop-v-test.true) c.number_fits.ensures.ok c.loop-v.invariant.4 c.if-not-number_fits.false-raw) (number_own c.args.bytes.now _ _ (row_below c.requires c.loop-v-test.true) c.number_fits.ensures.ok c.loop-v.invariant.4 c.if-not-number_fits.false-raw) c.row_word.ensures) c.loop-v.invariant.2).0 in it) c.if-not-label_fits.false-raw c.tag_fits.ensures c.if-not-tag_fits.true-raw)

pub bounds-levels-1 : goal.bounds-levels-1
bounds-levels-1 c = omega arith

pub passed-behind-requires : goal.passed-behind-requires
passed-behind-requires c =
    let counts = (passed_fits _ c.args.tables.now _ _ _ _ c.requires.walk_fits c.loop-v.invariant.2 (tag_below c.requires (number_below c.args.bytes.now _ _ (row_below c.requires c.loop-v-test.true) c.number_fits.ensures.ok c.loop-v.invariant.4 c.if-not-number_fits.false-raw)) c.tag_fits.ensures c.if-not-tag_fits.false-raw c.loop-v-test.true).1 in
    record {
      tag = (c.requires.long, number_own c.args.bytes.now _ _ (row_below c.requires c.loop-v-test.true) c.number_fits.ensures.ok c.loop-v.invariant.4 c.if-not-number_fits.false-raw, row_read c.args.bytes.now _ _ (row_below c.requires c.loop-v-test.true) c.number_fits.ensures.ok c.loop-v.invariant.4 c.if-not-number_fits.false-raw);
      fits = (let it : kind_fits (file_words c.args.bytes.now) (count_in c.args.bytes.now) c.loop-v.v.parent.0 c.loop-v.v.tag.0 (field (file_words c.args.bytes.now) c.loop-v.v.tag.0 at_kind) ≡ true = rw (← c.requires.counted)
          (passed_fits _ c.args.tables.now _ _ _ _ c.requires.walk_fits c.loop-v.invariant.2 (tag_below c.requires (number_below c.args.bytes.now _ _ (row_below c.requires c.loop-v-test.true) c.number_fits.ensures.ok c.loop-v.invariant.4 c.if-not-number_fits.false-raw)) c.tag_fits.ensures c.if-not-tag_fits.false-raw c.loop-v-test.true).0.1 in it);
      deep = (depth_right c.args.bytes.now _ _ _ c.loop-v.invariant.5 (number_own c.args.bytes.now _ _ (row_below c.requires c.loop-v-test.true) c.number_fits.ensures.ok c.loop-v.invariant.4 c.if-not-number_fits.false-raw) (row_read c.args.bytes.now _ _ (row_below c.requires c.loop-v-test.true) c.number_fits.ensures.ok c.loop-v.invariant.4 c.if-not-number_fits.false-raw) c.if-opens-v.false (let it : kind_fits (file_words c.args.bytes.now) (count_in c.args.bytes.now) c.loop-v.v.parent.0 c.loop-v.v.tag.0 (field (file_words c.args.bytes.now) c.loop-v.v.tag.0 at_kind) ≡ true = rw (← c.requires.counted)
          (passed_fits _ c.args.tables.now _ _ _ _ c.requires.walk_fits c.loop-v.invariant.2 (tag_below c.requires (number_below c.args.bytes.now _ _ (row_below c.requires c.loop-v-test.true) c.number_fits.ensures.ok c.loop-v.invariant.4 c.if-not-number_fits.false-raw)) c.tag_fits.ensures c.if-not-tag_fits.false-raw c.loop-v-test.true).0.1 in it));
      counts = (counts.1, omega (arith, shallow c.loop-v.invariant.5, counts.1), counts.2);
    }

pub opened-requires : goal.opened-requires
opened-requires c = c.if-opens-v.false

pub loop-v-smaller : goal.loop-v-smaller
loop-v-smaller c =
    omega (arith, c.loop-v-test.true, c.passed-behind.ensures.place)

pub loop-v-preserved : goal.loop-v-preserved
loop-v-preserved c =
    let levels = (c.label_fits.ensures (file_words c.args.bytes.now) (label_there (row_read c.args.bytes.now _ _ (row_below c.requires c.loop-v-test.true) c.number_fits.ensures.ok c.loop-v.invariant.4 c.if-not-number_fits.false-raw) (number_own c.args.bytes.now _ _ (row_below c.requires c.loop-v-test.true) c.number_fits.ensures.ok c.loop-v.invariant.4 c.if-not-number_fits.false-raw) c.row_word.ensures) c.loop-v.invariant.2).1 (not-false _ c.if-not-label_fits.false-raw) in (
      omega (arith, c.loop-v-test.true, c.passed-behind.ensures.place),
      c.loop-v.invariant.1,
      standing_kept _ c.args.tables.now _ _ _ _ c.requires.walk_fits c.loop-v.invariant.2 (tag_below c.requires (number_below c.args.bytes.now _ _ (row_below c.requires c.loop-v-test.true) c.number_fits.ensures.ok c.loop-v.invariant.4 c.if-not-number_fits.false-raw)) c.tag_fits.ensures c.if-not-tag_fits.false-raw _ _ c.passed-behind.ensures,
      walk_more _ c.args.tables.now _ _ _ _ c.loop-v.invariant.3 c.loop-v-test.true (let it : c.label_fits.result ≡ label_here (file_words c.args.bytes.now) c.args.tables.now c.args.size.n c.args.size.under c.loop-v.v c.loop-v.levels = (c.label_fits.ensures (file_words c.args.bytes.now) (label_there (row_read c.args.bytes.now _ _ (row_below c.requires c.loop-v-test.true) c.number_fits.ensures.ok c.loop-v.invariant.4 c.if-not-number_fits.false-raw) (number_own c.args.bytes.now _ _ (row_below c.requires c.loop-v-test.true) c.number_fits.ensures.ok c.loop-v.invariant.4 c.if-not-number_fits.false-raw) c.row_word.ensures) c.loop-v.invariant.2).0 in it) c.if-not-label_fits.false-raw c.tag_fits.ensures c.if-not-tag_fits.false-raw (sym (depth_right c.args.bytes.now _ _ _ c.loop-v.invariant.5 (number_own c.args.bytes.now _ _ (row_below c.requires c.loop-v-test.true) c.number_fits.ensures.ok c.loop-v.invariant.4 c.if-not-number_fits.false-raw) (row_read c.args.bytes.now _ _ (row_below c.requires c.loop-v-test.true) c.number_fits.ensures.ok c.loop-v.invariant.4 c.if-not-number_fits.false-raw) c.if-opens-v.false (let it : kind_fits (file_words c.args.bytes.now) (count_in c.args.bytes.now) c.loop-v.v.parent.0 c.loop-v.v.tag.0 (field (file_words c.args.bytes.now) c.loop-v.v.tag.0 at_kind) ≡ true = rw (← c.requires.counted)
          (passed_fits _ c.args.tables.now _ _ _ _ c.requires.walk_fits c.loop-v.invariant.2 (tag_below c.requires (number_below c.args.bytes.now _ _ (row_below c.requires c.loop-v-test.true) c.number_fits.ensures.ok c.loop-v.invariant.4 c.if-not-number_fits.false-raw)) c.tag_fits.ensures c.if-not-tag_fits.false-raw c.loop-v-test.true).0.1 in it))) _ _ c.requires.walk_fits refl levels c.passed-behind.ensures,
      order_behind c.args.bytes.now _ _ (number_own c.args.bytes.now _ _ (row_below c.requires c.loop-v-test.true) c.number_fits.ensures.ok c.loop-v.invariant.4 c.if-not-number_fits.false-raw) (row_read c.args.bytes.now _ _ (row_below c.requires c.loop-v-test.true) c.number_fits.ensures.ok c.loop-v.invariant.4 c.if-not-number_fits.false-raw) c.passed-behind.ensures (order_more c.args.bytes.now _ _ (row_below c.requires c.loop-v-test.true) c.number_fits.ensures.ok c.loop-v.invariant.4 c.if-not-number_fits.false-raw),
      so_far_more c.args.bytes.now _ _ _ c.loop-v.invariant.5 (number_own c.args.bytes.now _ _ (row_below c.requires c.loop-v-test.true) c.number_fits.ensures.ok c.loop-v.invariant.4 c.if-not-number_fits.false-raw) (row_read c.args.bytes.now _ _ (row_below c.requires c.loop-v-test.true) c.number_fits.ensures.ok c.loop-v.invariant.4 c.if-not-number_fits.false-raw) c.if-opens-v.false (let it : kind_fits (file_words c.args.bytes.now) (count_in c.args.bytes.now) c.loop-v.v.parent.0 c.loop-v.v.tag.0 (field (file_words c.args.bytes.now) c.loop-v.v.tag.0 at_kind) ≡ true = rw (← c.requires.counted)
          (passed_fits _ c.args.tables.now _ _ _ _ c.requires.walk_fits c.loop-v.invariant.2 (tag_below c.requires (number_below c.args.bytes.now _ _ (row_below c.requires c.loop-v-test.true) c.number_fits.ensures.ok c.loop-v.invariant.4 c.if-not-number_fits.false-raw)) c.tag_fits.ensures c.if-not-tag_fits.false-raw c.loop-v-test.true).0.1 in it) _ c.opened.ensures
          (met_more c.args.bytes.now _ _ (row_below c.requires c.loop-v-test.true) c.number_fits.ensures.ok c.loop-v.invariant.4 c.if-not-number_fits.false-raw (c.number_fits.ensures.met (not-false _ c.if-not-number_fits.false-raw))) c.passed-behind.ensures,
      ap length c.opened.ensures ∙ length-set c.loop-v.opens c.loop-v.v.depth _ ∙ c.loop-v.invariant.6,
    )

pub ends_well-requires : goal.ends_well-requires
ends_well-requires c =
    record {
      long = header_there c.requires;
      few = c.requires.walk_fits.records.few;
      marks_few = omega (arith, c.requires.walk_fits.records.few, c.loop-v.invariant.0, c.loop-v.invariant.2.marks_few);
      tables_fit = c.requires.walk_fits.tables_fit;
    }

pub shape_of-opens-then-ends_well : goal.shape_of-opens-then-ends_well
shape_of-opens-then-ends_well c = c.loop-v.invariant.6

pub returns-then-ends_well : goal.returns-then-ends_well
returns-then-ends_well c = last_judged (order_left c.args.bytes.now 0 (word_at (header_in c.args.bytes.now) at_first)) (walk_whole (file_words c.args.bytes.now) c.args.tables.now c.args.size.n c.args.size.under) _ _ (order_end c.args.bytes.now _ _ (let it : count_in c.args.bytes.now ≤ c.loop-v.v.place = omega (arith, c.requires.counted, c.loop-v-test.false) in it) c.loop-v.invariant.4) (walk_end _ c.args.tables.now _ _ _ _ c.loop-v.invariant.3 c.loop-v-test.false (ends_said c.requires _ _ _ _ c.ends_well.ensures.ok)) (rw c.if-ends_well.true)

pub shape_of-opens : goal.shape_of-opens
shape_of-opens c = c.loop-v.invariant.6

pub returns : goal.returns
returns c = last_judged (order_left c.args.bytes.now 0 (word_at (header_in c.args.bytes.now) at_first)) (walk_whole (file_words c.args.bytes.now) c.args.tables.now c.args.size.n c.args.size.under) _ _ (order_end c.args.bytes.now _ _ (let it : count_in c.args.bytes.now ≤ c.loop-v.v.place = omega (arith, c.requires.counted, c.loop-v-test.false) in it) c.loop-v.invariant.4) (walk_end _ c.args.tables.now _ _ _ _ c.loop-v.invariant.3 c.loop-v-test.false (ends_said c.requires _ _ _ _ c.ends_well.ensures.ok)) (rw c.if-ends_well.false)
