use borrow.Author.Tests.{leb-true, not-false}
use native.Mathlib.Omega.{arith}
use Rattle.words.proofs.Fields.{header_long}
use Rattle.walk_tags.proofs.TestLaws.{depth_there}
use Rattle.walk_levels.proofs.SizeLaws.{never}
use Rattle.walk.proofs.PassLaws.{held, walk_start, sizes_start, standing_start, walk_outside, label_below, tag_reads, walk_misplaced, walk_refused, walk_wrong_depth, walk_more, walk_end, sizes_more, sizes_end, passed_fits, standing_kept}
use Rattle.walk.proofs.pass.Goals as goal

pub bounds-words-5 : goal.bounds-words-5
bounds-words-5 c = omega (arith, header_long c.requires.records)

pub returns-then-words-at : goal.returns-then-words-at
returns-then-words-at c =
    record { ok = walk_outside _ c.args.tables.now _ _ c.requires c.of-at.ensures c.if-size-gt0.true (leb-true _ _ c.if-words-at.true-raw); sizes = never }

pub loop-v-init : goal.loop-v-init
loop-v-init c =
    rw c.started-v.ensures (omega arith, c.pairs-pairs.ensures, standing_start _ c.args.tables.now _ _ c.requires c.new-levels.ensures c.of-at.ensures, walk_start _ c.args.tables.now _ _ _ c.new-levels.ensures, sizes_start _ c.args.tables.now _ _ _ c.new-levels.ensures _)

pub label_fits-requires : goal.label_fits-requires
label_fits-requires c = (c.requires, c.loop-v.invariant.2)

pub returns-then-not-label_fits : goal.returns-then-not-label_fits
returns-then-not-label_fits c =
    record { ok = walk_misplaced _ c.args.tables.now _ _ _ _ c.loop-v.invariant.3 c.loop-v-test.true c.label_fits.ensures.ok c.if-not-label_fits.true-raw; sizes = never }

pub tag_fits-requires : goal.tag_fits-requires
tag_fits-requires c =
    let below = label_below _ c.args.tables.now _ _ _ _ c.label_fits.ensures.ok c.if-not-label_fits.false-raw in
    (tag_reads _ c.args.tables.now _ _ _ _ c.requires c.loop-v.invariant.2 below, c.loop-v.invariant.1)

pub returns-then-not-tag_fits : goal.returns-then-not-tag_fits
returns-then-not-tag_fits c =
    record { ok = walk_refused _ c.args.tables.now _ _ _ _ c.loop-v.invariant.3 c.loop-v-test.true c.label_fits.ensures.ok c.if-not-label_fits.false-raw c.tag_fits.ensures c.if-not-tag_fits.true-raw; sizes = never }

pub depth_fits-requires : goal.depth_fits-requires
depth_fits-requires c =
    let below = label_below _ c.args.tables.now _ _ _ _ c.label_fits.ensures.ok c.if-not-label_fits.false-raw in
    let fits = passed_fits _ c.args.tables.now _ _ _ _ c.requires c.loop-v.invariant.2 below c.tag_fits.ensures c.if-not-tag_fits.false-raw c.loop-v-test.true in
    depth_there fits.0.0 fits.0.1

pub returns-then-not-depth_fits : goal.returns-then-not-depth_fits
returns-then-not-depth_fits c =
    record { ok = walk_wrong_depth _ c.args.tables.now _ _ _ _ c.loop-v.invariant.3 c.loop-v-test.true c.label_fits.ensures.ok c.if-not-label_fits.false-raw c.tag_fits.ensures c.if-not-tag_fits.false-raw c.depth_fits.ensures c.if-not-depth_fits.true-raw; sizes = never }

pub bounds-levels-1 : goal.bounds-levels-1
bounds-levels-1 c = omega arith

pub passed-v-requires : goal.passed-v-requires
passed-v-requires c =
    let below = label_below _ c.args.tables.now _ _ _ _ c.label_fits.ensures.ok c.if-not-label_fits.false-raw in
    let fits = passed_fits _ c.args.tables.now _ _ _ _ c.requires c.loop-v.invariant.2 below c.tag_fits.ensures c.if-not-tag_fits.false-raw c.loop-v-test.true in
    record { tag = fits.0; deep = held c.depth_fits.ensures c.if-not-depth_fits.false-raw; counts = fits.1 }

pub loop-v-smaller : goal.loop-v-smaller
loop-v-smaller c = omega (arith, c.loop-v-test.true, c.passed-v.ensures.place)

pub loop-v-preserved : goal.loop-v-preserved
loop-v-preserved c =
    let below = label_below _ c.args.tables.now _ _ _ _ c.label_fits.ensures.ok c.if-not-label_fits.false-raw in
    let levels = c.label_fits.ensures.left (not-false _ c.if-not-label_fits.false-raw) in (
      omega (arith, c.loop-v-test.true, c.passed-v.ensures.place),
      c.loop-v.invariant.1,
      standing_kept _ c.args.tables.now _ _ _ _ c.requires c.loop-v.invariant.2 below c.tag_fits.ensures c.if-not-tag_fits.false-raw _ _ c.passed-v.ensures,
      walk_more _ c.args.tables.now _ _ _ _ c.loop-v.invariant.3 c.loop-v-test.true c.label_fits.ensures.ok c.if-not-label_fits.false-raw c.tag_fits.ensures c.if-not-tag_fits.false-raw c.depth_fits.ensures _ _ c.requires c.if-not-depth_fits.false-raw levels c.passed-v.ensures,
      sizes_more _ c.args.tables.now _ _ _ _ _ c.loop-v.invariant.4 _ _ c.requires below c.loop-v-test.true levels c.passed-v.ensures (c.label_fits.ensures.sizes (not-false _ c.if-not-label_fits.false-raw)),
    )

pub ends_well-requires : goal.ends_well-requires
ends_well-requires c =
    record {
      long = header_long c.requires.records;
      few = c.requires.records.few;
      marks_few = omega (arith, c.requires.records.few, c.loop-v.invariant.0, c.loop-v.invariant.2.marks_few);
      tables_fit = c.requires.tables_fit;
    }

pub returns : goal.returns
returns c =
    record { ok = walk_end _ c.args.tables.now _ _ _ _ c.loop-v.invariant.3 c.loop-v-test.false c.ends_well.ensures.ok; sizes = (λ t. sizes_end _ c.args.tables.now _ _ _ _ _ c.loop-v.invariant.4 c.loop-v-test.false (c.ends_well.ensures.sizes t)) }
