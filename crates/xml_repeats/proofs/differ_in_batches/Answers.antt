use native.Mathlib.Omega.{arith}
use Rattle.xml_repeats.proofs.Batching.{batching_start, batching_end, batching_chained, batch_begun, batch_twice, batch_again, batch_passed}
use Rattle.xml_repeats.proofs.differ_in_batches.Goals as goal

pub loop-at-init : goal.loop-at-init
loop-at-init c = batching_start _ _ _ c.requires

pub fill-batch-requires : goal.fill-batch-requires
fill-batch-requires c = c.loop-at.invariant.within

pub arrange-requires : goal.arrange-requires
arrange-requires c =
    batch_begun c.loop-at.invariant (c.fill-batch.ensures.batch c.loop-at.invariant.late c.loop-at.invariant.rest)

pub returns-then-not-arrange : goal.returns-then-not-arrange
returns-then-not-arrange c =
    batch_twice c.loop-at.invariant (c.fill-batch.ensures.batch c.loop-at.invariant.late c.loop-at.invariant.rest) c.arrange.ensures c.if-not-arrange.true

pub none_held-requires : goal.none_held-requires
none_held-requires c = (c.loop-at.invariant.within, c.arrange.ensures.index c.if-not-arrange.false)

pub returns-then-not-none_held : goal.returns-then-not-none_held
returns-then-not-none_held c =
    batch_again c.loop-at.invariant (c.fill-batch.ensures.batch c.loop-at.invariant.late c.loop-at.invariant.rest) c.arrange.ensures c.if-not-arrange.false c.none_held.ensures c.if-not-none_held.true

pub loop-at-smaller : goal.loop-at-smaller
loop-at-smaller c =
    let further = c.fill-batch.ensures.on (batching_chained c.loop-at.invariant) c.loop-at-test.true in
    omega arith

pub loop-at-preserved : goal.loop-at-preserved
loop-at-preserved c =
    batch_passed c.loop-at.invariant (c.fill-batch.ensures.batch c.loop-at.invariant.late c.loop-at.invariant.rest) c.arrange.ensures c.if-not-arrange.false c.none_held.ensures c.if-not-none_held.false

pub returns : goal.returns
returns c = batching_end c.loop-at.invariant c.loop-at-test.false
