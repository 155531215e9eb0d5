use mathlib.Core.Path.{refl}
use native.Mathlib.Nat.{sub-zero}
use native.Mathlib.Omega.{arith}
use Rattle.file_form.proofs.FormLaws.{tag_missing, tag_there, last_missing, last_there}
use Rattle.file_form.proofs.tags_formed.Goals as goal

pub loop-init : goal.loop-init
loop-init c = (refl, rw (sub-zero c.args.n))

pub returns-then-not-begins : goal.returns-then-not-begins
returns-then-not-begins c =
    tag_missing c.args.bytes.now c.args.n c.loop.counter c.loop.at c.loop.invariant.1 c.loop-test.true c.begins.ensures c.if-not-begins.true-raw

pub loop-preserved : goal.loop-preserved
loop-preserved c = (
  omega (arith, c.loop.invariant.0),
  tag_there c.args.bytes.now c.args.n c.loop.counter c.loop.at c.loop.invariant.1 c.loop-test.true c.begins.ensures c.if-not-begins.false-raw,
)

pub returns-then-not-begins-2 : goal.returns-then-not-begins-2
returns-then-not-begins-2 c =
    last_missing c.args.bytes.now c.args.n c.loop.counter c.loop.at c.loop.invariant.1 c.loop-test.false c.begins-2.ensures c.if-not-begins-2.true-raw

pub returns : goal.returns
returns c =
    last_there c.args.bytes.now c.args.n c.loop.counter c.loop.at c.loop.invariant.1 c.loop-test.false c.begins-2.ensures c.if-not-begins-2.false-raw c.u32_at.ensures
