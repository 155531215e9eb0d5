use mathlib.Core.Path.{◌≡◌, sym, ◌∙◌}
use native.Mathlib.Omega.{arith}
use Rattle.store_types.specs.Layout.{Records}
use Rattle.words.proofs.Fields.{room, header_long}
use Rattle.splits.proofs.Splits.{left_start, left_spent, left_below, left_on, left_stops}
use Rattle.splits.proofs.left_border.Goals as goal

pub count_of-n-requires : goal.count_of-n-requires
count_of-n-requires c = header_long c.requires

pub loop-steps-init : goal.loop-steps-init
loop-steps-init c = left_start _ _ _ _

pub at_least-requires : goal.at_least-requires
at_least-requires c = (let it : Records c.args.words.now c.count_of-n.result = rw c.count_of-n.ensures c.requires in it)

pub prior_of-tag-requires : goal.prior_of-tag-requires
prior_of-tag-requires c =
    room (let it : Records c.args.words.now c.count_of-n.result = rw c.count_of-n.ensures c.requires in it)
    (left_below c.loop-steps.invariant c.loop-steps-test.true c.at_least.ensures c.if-not-at_least.false)

pub loop-steps-preserved : goal.loop-steps-preserved
loop-steps-preserved c =
    left_on c.loop-steps.invariant c.loop-steps-test.true c.at_least.ensures c.if-not-at_least.false c.prior_of-tag.ensures

pub returns-then-not-at_least : goal.returns-then-not-at_least
returns-then-not-at_least c =
    let whole = left_stops c.loop-steps.invariant c.loop-steps-test.true c.at_least.ensures c.if-not-at_least.true in
    rw (← c.count_of-n.ensures) (record { tag_is = whole.0; steps_are = whole.1 })

pub returns : goal.returns
returns c =
    let whole = left_spent c.loop-steps.invariant c.loop-steps-test.false in
    let all : c.loop-steps.steps ≡ c.count_of-n.result = omega arith in
    rw (← c.count_of-n.ensures) (record { tag_is = whole.0; steps_are = sym all ∙ whole.1 })
