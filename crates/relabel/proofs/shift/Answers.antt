use mathlib.Core.Path.{◌≡◌}
use Prim.Native.Nat.{◌≤◌, ◌<◌}
use native.Mathlib.Omega.{arith}
use Rattle.store_types.specs.Layout.{label_at}
use Rattle.words.proofs.Fields.{room, room_with_label, header_long}
use Rattle.relabel.proofs.Rows.{moved_one}
use Rattle.relabel.proofs.Shifts.{shift_start, shift_on, stops, shift_spent, shift_out, shift_far}
use Rattle.relabel.proofs.shift.Goals as goal

pub count_of-n-requires : goal.count_of-n-requires
count_of-n-requires c = header_long c.requires.0

pub loop-init : goal.loop-init
loop-init c =
    shift_start c.args.words.now c.count_of-n.result c.args.x.0 c.args.bound c.args.by (rw c.count_of-n.ensures c.requires.0)

pub shape_of-words-then-n-tag : goal.shape_of-words-then-n-tag
shape_of-words-then-n-tag c = c.loop.invariant.long

pub returns-then-n-tag : goal.returns-then-n-tag
returns-then-n-tag c =
    let all = stops _ _ c.count_of-n.ensures c.loop.invariant (shift_out _ c.count_of-n.result c.loop.words c.loop.tag.0 c.args.bound c.args.by c.if-n-tag.true) in
    record { words = all.0; moved = all.1 }

pub label_of-label-requires : goal.label_of-label-requires
label_of-label-requires c = room c.loop.invariant.records c.if-n-tag.false

pub shape_of-words-then-bound-label : goal.shape_of-words-then-bound-label
shape_of-words-then-bound-label c = c.loop.invariant.long

pub returns-then-bound-label : goal.returns-then-bound-label
returns-then-bound-label c =
    let far : c.args.bound ≤ label_at c.loop.words c.loop.tag.0 = omega (arith, c.label_of-label.ensures) in
    let all = stops _ _ c.count_of-n.ensures c.loop.invariant (shift_far _ _ c.loop.words c.loop.tag.0 c.args.bound c.args.by far) in
    record { words = all.0; moved = all.1 }

pub number_leaf-counts-requires : goal.number_leaf-counts-requires
number_leaf-counts-requires c = room c.loop.invariant.records c.if-n-tag.false

pub overflow_add-moved : goal.overflow_add-moved
overflow_add-moved c =
    let few : c.number_leaf-counts.result ≤ 1 = rw c.number_leaf-counts.ensures.moved (moved_one _ _ _) in
    omega (arith, few, c.loop.invariant.few, c.loop.invariant.records.few)

pub next_of-tag-requires : goal.next_of-tag-requires
next_of-tag-requires c =
    rw c.number_leaf-counts.ensures.words (room_with_label _ _ _ _ (room c.loop.invariant.records c.if-n-tag.false))

pub loop-preserved : goal.loop-preserved
loop-preserved c =
    let near : label_at c.loop.words c.loop.tag.0 < c.args.bound = omega (arith, c.label_of-label.ensures, c.if-bound-label.false) in
    let put = rw (c.raised.ensures, c.label_of-label.ensures) at c.number_leaf-counts.ensures.words in
    let counted = rw (c.raised.ensures, c.label_of-label.ensures) at c.number_leaf-counts.ensures.moved in
    shift_on c.loop.invariant c.loop-test.true c.if-n-tag.false near c.number_leaf-counts.new.words c.number_leaf-counts.result c.next_of-tag.result.0 put counted c.next_of-tag.ensures

pub shape_of-words : goal.shape_of-words
shape_of-words c = c.loop.invariant.long

pub returns : goal.returns
returns c =
    let all = stops _ _ c.count_of-n.ensures c.loop.invariant (shift_spent _ c.count_of-n.result c.loop.words c.loop.tag.0 c.args.bound c.args.by (omega arith)) in
    record { words = all.0; moved = all.1 }
