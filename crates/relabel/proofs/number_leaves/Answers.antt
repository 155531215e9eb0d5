use mathlib.Core.Path.{◌≡◌}
use Prim.Native.Nat.{◌+◌, ◌-◌, ◌≤◌}
use native.Mathlib.Nat.{sub-zero}
use native.Mathlib.Omega.{arith}
use Rattle.words.proofs.Fields.{room_with_label}
use Rattle.relabel.proofs.Rows.{start, tag_room, moved_one, leaf_on, leaves_end, arrived}
use Rattle.relabel.proofs.number_leaves.Goals as goal

pub loop-init : goal.loop-init
loop-init c = rw (sub-zero c.args.count) (start _ _ _ _ _ c.requires.0 c.requires.1)

pub overflow_cast-new : goal.overflow_cast-new
overflow_cast-new c = omega (arith, c.loop.invariant.number)

pub number_leaf-moved-requires : goal.number_leaf-moved-requires
number_leaf-moved-requires c = tag_room c.loop.invariant.row (omega arith)

pub overflow_add-moved : goal.overflow_add-moved
overflow_add-moved c =
    let few : c.number_leaf-moved.result ≤ 1 = rw c.number_leaf-moved.ensures.moved (moved_one _ _ _) in
    omega (arith, few, c.loop.invariant.counted, c.requires.0.most)

pub next_of-tag-requires : goal.next_of-tag-requires
next_of-tag-requires c =
    rw c.number_leaf-moved.ensures.words (room_with_label _ _ _ _ (tag_room c.loop.invariant.row (omega arith)))

pub sum-at-requires : goal.sum-at-requires
sum-at-requires c =
    (omega (arith, c.loop.invariant.number), c.requires.2)

pub loop-preserved : goal.loop-preserved
loop-preserved c =
    let less : c.args.count - (c.loop.counter + 1) ≡ c.args.count - c.loop.counter - 1 = omega arith in
    rw (c.sum-at.ensures, less)
    (leaf_on c.args.width c.loop.invariant (omega arith) c.number_leaf-moved.new.words c.number_leaf-moved.result c.next_of-tag.result.0 c.number_leaf-moved.ensures.words c.number_leaf-moved.ensures.moved c.next_of-tag.ensures)

pub shape_of-words : goal.shape_of-words
shape_of-words c = c.loop.invariant.long

pub returns : goal.returns
returns c =
    let none : c.args.count - c.loop.counter ≡ 0 = omega arith in
    arrived c.loop.invariant none (leaves_end c.loop.words c.args.width c.loop.at c.loop.tag.0 _ none)
