use Prim.Native.Nat.{◌+◌, ◌≤◌}
use native.Mathlib.Omega.{arith}
use mathlib.Core.Path.{refl, ◌∙◌}
use Rattle.renumber.proofs.Paths.{path_leaves, placed_at, next_at, cut_fits, trees_small, left_asks, own_asks, right_asks, parts_moved, path_done}
use Rattle.renumber.proofs.+number_path.Goals as goal

pub number_leaves-requires : goal.number_leaves-requires
number_leaves-requires t c =
    (c.requires.0, c.requires.2.number, c.requires.2.widths 0)

pub shape_of-words-then-j-eq0 : goal.shape_of-words-then-j-eq0
shape_of-words-then-j-eq0 t c = c.number_leaves.auto.words

pub returns-then-j-eq0 : goal.returns-then-j-eq0
returns-then-j-eq0 t c =
    rw (← path_leaves c.args.words.now c.args.tables.now c.args.j c.args.cursor.at c.args.cursor.rest c.args.a c.args.x.0 c.args.count c.if-j-eq0.true)
    c.number_leaves.ensures

pub bounds-tables-j : goal.bounds-tables-j
bounds-tables-j t c = omega (arith, c.requires.1.splits.height)

pub path_parts-parts-requires : goal.path_parts-parts-requires
path_parts-parts-requires t c = (omega arith, c.requires.1)

pub times-requires : goal.times-requires
times-requires t c =
    trees_small c.requires.1 (omega arith) c.path_parts-parts.ensures _ (c.requires.2.widths _)

pub sum-at-requires : goal.sum-at-requires
sum-at-requires t c =
    (omega (arith, c.requires.2.number), cut_fits _ c.times.ensures)

pub number-left-requires : goal.number-left-requires
number-left-requires t c =
    left_asks c.requires.0 c.requires.1 c.requires.2 (let it : 1 ≤ c.args.j = omega arith in it) c.path_parts-parts.ensures

pub overflow_sub-j : goal.overflow_sub-j
overflow_sub-j t c = omega arith

pub number_path-mine-requires : goal.number_path-mine-requires
number_path-mine-requires t c =
    (omega arith, own_asks c.requires.0 c.requires.1 c.requires.2 (let it : 1 ≤ c.args.j = omega arith in it) c.path_parts-parts.ensures (placed_at _ _ _ c.sum-at.ensures c.times.ensures refl) c.number-left.ensures c.number-left.auto.words)

pub sum-requires : goal.sum-requires
sum-requires t c =
    (cut_fits _ c.sum-at.ensures, (c.requires.2.widths _))

pub number-right-requires : goal.number-right-requires
number-right-requires t c =
    right_asks c.requires.0 c.requires.1 c.requires.2 (let it : 1 ≤ c.args.j = omega arith in it) c.path_parts-parts.ensures (placed_at _ _ _ c.sum-at.ensures c.times.ensures refl) c.number-left.ensures c.number-left.auto.words (next_at _ _ c.sum.ensures refl) c.number_path-mine.ensures c.number_path-mine.auto.words

pub overflow_add-result : goal.overflow_add-result
overflow_add-result t c =
    omega (
      arith,
      (let it : c.number-left.result.moved + c.number_path-mine.result.moved + c.number-right.result.moved ≤ c.args.count = parts_moved c.requires.0 c.requires.1 c.requires.2 (let it : 1 ≤ c.args.j = omega arith in it) c.path_parts-parts.ensures (placed_at _ _ _ c.sum-at.ensures c.times.ensures refl) c.number-left.ensures c.number-left.auto.words (next_at _ _ c.sum.ensures refl) c.number_path-mine.ensures c.number_path-mine.auto.words
          c.number-right.ensures in it),
      c.requires.0.most,
    )

pub overflow_add-result-2 : goal.overflow_add-result-2
overflow_add-result-2 t c =
    omega (
      arith,
      (let it : c.number-left.result.moved + c.number_path-mine.result.moved + c.number-right.result.moved ≤ c.args.count = parts_moved c.requires.0 c.requires.1 c.requires.2 (let it : 1 ≤ c.args.j = omega arith in it) c.path_parts-parts.ensures (placed_at _ _ _ c.sum-at.ensures c.times.ensures refl) c.number-left.ensures c.number-left.auto.words (next_at _ _ c.sum.ensures refl) c.number_path-mine.ensures c.number_path-mine.auto.words
          c.number-right.ensures in it),
      c.requires.0.most,
    )

pub shape_of-words : goal.shape_of-words
shape_of-words t c =
    c.number-right.auto.words ∙ c.number_path-mine.auto.words ∙ c.number-left.auto.words

pub returns : goal.returns
returns t c =
    path_done c.requires.0 c.requires.1 c.requires.2 (let it : 1 ≤ c.args.j = omega arith in it) c.path_parts-parts.ensures (placed_at _ _ _ c.sum-at.ensures c.times.ensures refl) c.number-left.ensures c.number-left.auto.words (next_at _ _ c.sum.ensures refl) c.number_path-mine.ensures c.number_path-mine.auto.words
    c.number-right.ensures
