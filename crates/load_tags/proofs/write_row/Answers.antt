use mathlib.Core.Bool.{true≢false}
use mathlib.Core.Path.{◌≡◌, refl, sym}
use Prim.Native.Nat.{◌+◌}
use native.Mathlib.Nat.{add-zero}
use native.Mathlib.Omega.{arith}
use Rattle.load_tags.proofs.Filling.{row_starts, row_kind, tag_fits, row_turns, row_ends}
use Rattle.load_tags.proofs.write_row.Goals as goal

pub loop-i-init : goal.loop-i-init
loop-i-init c =
    rw (add-zero c.args.row.first)
    (row_starts _ _ _ _ _ _ c.requires, record { up = λ k. absurd (true≢false (sym k)); below = λ k. absurd (true≢false (sym k)) })

pub overflow_add-x : goal.overflow_add-x
overflow_add-x c = omega (arith, c.requires.count, c.requires.records.few)

pub write_tag-inside-requires : goal.write_tag-inside-requires
write_tag-inside-requires c = (
  tag_fits _ _ _ _ _ _ c.requires (c.args.row.first + c.loop-i.i) c.loop-i.words c.loop-i.inside.begin.0 c.loop-i.inside.depth c.loop-i.invariant.0 (omega (arith, c.requires.count)) _ (row_kind c.args.kinds.now c.args.row.first c.loop-i.i),
  c.loop-i.invariant.1,
)

pub loop-i-preserved : goal.loop-i-preserved
loop-i-preserved c =
    let next : c.args.row.first + (c.loop-i.i + 1) ≡ c.args.row.first + c.loop-i.i + 1 = omega arith in
    rw next (
      rw (c.write_tag-inside.ensures.words, c.write_tag-inside.ensures.begin, c.write_tag-inside.ensures.depth) (row_turns _ _ _ _ _ _ c.requires (c.args.row.first + c.loop-i.i) c.loop-i.words c.loop-i.inside.begin.0 c.loop-i.inside.depth c.loop-i.invariant.0 (omega (arith, c.requires.count)) _ (row_kind c.args.kinds.now c.args.row.first c.loop-i.i) _ refl),
      c.write_tag-inside.ensures.around,
    )

pub shape_of-words : goal.shape_of-words
shape_of-words c = c.loop-i.invariant.0.filled.beside.size

pub returns : goal.returns
returns c =
    row_ends _ _ _ _ _ c.requires _ _ _ _ c.loop-i.invariant.0 (omega (arith, c.requires.count))
