-- `walk::sound_at` meets its contract. Assumes nothing.
use mathlib.Core.Path.{refl}
use native.Mathlib.Omega.{arith}
use Rattle.shape.proofs.Fits.{lows_fit, highs_fit}
use Rattle.shape.proofs.Parts.{as_made}
use Rattle.walk_levels.proofs.SizeLaws.{never}
use Rattle.walk.proofs.SoundLaws.{framed_fits, frame, header_widths, width_table, root_fits, ancestors_fit, pass_fits, frame_refuses, root_refuses, pass_decides, sizes_taken, tables_taken}
use Rattle.walk.proofs.sound_at.Goals as goal

pub returns-then-not-frame_passes : goal.returns-then-not-frame_passes
returns-then-not-frame_passes c = record { ok = frame_refuses _ c.frame_passes.ensures c.if-not-frame_passes.true-raw; tables = never; sizes = never }

pub bounds-words-1 : goal.bounds-words-1
bounds-words-1 c = omega (arith, (frame _ c.frame_passes.ensures c.if-not-frame_passes.false-raw))

pub overflow_cast-s : goal.overflow_cast-s
overflow_cast-s c = omega (arith, (frame _ c.frame_passes.ensures c.if-not-frame_passes.false-raw))

pub bounds-words-2 : goal.bounds-words-2
bounds-words-2 c = omega (arith, (frame _ c.frame_passes.ensures c.if-not-frame_passes.false-raw))

pub overflow_cast-r : goal.overflow_cast-r
overflow_cast-r c = omega (arith, (frame _ c.frame_passes.ensures c.if-not-frame_passes.false-raw))

pub bounds-words-3 : goal.bounds-words-3
bounds-words-3 c = omega (arith, (frame _ c.frame_passes.ensures c.if-not-frame_passes.false-raw))

pub overflow_cast-h : goal.overflow_cast-h
overflow_cast-h c = omega (arith, (frame _ c.frame_passes.ensures c.if-not-frame_passes.false-raw).high)

pub bounds-words-4 : goal.bounds-words-4
bounds-words-4 c = omega (arith, (frame _ c.frame_passes.ensures c.if-not-frame_passes.false-raw))

pub widths-widths-requires : goal.widths-widths-requires
widths-widths-requires c = header_widths _ (frame _ c.frame_passes.ensures c.if-not-frame_passes.false-raw)

pub table-lows-requires : goal.table-lows-requires
table-lows-requires c = lows_fit (framed_fits _ (frame _ c.frame_passes.ensures c.if-not-frame_passes.false-raw))

pub table-highs-requires : goal.table-highs-requires
table-highs-requires c = highs_fit (framed_fits _ (frame _ c.frame_passes.ensures c.if-not-frame_passes.false-raw))

pub root_passes-requires : goal.root_passes-requires
root_passes-requires c = root_fits _ _ (frame _ c.frame_passes.ensures c.if-not-frame_passes.false-raw) c.table-lows.ensures

pub returns-then-not-root_passes : goal.returns-then-not-root_passes
returns-then-not-root_passes c =
    record { ok = root_refuses _ c.table-lows.ensures c.table-highs.ensures c.root_passes.ensures c.if-not-root_passes.true-raw; tables = never; sizes = never }

pub watched_label-label-requires : goal.watched_label-label-requires
watched_label-label-requires c = (frame _ c.frame_passes.ensures c.if-not-frame_passes.false-raw).records

pub overflow_sub-h : goal.overflow_sub-h
overflow_sub-h c = omega (arith, (frame _ c.frame_passes.ensures c.if-not-frame_passes.false-raw))

pub numbers-numbers-requires : goal.numbers-numbers-requires
numbers-numbers-requires c = ancestors_fit _ (frame _ c.frame_passes.ensures c.if-not-frame_passes.false-raw) (width_table _ c.widths-widths.ensures)

pub overflow_sub-size : goal.overflow_sub-size
overflow_sub-size c = omega (arith, (frame _ c.frame_passes.ensures c.if-not-frame_passes.false-raw))

pub pass-requires : goal.pass-requires
pass-requires c =
    pass_fits _ _ (frame _ c.frame_passes.ensures c.if-not-frame_passes.false-raw) c.table-lows.ensures as_made refl (width_table _ c.widths-widths.ensures) c.table-highs.ensures c.numbers-numbers.ensures (omega (arith, c.watched_label-label.type_inv))

pub returns : goal.returns
returns c =
    let widths = width_table _ c.widths-widths.ensures in
    record {
      ok = pass_decides _ c.table-lows.ensures c.table-highs.ensures (as_made {ns = c.numbers-numbers.result}) widths c.frame_passes.ensures c.if-not-frame_passes.false-raw c.root_passes.ensures c.if-not-root_passes.false-raw c.pass.ensures.ok;
      tables = λ t. tables_taken _ _ _ _ c.table-lows.ensures c.table-highs.ensures widths _ _ _ as_made refl c.watched_label-label.ensures c.numbers-numbers.ensures (omega (arith, c.watched_label-label.type_inv));
      sizes = λ t. sizes_taken _ _ _ _ c.table-lows.ensures c.table-highs.ensures widths _ _ _ as_made refl c.watched_label-label.ensures c.numbers-numbers.ensures _ (c.pass.ensures.sizes t);
    }
