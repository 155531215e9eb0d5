-- `file_walk::judge::judged` meets its contract. Assumes nothing.
use mathlib.Core.Path.{refl}
use native.Mathlib.Omega.{arith}
use Rattle.store_types.specs.Layout.{at_height}
use Rattle.shape.proofs.Parts.{as_made}
use Rattle.shape.proofs.Fits.{lows_fit, highs_fit}
use Rattle.walk.proofs.SoundLaws.{frame, frame_refuses}
use Rattle.file_model.proofs.Rows.{length_header_in}
use Rattle.file_walk.proofs.WholeLaws.{said_header, counted_said, fits_said, widths_said, root_said, ancestors_said, root_refused, pass_said, walk_said, words_refused, both_pass}
use Rattle.file_walk.proofs.judge.judged.Goals as goal

pub returns-then-not-ranges_fit : goal.returns-then-not-ranges_fit
returns-then-not-ranges_fit c = words_refused _ (frame_refuses _ (c.ranges_fit.ensures _ (said_header _ c.header-header.ensures)) c.if-not-ranges_fit.true-raw)

pub widths-widths-requires : goal.widths-widths-requires
widths-widths-requires c = widths_said (said_header _ c.header-header.ensures) (frame _ (c.ranges_fit.ensures _ (said_header _ c.header-header.ensures)) c.if-not-ranges_fit.false-raw) (rw c.header-header.ensures (omega (arith, length_header_in c.args.bytes.now)))

pub table-lows-requires : goal.table-lows-requires
table-lows-requires c = lows_fit (fits_said (said_header _ c.header-header.ensures) (frame _ (c.ranges_fit.ensures _ (said_header _ c.header-header.ensures)) c.if-not-ranges_fit.false-raw))

pub table-highs-requires : goal.table-highs-requires
table-highs-requires c = highs_fit (fits_said (said_header _ c.header-header.ensures) (frame _ (c.ranges_fit.ensures _ (said_header _ c.header-header.ensures)) c.if-not-ranges_fit.false-raw))

pub root_passes-requires : goal.root_passes-requires
root_passes-requires c =
    root_said (said_header _ c.header-header.ensures) c.widths-widths.ensures c.table-lows.ensures c.table-highs.ensures (frame _ (c.ranges_fit.ensures _ (said_header _ c.header-header.ensures)) c.if-not-ranges_fit.false-raw)

pub returns-then-not-root_passes : goal.returns-then-not-root_passes
returns-then-not-root_passes c =
    words_refused _ (root_refused (said_header _ c.header-header.ensures) c.widths-widths.ensures c.table-lows.ensures c.table-highs.ensures c.root_passes.ensures c.if-not-root_passes.true-raw)

pub overflow_sub-h : goal.overflow_sub-h
overflow_sub-h c = omega (arith, (said_header _ c.header-header.ensures).words at_height (omega arith), (frame _ (c.ranges_fit.ensures _ (said_header _ c.header-header.ensures)) c.if-not-ranges_fit.false-raw).low)

pub numbers-numbers-requires : goal.numbers-numbers-requires
numbers-numbers-requires c =
    ancestors_said (said_header _ c.header-header.ensures) c.widths-widths.ensures c.table-lows.ensures c.table-highs.ensures (frame _ (c.ranges_fit.ensures _ (said_header _ c.header-header.ensures)) c.if-not-ranges_fit.false-raw)

pub overflow_sub-size : goal.overflow_sub-size
overflow_sub-size c = omega (arith, (said_header _ c.header-header.ensures).words at_height (omega arith), (frame _ (c.ranges_fit.ensures _ (said_header _ c.header-header.ensures)) c.if-not-ranges_fit.false-raw).low)

pub all_pass-requires : goal.all_pass-requires
all_pass-requires c =
    let fits = pass_said (said_header _ c.header-header.ensures) c.widths-widths.ensures c.table-lows.ensures c.table-highs.ensures as_made refl c.numbers-numbers.ensures (frame _ (c.ranges_fit.ensures _ (said_header _ c.header-header.ensures)) c.if-not-ranges_fit.false-raw) in
    record { long = c.requires; header_is = c.header-header.ensures; counted = counted_said _ c.header-header.ensures; walk_fits = fits }

pub returns : goal.returns
returns c =
    both_pass _
    (walk_said (said_header _ c.header-header.ensures) c.widths-widths.ensures c.table-lows.ensures c.table-highs.ensures as_made refl c.numbers-numbers.ensures
    (c.ranges_fit.ensures _ (said_header _ c.header-header.ensures)) c.if-not-ranges_fit.false-raw c.root_passes.ensures c.if-not-root_passes.false-raw)
    c.all_pass.ensures
