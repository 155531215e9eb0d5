-- `load_call::load` meets its contract. Assumes nothing.
use mathlib.Core.Path.{sym, ◌∙◌}
use Prim.Native.Nat.{◌*◌, ◌≤◌}
use borrow.Author.Tests.{not-true, not-false}
use lib.ListN.{length}
use Rattle.store_types.specs.Replies.{number_of, numbered, refusal_in}
use Rattle.shape.proofs.Fits.{degrees_product}
use Rattle.load_refuse.proofs.Height.{height_most}
use Rattle.load_call.proofs.Outcome.{passed, refused_early, too_wide, none_refused, refused_with, header_room, tags_fit, accepted_reply, room_for_widths, room_for_trees, all_written}
use native.Mathlib.Omega.{arith}
use borrow.Author.Rules.{rules}
use Rattle.load_call.proofs.load.Goals as goal

pub returns-in_err-check_load : goal.returns-in_err-check_load
returns-in_err-check_load c = let all = refused_early _ _ _ _ _ _ _ c.in_err-check_load.ensures _ (search rules) in record { reply = all.0; words = all.1 }

pub overflow_cast-n : goal.overflow_cast-n
unfolding refusal_in
overflow_cast-n c = omega (arith, (passed _ _ _ _ (sym c.in_ok-check_load.ensures)).few)

pub load_under-under-requires : goal.load_under-under-requires
unfolding refusal_in
load_under-under-requires c = record { few = (passed _ _ _ _ (sym c.in_ok-check_load.ensures)).few; least = (passed _ _ _ _ (sym c.in_ok-check_load.ensures)).degrees.r_least; most = (passed _ _ _ _ (sym c.in_ok-check_load.ensures)).degrees.r_most }

pub overflow_add-h : goal.overflow_add-h
unfolding refusal_in
overflow_add-h c = omega (
  arith,
  (let it : c.load_under-under.result ≤ 200000 = let h = (passed _ _ _ _ (sym c.in_ok-check_load.ensures)) in
      omega (arith, c.load_under-under.ensures, height_most c.args.r (length c.args.kinds.now) h.degrees.r_least, h.few) in it),
)

pub height_fits-requires : goal.height_fits-requires
unfolding refusal_in
height_fits-requires c = (let it : (4 ≤ c.args.s * c.args.r) × (c.args.s * c.args.r ≤ 256) = let d = (passed _ _ _ _ (sym c.in_ok-check_load.ensures)).degrees in degrees_product d.s_least d.s_most d.r_least d.r_most in it)

pub returns-then-not-height_fits : goal.returns-then-not-height_fits
unfolding refusal_in numbered number_of
returns-then-not-height_fits c =
    let all = refused_with _ _ _ _ _ _
    (too_wide _ _ _ _ (passed _ _ _ _ (sym c.in_ok-check_load.ensures)) _ c.load_under-under.ensures (sym c.height_fits.ensures ∙ not-true _ c.if-not-height_fits.true-raw))
    (λ e. omega arith) in record { reply = all.0; words = all.1 }

pub write_header-requires : goal.write_header-requires
unfolding refusal_in
write_header-requires c = header_room (passed _ _ _ _ (sym c.in_ok-check_load.ensures))

pub widths-widths-requires : goal.widths-widths-requires
unfolding refusal_in
widths-widths-requires c =
    room_for_widths c.args.s c.args.r c.args.book c.args.kinds.now c.args.words.now _ c.load_under-under.ensures (none_refused _ _ _ _ (passed _ _ _ _ (sym c.in_ok-check_load.ensures)) _ c.load_under-under.ensures (sym c.height_fits.ensures ∙ not-false _ c.if-not-height_fits.false-raw)) _ c.write_header.ensures

pub write_tags-requires : goal.write_tags-requires
unfolding refusal_in
write_tags-requires c = (
  tags_fit _ _ _ _ _ _ _ (passed _ _ _ _ (sym c.in_ok-check_load.ensures)) c.write_header.ensures,
  room_for_trees c.args.s c.args.r c.args.book c.args.kinds.now c.args.words.now _ c.load_under-under.ensures (none_refused _ _ _ _ (passed _ _ _ _ (sym c.in_ok-check_load.ensures)) _ c.load_under-under.ensures (sym c.height_fits.ensures ∙ not-false _ c.if-not-height_fits.false-raw)) _ c.write_header.ensures _ c.widths-widths.ensures,
)

pub returns : goal.returns
unfolding refusal_in numbered
returns c =
    let free = (none_refused _ _ _ _ (passed _ _ _ _ (sym c.in_ok-check_load.ensures)) _ c.load_under-under.ensures (sym c.height_fits.ensures ∙ not-false _ c.if-not-height_fits.false-raw)) in record { reply = accepted_reply _ _ _ _ _ _ c.load_under-under.ensures free; words = all_written c.args.s c.args.r c.args.book c.args.kinds.now c.args.words.now _ c.load_under-under.ensures free _ c.write_header.ensures _ c.widths-widths.ensures _ c.write_tags.ensures }
