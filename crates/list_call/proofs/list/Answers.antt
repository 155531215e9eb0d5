-- `list_call::list` meets its contract. Assumes nothing.
use mathlib.Core.Path.{sym}
use Prim.Native.Nat.{◌≤◌}
use native.Mathlib.Omega.{arith}
use borrow.Author.Rules.{rules}
use lib.ListN.{length}
use Rattle.store_types.specs.Replies.{number_of, numbered, refusal_in}
use Rattle.list_call.specs.Needs.{SpanSaid}
use Rattle.list_call.proofs.Along.{between_few}
use Rattle.list_call.proofs.Listed.{span_of}
use Rattle.list_call.proofs.ListReplies.{short_fits, list_refuses, list_short, list_lists}
use Rattle.list_call.proofs.list.Goals as goal

pub returns-in_err-check_inside : goal.returns-in_err-check_inside
returns-in_err-check_inside c = let all = list_refuses _ _ _ _ _ _ c.in_err-check_inside.ensures _ (search rules) in record { reply = all.0; tags = all.1.0; labels = all.1.1 }

pub first_inside-from-requires : goal.first_inside-from-requires
unfolding refusal_in
first_inside-from-requires c = sym c.in_ok-check_inside.ensures

pub stop_of-to-requires : goal.stop_of-to-requires
unfolding refusal_in
stop_of-to-requires c = sym c.in_ok-check_inside.ensures

pub too_short-requires : goal.too_short-requires
unfolding refusal_in
too_short-requires c = (let it : SpanSaid c.args.words.now c.first_inside-from.result.0 c.stop_of-to.result.0 = rw (c.first_inside-from.ensures, c.stop_of-to.ensures) (span_of _ _ (sym c.in_ok-check_inside.ensures)) in it)

pub returns-then-too_short : goal.returns-then-too_short
unfolding refusal_in numbered number_of
returns-then-too_short c = let all = list_short _ _ _ _ (sym c.in_ok-check_inside.ensures) _ _ c.first_inside-from.ensures c.stop_of-to.ensures c.too_short.ensures c.if-too_short.true in record { reply = all.0; tags = all.1.0; labels = all.1.1 }

pub write_between-count-requires : goal.write_between-count-requires
unfolding refusal_in
write_between-count-requires c = let fits = short_fits _ _ _ c.too_short.ensures c.if-too_short.false in record { span_said = (let it : SpanSaid c.args.words.now c.first_inside-from.result.0 c.stop_of-to.result.0 = rw (c.first_inside-from.ensures, c.stop_of-to.ensures) (span_of _ _ (sym c.in_ok-check_inside.ensures)) in it); tags_room = fits.0; labels_room = fits.1 }

pub overflow_cast-result : goal.overflow_cast-result
unfolding refusal_in
overflow_cast-result c = omega (arith, c.write_between-count.ensures.count, between_few _ c.first_inside-from.result.0 c.stop_of-to.result.0 (let it : SpanSaid c.args.words.now c.first_inside-from.result.0 c.stop_of-to.result.0 = rw (c.first_inside-from.ensures, c.stop_of-to.ensures) (span_of _ _ (sym c.in_ok-check_inside.ensures)) in it).says)

pub returns : goal.returns
unfolding refusal_in numbered
returns c = let fits = short_fits _ _ _ c.too_short.ensures c.if-too_short.false in
    let tags_fit : c.write_between-count.result ≤ length c.args.tags.now = rw c.write_between-count.ensures.count fits.0 in
    let labels_fit : c.write_between-count.result ≤ length c.args.labels.now = rw c.write_between-count.ensures.count fits.1 in
    rw (c.write_between-count.ensures.tags, c.write_between-count.ensures.labels)
    (let all = list_lists _ _ _ _ (sym c.in_ok-check_inside.ensures) _ _ c.first_inside-from.ensures c.stop_of-to.ensures c.write_between-count.result c.write_between-count.ensures.count tags_fit labels_fit in record { reply = all.0; tags = all.1.0; labels = all.1.1 })
