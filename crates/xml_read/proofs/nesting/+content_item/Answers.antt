-- `xml_read::nesting::content` and `item` meet their contracts: content by its items one behind the other, an item by what its tag
-- leaves to be read. Assumes nothing.
use mathlib.Core.Path.{refl, ap, sym}
use native.Mathlib.Omega.{arith}
use Rattle.std.specs.Prelude.{Ok}
use Rattle.std.proofs.lemmas.Result.{err_from_is_err_and}
use Rattle.xml_pieces.specs.declared.Cursor.{Cursor}
use Rattle.xml_pieces.specs.Outcome.{Ended}
use Rattle.xml_read.proofs.Nestings.{stays, goes_further, sure_on, turned, goes_within, refused_ended, ended_at, tag_whole, tag_broken, tag_refused, tag_sure, places, found_deep, found_inside, found_sure, found_lone, found_refused, found_element}
use Rattle.xml_read.proofs.nesting.+content_item.Goals as goal

pub content-loop-kinds-init : goal.content-loop-kinds-init
content-loop-kinds-init t c =
    (c.requires.in_text.0, stays c.args.text.now c.args.depth c.args.from c.args.kinds.now c.requires.in_text.0)

pub content-goes_on-requires : goal.content-goes_on-requires
content-goes_on-requires t c = c.loop-kinds.invariant.0.within

pub content-item-requires : goal.content-item-requires
content-item-requires t c =
    (omega (arith, c.decreases), ((c.loop-kinds.invariant.0, sym c.loop-kinds-test.ensures, c.requires.in_text.1), sure_on _ _ _ _ _ _ _ c.loop-kinds.invariant.1 c.requires.sure))

pub content-returns-in_err-here-clause-reads : goal.content-returns-in_err-here-clause-reads
content-returns-in_err-here-clause-reads t c =
    let p = err_from_is_err_and c.from_residual.result c.from_residual.ensures.1 in
    rw (p.1, p.2) (goes_further c.args.text.now c.args.depth c.args.from c.loop-kinds.here _ _ _ _ c.loop-kinds.invariant.1 c.in_err-here.ensures)

pub content-returns-in_err-here-clause-ended : goal.content-returns-in_err-here-clause-ended
content-returns-in_err-here-clause-ended t c =
    let p = err_from_is_err_and c.from_residual.result c.from_residual.ensures.1 in
    refused_ended _ _ _ p.1

pub content-loop-kinds-smaller : goal.content-loop-kinds-smaller
content-loop-kinds-smaller t c =
    let next = turned c.args.text.now c.args.depth c.args.from c.loop-kinds.here _ _ _ _ _ c.loop-kinds.invariant.1 c.item.ensures c.in_ok-here.was in
    omega (arith, next.on, next.text.within)

pub content-loop-kinds-preserved : goal.content-loop-kinds-preserved
content-loop-kinds-preserved t c =
    let next = turned c.args.text.now c.args.depth c.args.from c.loop-kinds.here _ _ _ _ _ c.loop-kinds.invariant.1 c.item.ensures c.in_ok-here.was in
    (next.text, next.reads)

pub content-returns-clause-reads : goal.content-returns-clause-reads
content-returns-clause-reads t c = c.loop-kinds.invariant.1

pub content-returns-clause-ended : goal.content-returns-clause-ended
unfolding Ended
content-returns-clause-ended t c = sym c.loop-kinds-test.ensures

pub item-piece-requires : goal.item-piece-requires
item-piece-requires t c =
    (c.requires.in_text.0, goes_within c.args.text.now c.args.here.at c.requires.in_text.1, record { goes = c.requires.in_text.1; none = sym c.if-not-opens_element.ensures })

pub item-returns-then-not-opens_element : goal.item-returns-then-not-opens_element
item-returns-then-not-opens_element t c = c.piece.ensures c.args.depth

pub item-tag-requires-clause-at_in_bounds : goal.item-tag-requires-clause-at_in_bounds
item-tag-requires-clause-at_in_bounds t c = goes_within c.args.text.now c.args.here.at c.requires.in_text.1

pub item-tag-requires-clause-looks : goal.item-tag-requires-clause-looks
item-tag-requires-clause-looks t c = tag_sure c.args.text.now c.args.here c.requires.in_text.0 c.requires.in_text.1 (sym c.if-not-opens_element.ensures) c.args.depth c.args.kinds.now c.requires.sure

pub item-returns-in_default : goal.item-returns-in_default
item-returns-in_default t c =
    tag_refused c.args.text.now c.args.here c.requires.in_text.0 c.requires.in_text.1 (sym c.if-not-opens_element.ensures) c.args.depth c.args.kinds.now (tag_broken c.args.here.at _ c.in_default.ensures)

pub item-returns-then-depth-eq0 : goal.item-returns-then-depth-eq0
item-returns-then-depth-eq0 t c =
    let found = tag_whole _ _ _ c.in-Some.ensures in
    found_deep c.args.text.now c.args.here c.requires.in_text.0 c.requires.in_text.1 (sym c.if-not-opens_element.ensures) _ _ _ found _ _ c.if-depth-eq0.true

pub item-returns-then-found : goal.item-returns-then-found
item-returns-then-found t c =
    let found = tag_whole _ _ _ c.in-Some.ensures in
    found_lone c.args.text.now c.args.here c.requires.in_text.0 c.requires.in_text.1 (sym c.if-not-opens_element.ensures) _ _ _ found c.args.depth c.args.kinds.now _ _ c.if-depth-eq0.false
    c.opened-from.ensures.cursor c.opened-from.ensures.list _ _
    c.if-found.true (ap (λ (a : Cursor). Ok a) c.closed.ensures.cursor) c.closed.ensures.list

pub item-content-requires : goal.item-content-requires
item-content-requires t c =
    let found = tag_whole _ _ _ c.in-Some.ensures in
    let left = c.if-depth-eq0.false in (
      omega (arith, c.decreases, left),
      (
        (
          found_inside c.args.text.now c.args.here c.requires.in_text.0 c.requires.in_text.1 (sym c.if-not-opens_element.ensures) _ _ _ found c.args.depth c.args.kinds.now _ _ c.if-depth-eq0.false
              c.opened-from.ensures.cursor c.opened-from.ensures.list,
          omega (arith, c.requires.in_text),
        ),
        found_sure c.args.text.now c.args.here c.requires.in_text.0 c.requires.in_text.1 (sym c.if-not-opens_element.ensures) _ _ _ found c.args.depth c.args.kinds.now _ _ c.if-depth-eq0.false
            c.opened-from.ensures.cursor c.opened-from.ensures.list
            c.if-found.false c.requires.sure,
      ),
    )

pub item-returns-in_err-c : goal.item-returns-in_err-c
item-returns-in_err-c t c =
    let p = err_from_is_err_and c.from_residual.result c.from_residual.ensures.1 in
    let found = tag_whole _ _ _ c.in-Some.ensures in
    rw (p.1, p.2)
    (rw c.in_err-c.was at (found_refused c.args.text.now c.args.here c.requires.in_text.0 c.requires.in_text.1 (sym c.if-not-opens_element.ensures) _ _ _ found c.args.depth c.args.kinds.now _ _ c.if-depth-eq0.false
    c.opened-from.ensures.cursor c.opened-from.ensures.list _ _
    c.if-found.false c.content.ensures.reads _ c.in_err-c.was))

pub item-slice_bounds-ending-count : goal.item-slice_bounds-ending-count
item-slice_bounds-ending-count t c =
    let found = tag_whole _ _ _ c.in-Some.ensures in
    omega (arith, (places c.args.text.now c.args.here c.requires.in_text.0 c.requires.in_text.1 (sym c.if-not-opens_element.ensures) _ _ _ found).name_least)

pub item-slice_bounds-ending-start : goal.item-slice_bounds-ending-start
item-slice_bounds-ending-start t c =
    let found = tag_whole _ _ _ c.in-Some.ensures in
    omega (arith, (places c.args.text.now c.args.here c.requires.in_text.0 c.requires.in_text.1 (sym c.if-not-opens_element.ensures) _ _ _ found).name_least)

pub item-slice_bounds-ending-end : goal.item-slice_bounds-ending-end
item-slice_bounds-ending-end t c =
    let found = tag_whole _ _ _ c.in-Some.ensures in
    (places c.args.text.now c.args.here c.requires.in_text.0 c.requires.in_text.1 (sym c.if-not-opens_element.ensures) _ _ _ found).name_most

pub item-ending-requires : goal.item-ending-requires
item-ending-requires t c = ended_at _ _ _ _ _ _ _ _ c.content.ensures.reads c.content.ensures.ended c.in_ok-c.was

pub item-returns : goal.item-returns
item-returns t c =
    let found = tag_whole _ _ _ c.in-Some.ensures in
    found_element c.args.text.now c.args.here c.requires.in_text.0 c.requires.in_text.1 (sym c.if-not-opens_element.ensures) _ _ _ found c.args.depth c.args.kinds.now _ _ c.if-depth-eq0.false
    c.opened-from.ensures.cursor c.opened-from.ensures.list _ _
    c.if-found.false c.content.ensures.reads _ _ _ _ c.in_ok-c.was refl c.ending.ensures
