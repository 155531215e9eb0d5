use mathlib.Core.Path.{refl, sym}
use native.Mathlib.Omega.{arith}
use Rattle.xml_attributes.proofs.NextLaws.{next_order, next_long}
use Rattle.xml_tag.proofs.FilterMarks.{place_within}
use Rattle.xml_tag.proofs.GatherSteps.{gathering_start, gathering_count, gathering_turn, gathering_closes, gathering_broken, gathering_over}
use Rattle.xml_tag.proofs.gather.gather.Goals as goal

pub loop-at-init : goal.loop-at-init
loop-at-init c = gathering_start _ _ _ _ c.requires refl

pub next_in_tag-requires : goal.next_in_tag-requires
next_in_tag-requires c = c.loop-at.invariant.met.within

pub returns-in-Closer : goal.returns-in-Closer
returns-in-Closer c = gathering_closes c.loop-at.invariant _ _ (sym (rw c.in-Closer.is at c.in_ok-end.ensures))

pub returns-in_err-end : goal.returns-in_err-end
returns-in_err-end c = rw c.from_residual.ensures (gathering_broken c.loop-at.invariant (sym c.in_err-end.ensures))

pub slice_bounds-filter_place-count : goal.slice_bounds-filter_place-count
slice_bounds-filter_place-count c = let o = next_order _ _ _ _ _ c.loop-at.invariant.met.within (sym (rw c.in-Attribute.is at c.in_ok-end.ensures)) in omega arith

pub slice_bounds-filter_place-start : goal.slice_bounds-filter_place-start
slice_bounds-filter_place-start c = let o = next_order _ _ _ _ _ c.loop-at.invariant.met.within (sym (rw c.in-Attribute.is at c.in_ok-end.ensures)) in omega arith

pub slice_bounds-filter_place-end : goal.slice_bounds-filter_place-end
slice_bounds-filter_place-end c = let o = next_order _ _ _ _ _ c.loop-at.invariant.met.within (sym (rw c.in-Attribute.is at c.in_ok-end.ensures)) in omega arith

pub filter_place-place-requires : goal.filter_place-place-requires
filter_place-place-requires c = next_long _ _ _ _ _ (sym (rw c.in-Attribute.is at c.in_ok-end.ensures))

pub bounds-filter-place : goal.bounds-filter-place
bounds-filter-place c = rw c.filter_place-place.ensures (place_within _)

pub bounds-filter-place-in-Attribute : goal.bounds-filter-place-in-Attribute
bounds-filter-place-in-Attribute c = rw c.filter_place-place.ensures (place_within _)

pub note-count-requires : goal.note-count-requires
note-count-requires c =
    omega (arith, gathering_count c.loop-at.invariant, c.loop-at-test.true, c.well_formed.0.0)

pub loop-at-smaller : goal.loop-at-smaller
loop-at-smaller c =
    let o = next_order _ _ _ _ _ c.loop-at.invariant.met.within (sym (rw c.in-Attribute.is at c.in_ok-end.ensures)) in
    omega arith

pub loop-at-preserved : goal.loop-at-preserved
loop-at-preserved c =
    rw (c.note-count.ensures.count, c.note-count.ensures.starts) (gathering_turn c.loop-at.invariant _ _ _ (sym (rw c.in-Attribute.is at c.in_ok-end.ensures)) _ c.filter_place-place.ensures (rw c.note-count.ensures.starts at c.note-count.ensures.room))

pub returns : goal.returns
returns c = gathering_over c.loop-at.invariant c.loop-at-test.false
