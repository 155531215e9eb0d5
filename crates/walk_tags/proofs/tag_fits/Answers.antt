-- `walk_tags::tag_fits` meets its contract. Assumes nothing.
use mathlib.Core.Path.{refl}
use native.Mathlib.Omega.{arith}
use Rattle.words.proofs.Fields.{room}
use Rattle.walk_tags.proofs.TestLaws.{stands_there, beside_below, beside_at, beside_there, tag_not, tag_large, tag_unfit, tag_links, tag_kind}
use Rattle.walk_tags.proofs.tag_fits.Goals as goal

pub get_at-requires : goal.get_at-requires
get_at-requires c = (stands_there c.requires.0, omega arith)

pub returns-then-get_at-prior : goal.returns-then-get_at-prior
returns-then-get_at-prior c = tag_not _ _ _ _ _ _ c.requires.0 (c.get_at.ensures _ c.requires.0.there) c.if-get_at-prior.true

pub get_at-kind-requires : goal.get_at-kind-requires
get_at-kind-requires c = (stands_there c.requires.0, omega arith)

pub returns-then-kind-ge32 : goal.returns-then-kind-ge32
returns-then-kind-ge32 c = tag_large _ _ _ _ _ _ c.requires.0 (c.get_at.ensures _ c.requires.0.there) c.if-get_at-prior.false (c.get_at-kind.ensures _ c.requires.0.there) c.if-kind-ge32.true

pub get_at-requires-2 : goal.get_at-requires-2
get_at-requires-2 c =
    let below = beside_below _ _ _ _ _ _ c.requires.0 (c.get_at.ensures _ c.requires.0.there) c.if-get_at-prior.false (c.get_at-kind.ensures _ c.requires.0.there) refl in
    (beside_there c.requires.0 c.beside-q.ensures below, omega arith)

pub returns-then-not-may_stand : goal.returns-then-not-may_stand
returns-then-not-may_stand c = tag_unfit _ _ _ _ _ _ c.requires.0 (c.get_at.ensures _ c.requires.0.there) c.if-get_at-prior.false
    (c.get_at-kind.ensures _ c.requires.0.there) c.if-kind-ge32.false refl
    (c.get_at-2.ensures _ (beside_at c.requires.0 c.beside-q.ensures)) c.requires.1 c.may_stand.ensures c.if-not-may_stand.true-raw

pub links_fit-requires : goal.links_fit-requires
links_fit-requires c =
    let prior = c.get_at.ensures _ c.requires.0.there in
    let word = c.get_at-kind.ensures _ c.requires.0.there in
    let below = beside_below _ _ _ _ _ _ c.requires.0 prior c.if-get_at-prior.false word refl in
    let kinds = tag_kind _ _ _ _ _ _ c.requires.0 prior c.if-get_at-prior.false word c.if-kind-ge32.false refl
    (c.get_at-2.ensures _ (beside_at c.requires.0 c.beside-q.ensures)) c.requires.1 c.may_stand.ensures c.if-not-may_stand.false-raw in
    (record { room = room c.requires.0.records c.requires.0.below; there = c.requires.0.there; beside = beside_there c.requires.0 c.beside-q.ensures below }, kinds)

pub returns : goal.returns
returns c = let here = beside_at c.requires.0 c.beside-q.ensures in
    tag_links _ _ _ _ _ _ c.requires.0 (c.get_at.ensures _ c.requires.0.there) c.if-get_at-prior.false
    (c.get_at-kind.ensures _ c.requires.0.there) c.if-kind-ge32.false
    refl (c.get_at-2.ensures _ here) c.requires.1
    c.may_stand.ensures c.if-not-may_stand.false-raw (c.links_fit.ensures _ here)
