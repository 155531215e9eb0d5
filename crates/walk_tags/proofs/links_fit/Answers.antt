-- `walk_tags::links_fit` meets its contract. Assumes nothing.
use Prim.Native.Nat.{◌%◌}
use mathlib.Core.Path.{refl}
use native.Mathlib.Omega.{arith}
use lib.Dec.{eqb}
use Rattle.walk_tags.proofs.TestLaws.{own_there, open_place_fits, back_place, back_place_fits, partner_fits, picked_there, links_open_not, links_up_not, links_back}
use Rattle.walk_tags.proofs.links_fit.Goals as goal

pub get_at-open-requires : goal.get_at-open-requires
get_at-open-requires c =
    (own_there c.requires.0, open_place_fits c.args.kind c.at_end.ensures)

pub returns-then-open-parent : goal.returns-then-open-parent
returns-then-open-parent c = λ d e.
    links_open_not _ _ _ _ d _ c.at_end.ensures (c.get_at-open.ensures _ c.requires.0.there) c.if-open-parent.true

pub get_at-requires : goal.get_at-requires
get_at-requires c =
    (partner_fits c.args.kind _ c.partner-p.ensures c.requires.0.beside (own_there c.requires.0), omega arith)

pub returns-then-up-get_at : goal.returns-then-up-get_at
returns-then-up-get_at c = λ d e.
    links_up_not _ _ _ _ d _ c.at_end.ensures (c.get_at-open.ensures _ c.requires.0.there) c.if-open-parent.false
    (c.get_at-up.ensures _ c.requires.0.there) refl
    (c.get_at.ensures _ (picked_there (eqb (c.args.kind % 16) 2) d c.args.x.0 c.partner-p.ensures e c.requires.0.there)) c.if-up-get_at.true

pub get_at-back-requires : goal.get_at-back-requires
get_at-back-requires c = (
  partner_fits c.args.kind _ c.partner-p.ensures c.requires.0.beside (own_there c.requires.0),
  back_place_fits c.args.kind (back_place c.args.kind c.requires.1),
)

pub returns : goal.returns
returns c = λ d e.
    let here = picked_there (eqb (c.args.kind % 16) 2) d c.args.x.0 c.partner-p.ensures e c.requires.0.there in
    links_back _ _ _ _ d _ c.at_end.ensures (c.get_at-open.ensures _ c.requires.0.there) c.if-open-parent.false
    (c.get_at-up.ensures _ c.requires.0.there) refl (c.get_at.ensures _ here) c.if-up-get_at.false
    (back_place c.args.kind c.requires.1) (c.get_at-back.ensures _ here) c.at_begin.ensures
