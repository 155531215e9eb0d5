-- `insert_link::add_row` meets its contract. Assumes nothing.
use mathlib.Core.Path.{refl}
use native.Mathlib.Omega.{arith}
use Rattle.words.proofs.Fields.{header_long}
use Rattle.words.proofs.PlaceLaws.{place_kept}
use Rattle.insert_link.proofs.Links.{place_of_new, depth_of_new, next_of_new, row_of_new, row_added}
use Rattle.insert_link.proofs.add_row.Goals as goal

pub behind-next-requires : goal.behind-next-requires
behind-next-requires c = place_of_new c.requires

pub up_at-up-requires : goal.up_at-up-requires
up_at-up-requires c = place_of_new c.requires

pub depth_at-depth-requires : goal.depth_at-depth-requires
depth_at-depth-requires c = (place_of_new c.requires, depth_of_new c.requires)

pub write_row-requires : goal.write_row-requires
write_row-requires c =
    row_of_new c.requires refl refl c.up_at-up.ensures (omega (arith, c.depth_at-depth.ensures, c.requires.deep))

pub link_place-requires : goal.link_place-requires
link_place-requires c =
    place_kept (place_of_new c.requires) (omega (arith, c.write_row.auto))

pub link_next-requires : goal.link_next-requires
link_next-requires c =
    place_kept (next_of_new c.requires c.behind-next.ensures) (omega (arith, c.link_place.auto, c.write_row.auto))

pub set_count-requires : goal.set_count-requires
set_count-requires c =
    omega (arith, header_long c.requires.records, c.link_next.auto, c.link_place.auto, c.write_row.auto)

pub returns : goal.returns
returns c =
    row_added _ c.args.kinds.now _ _ _ _ _ _ refl c.behind-next.ensures c.up_at-up.ensures c.depth_at-depth.ensures _ _ _ _ c.write_row.ensures c.link_place.ensures
    c.link_next.ensures c.set_count.ensures
