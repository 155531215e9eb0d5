-- The specimens of specs/Specimens.antt hold: the checker computes its tables. Assumes nothing.
use mathlib.Core.Path.{◌≡◌, refl}
use mathlib.Core.Bool.{true}
use Rattle.lists.specs.Lists.{same, all_hold, numbers}
use Rattle.tree.specs.Row.{place, insert_at, rises}
use Rattle.tree.specs.Forest.{leaves, labels, joined, leaf_row, parts, spread, put, split_height, within_limits}
use Rattle.tree.specs.Book.{label_of, base, power_width, under_from, load_under, loaded, root_full, root_split, put_inside, inserted, split_of, moved_among, moved, root_within, book_within}
use Rattle.tree.specs.Reach.{reach_bound}
use Rattle.tree.specs.Grown.{in_splits, path, in_node, grown_node, full_height, grown_in, height_for, grown_split, grown}
use Rattle.tree.specs.Specimens.{shows, puts_hold, history_holds, given_holds, nodes, fronts_move, front_holds, row_holds, tables_hold}

pub specimens : tables_hold ≡ true
unfolding numbers place insert_at rises leaves labels joined leaf_row parts spread put split_height within_limits label_of base power_width under_from load_under loaded root_full root_split put_inside inserted split_of moved_among moved root_within book_within reach_bound in_splits path in_node grown_node full_height grown_in height_for grown_split grown same all_hold shows puts_hold history_holds given_holds nodes fronts_move front_holds row_holds tables_hold
specimens = refl
