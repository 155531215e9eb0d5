-- How many leaves the ancestors of a place have, found in the pass that decides soundness: of each height below the root
-- the node of a given number is watched, and its size is taken where it closes. Follows the code of crate walk_levels.
-- Assumes nothing: these are definitions.
use Rattle.std.specs.Prelude.{◌≡◌, ◌&&◌, not, cond, List, ℕ, zero, suc, pred, ◌+◌, ◌*◌, ◌-◌, ◌/◌, ◌≤◌, ltb, eqb, set, replicate}
use Rattle.store_types.specs.Layout.{at_height, at_count, word_at, label_at}
use Rattle.words.specs.Places.{watched_label}
use Rattle.powers.specs.Tables.{entry, entry_limit, table_length}
use Rattle.shape.specs.Tables.{widths_of, lows_of, highs_of}
use Rattle.shape.specs.Packed.{Packed, numbers_in}
use Rattle.shape.specs.declared.Tables as by_height
use Rattle.shape.specs.Sums.{cut}
use Rattle.walk_model.specs.Levels.{Levels}
use Rattle.walk_model.specs.Walk.{Shape, State, passed, shape_of, start}

-- the number of the ancestor of each height, from the top down: that of height `left` from that of the one above it
unfoldable pub ancestor_numbers : (widths : List ℕ) → (left label above : ℕ) → (numbers : List ℕ) → List ℕ
ancestor_numbers w zero l a ns = ns
ancestor_numbers w (suc h) l a ns =
    let inner = a + (l - a) / entry w (suc h) * entry w (suc h) in ancestor_numbers w h l inner (set ns (suc h) inner)

-- the node of height h closes before place i: if it is the watched one, its size is taken
unfoldable pub taken : (widths numbers : List ℕ) → (h i : ℕ) → Levels → (sizes : List ℕ) → List ℕ
taken w ns h i v sz =
    set sz h (cond (eqb (entry v.ends h) (cut (entry ns h + entry w h))) (i - entry v.firsts h) (entry sz h))

-- the sizes beside settle, place_label and all_close, where these pass
unfoldable pub settle_sizes : (widths numbers : List ℕ) → (left h label i : ℕ) → Levels → (sizes : List ℕ) → List ℕ
settle_sizes w ns zero h l i v sz = sz
settle_sizes w ns (suc m) h l i v sz =
    let opened : Levels = record { ends = set v.ends h (cut (l + entry w h)); firsts = set v.firsts h i } in
    let higher = settle_sizes w ns m (suc h) l i opened (taken w ns h i v sz) in
    cond (ltb l (entry v.ends h)) sz higher

unfoldable pub place_sizes : (widths numbers : List ℕ) → (under expect label i : ℕ) → Levels → (sizes : List ℕ) → List ℕ
place_sizes w ns u expect l i v sz =
    let closing = settle_sizes w ns u 1 l i v sz in cond (eqb l expect && not (eqb l (entry v.ends 1))) sz closing

unfoldable pub close_sizes : (widths numbers : List ℕ) → (left h i : ℕ) → Levels → (sizes : List ℕ) → List ℕ
close_sizes w ns zero h i v sz = sz
close_sizes w ns (suc m) h i v sz = close_sizes w ns m (suc h) i v (taken w ns h i v sz)

unfoldable pub walk_sizes : List ℕ → Shape → (numbers : List ℕ) → (left i : ℕ) → State → (sizes : List ℕ) → List ℕ
walk_sizes ws shape ns zero i v sz = close_sizes shape.tables.widths ns shape.under 1 shape.n v.levels sz
walk_sizes ws shape ns (suc m) i v sz =
    let placed = place_sizes shape.tables.widths ns shape.under v.expect (label_at ws v.tag) i v.levels sz in
    walk_sizes ws shape ns m (suc i) (passed ws shape i v) placed

unfoldable pub watched_numbers : List ℕ → (place : ℕ) → List ℕ
watched_numbers ws y = ancestor_numbers (shape_of ws).tables.widths (pred (word_at ws at_height)) (watched_label ws y) 0 (replicate table_length 0)

-- four tables: those of the words, and the numbers of the ancestors of a place
pub record TablesAt (ws : List ℕ) (y : ℕ) (tables : by_height.Tables) : Type 0 where
  pub packed : Packed tables (widths_of ws) (lows_of ws) (highs_of ws)
  pub numbers : numbers_in tables ≡ watched_numbers ws y
  pub fit : (h : ℕ) → entry (numbers_in tables) h ≤ entry_limit

-- the sizes of the ancestors of a place, over sizes from before
unfoldable pub sizes_at : List ℕ → (place : ℕ) → (sizes : List ℕ) → List ℕ
sizes_at ws y sz = walk_sizes ws (shape_of ws) (watched_numbers ws y) (word_at ws at_count) 0 (start ws) sz
