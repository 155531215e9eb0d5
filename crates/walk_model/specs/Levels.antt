-- Labels in one pass: for each height the open node's end and the place where it began. Follows the code of crate walk_levels.
-- Assumes nothing: these are definitions.
use Rattle.std.specs.Prelude.{Bool, true, false, ◌&&◌, not, cond, List, [], ◌∷◌, ℕ, zero, suc, ◌+◌, ltb, leb, eqb, set, replicate}
use Rattle.powers.specs.Tables.{entry, table_length}
use Rattle.shape.specs.Sums.{cut}

-- by height: the width of a tree, the least leaves of a node, and its limit
pub record Tables : Type 0 where
  pub widths : List ℕ
  pub lows : List ℕ
  pub highs : List ℕ

-- the open nodes by height: the number where each ends, and how many leaves stand before it
pub record Levels : Type 0 where
  pub ends : List ℕ
  pub firsts : List ℕ

-- before the first leaf every node, the root too, is numbered 0
unfoldable pub start_levels : Tables → Levels
start_levels t = record { ends = t.widths; firsts = replicate table_length 0 }

pub record Settled : Type 0 where
  pub ok : Bool
  pub levels : Levels

-- whether a node of height h whose first leaf has place `from` is within its limits where the next leaf has place i
unfoldable pub closes : Tables → (h from i : ℕ) → Bool
closes t h from i = leb (from + entry t.lows h) i && ltb i (from + entry t.highs h)

-- the nodes from height h on that end at or before the label of a leaf at place i are closed, and new ones opened; the
-- highest of them must end just there. `left` heights are left below the root, whose end is met by no label.
unfoldable pub settle : Tables → (left h : ℕ) → (exact : Bool) → (label i : ℕ) → Levels → Settled
settle t zero h exact l i v = record { ok = exact && ltb l (entry v.ends h); levels = v }
settle t (suc m) h exact l i v =
    let opened : Levels = record { ends = set v.ends h (cut (l + entry t.widths h)); firsts = set v.firsts h i } in
    let higher = settle t m (suc h) (eqb (entry v.ends h) l) l i opened in
    let stays : Settled = record { ok = exact; levels = v } in
    let fails : Settled = record { ok = false; levels = v } in
    cond (ltb l (entry v.ends h)) stays (cond (closes t h (entry v.firsts h) i) higher fails)

-- a leaf is the next child of the open node of height 1, unless that ends there, or nodes are closed before it
unfoldable pub place_label : Tables → (under expect label i : ℕ) → Levels → Settled
place_label t u expect l i v =
    let closing = settle t u 1 false l i v in
    let stays : Settled = record { ok = true; levels = v } in
    cond (eqb l expect && not (eqb l (entry v.ends 1))) stays closing

-- at the end, place i, every open node below the root is within its limits
unfoldable pub all_close : Tables → (left h i : ℕ) → Levels → Bool
all_close t zero h i v = true
all_close t (suc m) h i v = closes t h (entry v.firsts h) i && all_close t m (suc h) i v

-- labels along a row from place i on
unfoldable pub labels_pass : Tables → (under expect i : ℕ) → Levels → (labels : List ℕ) → Bool
labels_pass t u expect i v [] = all_close t u 1 i v
labels_pass t u expect i v (l ∷ ls) =
    let q = place_label t u expect l i v in q.ok && labels_pass t u (cut (l + entry t.widths 0)) (suc i) q.levels ls
