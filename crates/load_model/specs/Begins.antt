-- Where the nodes of a load begin (document 01, "The tree"), place by place. Follows the code of crate load_nodes. Assumes nothing:
-- these are definitions.
use Rattle.std.specs.Prelude.{◌≡◌, cond, List, ℕ, zero, suc, ◌+◌, ◌*◌, ◌≤◌, ◌<◌, leb, eqb, length, set}
use Rattle.powers.specs.Tables.{entry, table_length}
use Rattle.shape.specs.Sums.{cut}

-- behind a node over `each` leaves that begins at place i of n, the place where the next one of its height begins: n where there is
-- none, since the last takes all that remain
unfoldable pub next_begin : (i n each : ℕ) → ℕ
next_begin i n each = cond (leb (i + 2 * each) n) (i + each) n

-- a label, and the places where the next nodes begin: the j-th is that of height j + 1
pub record Front : Type 0 where
  pub label : ℕ
  pub begins : List ℕ

-- at place i the nodes that begin there, from height j + 1 on: each takes the label a gap further. Where none of a height begins,
-- none above it does
unfoldable pub begun : (most j : ℕ) → (gaps lows : List ℕ) → (n i label : ℕ) → (begins : List ℕ) → Front
begun zero j gaps lo n i l begins = record { label = l; begins = begins }
begun (suc m) j gaps lo n i l begins =
    let stays : Front = record { label = l; begins = begins } in
    let goes = begun m (suc j) gaps lo n i (cut (l + entry gaps j)) (set begins j (next_begin i n (entry lo j))) in
    cond (eqb (entry begins j) i) goes stays

-- before any tag is written: behind the first node of each of u heights the next one
pub record FirstBegins (n u : ℕ) (lows begins : List ℕ) : Type 0 where
  pub size : length begins ≡ table_length
  pub next : (h : ℕ) → h < u → entry begins h ≡ next_begin 0 n (entry lows h)
  pub none : (h : ℕ) → u ≤ h → h < table_length → entry begins h ≡ n
