-- The sizes that the pass takes (specs/Watch.antt): of each height below the root that of the ancestor of the watched
-- place. Assumes nothing.
use mathlib.Core.Path.{◌≡◌, refl, ap, sym, ◌∙◌}
use mathlib.Core.Bool.{true, cond}
use mathlib.Core.List.{List, [], ◌∷◌, map}
use Prim.Native.Nat.{ℕ, zero, suc, pred, ◌+◌, ◌*◌, ◌-◌, ◌^◌, ◌≤◌, ◌<◌, ◌∣◌}
use native.Mathlib.Nat.{dvd-zero, dvd_trans, dvd-add, dvd-mul_left, le_refl, zero-add}
use native.Mathlib.Omega.{arith}
use borrow.Author.Tests.{lt-ltb, le-leb, lt-leb, eq-eqb, ne_eqb, ltb-true, ltb-false, eqb-true, eqb-false}
use lib.Dec.{ltb, eqb}
use lib.ListN.{length, get_or, set, length-set, length-replicate, get_or-replicate}
use lib.Seq.{get_or-set_same, get_or-set_other}
use Rattle.lists.specs.Lists.{how_many}
use Rattle.lists.proofs.Tests.{and_left, and_right, by_test}
use Rattle.store_types.specs.Limits.{label_limit}
use Rattle.store_types.specs.Layout.{at_height, at_count, at_first, word_at, label_at}
use Rattle.powers.specs.Tables.{entry, table_length}
use Rattle.shape.specs.Sums.{cut}
use Rattle.shape.proofs.Sums.{cut_below, cut_most}
use Rattle.tree.specs.Good.{Good}
use Rattle.tree.specs.Forest.{Forest, size, labels}
use Rattle.tree.specs.Book.{labels_of}
use Rattle.tree.specs.Reach.{size_in}
use Rattle.tree.specs.Promise.{Widths}
use Rattle.tree_laws.proofs.Spread.{some_power}
use Rattle.tree_laws.proofs.Labels.{Rising, rising_lower, rising_order, children_fit, node_rising, width_least}
use Rattle.tree_laws.proofs.Ancestors.{count_within, count_above, node_number, number_top, number_next, found, size_count}
use Rattle.calls.specs.Store.{Store, count, row, width}
use Rattle.calls.specs.Words.{Says, follow, header_width}
use Rattle.calls_laws.proofs.Widths.{store_widths, header_unit, header_divides}
use Rattle.calls_laws.proofs.WordSteps.{header_said, width_said, row_said, labels_said}
use Rattle.walk_model.specs.Levels.{Tables, Levels, start_levels, place_label, labels_pass}
use Rattle.walk_model.specs.Walk.{Shape, State, placed, passed, shape_of, start}
use Rattle.words.specs.Places.{watched_label}
use Rattle.walk_model.specs.Watch.{taken, place_sizes, close_sizes, walk_sizes, watched_numbers, sizes_at}
use Rattle.walk_model.proofs.Levels.{levels_right}
use Rattle.walk_model.proofs.Shapes.{Header, widths_given, tables_right}
use Rattle.walk_model.proofs.WalkRight.{given, facts, good, row_walked}
use Rattle.walk_model.proofs.Numbers.{numbers_below}
use Rattle.walk_model.proofs.Aligned.{next_multiple, size_taken, Step, stays, opens, Long, OpenAt, Divided, place_steps, nodes_after}

-- THE SIZES ALONG LABELS, as the walk takes them along its row
abbrev labels_sizes : Tables → (numbers : List ℕ) → (under expect i : ℕ) → Levels → (labels sizes : List ℕ) → List ℕ
labels_sizes t ns u e i v [] sz = close_sizes t.widths ns u 1 i v sz
labels_sizes t ns u e i v (l ∷ ls) sz =
    labels_sizes t ns u (cut (l + entry t.widths 0)) (suc i) (place_label t u e l i v).levels ls (place_sizes t.widths ns u e l i v sz)

walk_labels : (ws : List ℕ) (k : Shape) (ns : List ℕ) (m i : ℕ) (v : State) (sz : List ℕ) → i + m ≡ k.n →
    walk_sizes ws k ns m i v sz ≡ labels_sizes k.tables ns k.under v.expect i v.levels (map (label_at ws) (follow m ws v.tag)) sz
unfolding walk_sizes follow passed placed
walk_labels ws k ns zero i v sz e = let end : k.n ≡ i = omega arith in rw end
walk_labels ws k ns (suc m) i v sz e = walk_labels ws k ns m (suc i) (passed ws k i v) _ (omega arith)

-- at the end every open node below the root closes
close_kept : (t ns : List ℕ) (k j i : ℕ) (v : Levels) (sz : List ℕ) (h : ℕ) → h < j → entry (close_sizes t ns k j i v sz) h ≡ entry sz h
unfolding close_sizes taken
close_kept t ns zero j i v sz h low = refl
close_kept t ns (suc k) j i v sz h low = close_kept t ns k (suc j) i v _ h (omega arith) ∙ get_or-set_other sz j h _ 0 (omega arith)

-- a label within bounds counts, one below does not
count_inside : (a b l : ℕ) (ls : List ℕ) → a ≤ l → l < b → count_within a b (l ∷ ls) ≡ suc (count_within a b ls)
unfolding how_many
count_inside a b l ls low high = rw (le-leb a l low, lt-ltb l b high) (omega arith)

count_outside : (a b l : ℕ) (ls : List ℕ) → l < a → count_within a b (l ∷ ls) ≡ count_within a b ls
unfolding how_many
count_outside a b l ls low = rw (lt-leb a l low) (omega arith)

-- WHAT COMES OUT at height h, where the node of number n is watched there, by where the open node is: at n, past it, or
-- before it and n to come
record Due (n v : ℕ) (end first old i : ℕ) (ls : List ℕ) (out : ℕ) : Type 0 where
  here : end ≡ n + v → out ≡ i - first + count_within n (n + v) ls
  past : n + v < end → out ≡ old
  later : end < n + v → 1 ≤ count_within n (n + v) ls → out ≡ count_within n (n + v) ls

module _ {w : ℕ → ℕ} {u : ℕ} {t : Tables} (tables : Divided w u t) (ns : List ℕ) (h n : ℕ) (least : 1 ≤ h) (most : h ≤ u)
    (watched : entry ns h ≡ n) (aligned : w h ∣ n) (ends : n + w h < label_limit) where
  abbrev DueAt : (i : ℕ) (v : Levels) (sz ls : List ℕ) (out : ℕ) → Type 0
  DueAt i v sz ls out = Due n (w h) (entry v.ends h) (entry v.firsts h) (entry sz h) i ls out

  watched_end : cut (n + w h) ≡ n + w h
  watched_end = cut_below (n + w h) ends

  -- the size taken where the open node closes, by whether it is the watched one
  taken_own : (i : ℕ) (v : Levels) (sz : List ℕ) → entry v.ends h ≡ n + w h → size_taken w ns i v sz h ≡ i - entry v.firsts h
  taken_own i v sz e = rw (watched, watched_end, eq-eqb (entry v.ends h) (n + w h) e)

  taken_past : (i : ℕ) (v : Levels) (sz : List ℕ) → n + w h < entry v.ends h → size_taken w ns i v sz h ≡ entry sz h
  taken_past i v sz e = rw (watched, watched_end, ne_eqb (entry v.ends h) (n + w h) (omega arith))

  -- at the end
  close_at : (k j i : ℕ) (v : Levels) (sz : List ℕ) → j ≤ h → h < j + k → length sz ≡ table_length →
      entry (close_sizes t.widths ns k j i v sz) h ≡ size_taken w ns i v sz h
  unfolding close_sizes taken
  close_at zero j i v sz low high long = absurd (omega arith)
  close_at (suc k) j i v sz low high long =
      let next = set sz j (cond (eqb (entry v.ends j) (cut (entry ns j + entry t.widths j))) (i - entry v.firsts j) (entry sz j)) in
      by_test (eqb h j)
      (λ e.
      let same = eqb-true h j e in
      close_kept t.widths ns k (suc j) i v next h (omega arith)
      ∙ rw same (get_or-set_same sz j _ 0 (omega (arith, tables.fits)) ∙ rw (← same, tables.wide h most)))
      (λ e.
      let other = eqb-false h j e in
      close_at k (suc j) i v next (omega arith) (omega arith) (length-set sz j _ ∙ long)
      ∙ rw (get_or-set_other sz j h _ 0 (omega arith)))

  due_end : (i : ℕ) (v : Levels) (sz : List ℕ) (out : ℕ) → out ≡ size_taken w ns i v sz h → DueAt i v sz [] out
  unfolding how_many
  due_end i v sz out e = record {
    here = λ d. omega (arith, e, taken_own i v sz d);
    past = λ d. e ∙ taken_past i v sz d;
    later = λ d some. absurd (omega arith);
  }

  -- one label more in front: what comes out is due before it if it is behind it
  due_before : {v z : Levels} {sz new : List ℕ} {l i last out : ℕ} (b : ℕ) (ls : List ℕ) → OpenAt w v h last → last ≤ l → entry v.firsts h ≤ i →
      Rising (suc l) b ls → Step w ns v z sz new l i h → DueAt (suc i) z new ls out → DueAt i v sz (l ∷ ls) out
  due_before {v} {z} {sz} {new} {l} {i} b ls o order begun rest (stays inside k) d =
      let next = next_multiple (w h) o.number n o.aligned aligned in
      record {
        here = λ e. omega (arith, d.here (k.ends ∙ e), k.firsts, count_inside n (n + w h) l ls (omega (arith, o.end_is, o.low)) (omega arith));
        past = λ e. d.past (rw k.ends e) ∙ k.sizes;
        later = λ e some.
            let skip = count_outside n (n + w h) l ls (omega (arith, o.end_is, next (omega (arith, o.end_is)))) in
            d.later (rw k.ends e) (omega arith) ∙ sym skip;
      }
  due_before {v} {z} {sz} {new} {l} {i} b ls o order begun rest (opens outside there end first now) d =
      let from_here : Rising l b (l ∷ ls) = (le_refl l, rest) in
      let wide = tables.least h in
      record {
        here = λ e.
            omega (
              arith,
              d.past (omega arith),
              now,
              taken_own i v sz e,
              count_above n (n + w h) l b (l ∷ ls) from_here (omega arith),
            );
        past = λ e. d.past (omega arith) ∙ now ∙ taken_past i v sz e;
        later = λ e some. by_test (ltb l n)
            (λ y.
            let below = ltb-true l n y in
            let skip = count_outside n (n + w h) l ls below in
            d.later (omega arith) (omega arith) ∙ sym skip)
            (λ y. by_test (eqb l n)
            (λ m.
            let own = eqb-true l n m in
            omega (arith, d.here (omega arith), count_inside n (n + w h) l ls (omega arith) (omega arith)))
            (λ m.
            let far : n + w h ≤ l = next_multiple (w h) n l aligned there (omega (arith, ltb-false l n y, eqb-false l n m)) in
            absurd (omega (arith, count_above n (n + w h) l b (l ∷ ls) from_here far))));
      }

  first_after : {v z : Levels} {sz new : List ℕ} {l i : ℕ} → entry v.firsts h ≤ i → Step w ns v z sz new l i h → entry z.firsts h ≤ suc i
  first_after begun (stays inside k) = omega (arith, k.firsts)
  first_after begun (opens outside there end first now) = omega arith

  -- ALONG LABELS THAT PASS
  labels_due : (ls : List ℕ) (e i last b : ℕ) (v : Levels) (sz : List ℕ) → Long v sz → ((g : ℕ) → 1 ≤ g → g ≤ u → OpenAt w v g last) →
      entry v.firsts h ≤ i → e ≤ entry v.ends 1 → b ≤ w (suc u) → Rising last b ls → labels_pass t u e i v ls ≡ true → DueAt i v sz ls (entry (labels_sizes t ns u e i v ls sz) h)
  unfolding labels_pass
  labels_due [] e i last b v sz long nodes begun waits bound rising pass = due_end i v sz _ (close_at u 1 i v sz least (omega arith) long.sizes)
  labels_due (l ∷ ls) e i last b v sz long nodes begun waits bound rising pass =
      let q = place_label t u e l i v in
      let rest = labels_pass t u (cut (l + entry t.widths 0)) (suc i) q.levels ls in
      let inside : l < w (suc u) = omega (arith, rising_order (suc l) b ls rising.1) in
      let s = place_steps tables ns e l i last v sz waits inside long nodes (and_left q.ok rest pass) in
      let up = rising.0 in
      let after : (g : ℕ) → 1 ≤ g → g ≤ u → OpenAt w q.levels g l = λ g y z. nodes_after tables ns up (nodes g y z) (s.steps g y z) in
      let own = after 1 (omega arith) (omega arith) in
      let next : cut (l + entry t.widths 0) ≤ entry q.levels.ends 1 =
      omega (arith, cut_most (l + entry t.widths 0), tables.wide 0 (omega arith), tables.first, own.end_is, own.high) in
      due_before b ls (nodes h least most) up begun rising.1 (s.steps h least most) (
      labels_due ls (cut (l + entry t.widths 0)) (suc i) l b q.levels _ s.long after
      (first_after begun (s.steps h least most)) next bound (rising_lower (suc l) l b ls (omega arith) rising.1) (and_right q.ok rest pass))

-- IN A GOOD FOREST: the numbers of ancestors are multiples of their widths
number_aligned : (w : ℕ → ℕ) → ((g : ℕ) → w g ∣ w (suc g)) → (f : Forest) (u p d h : ℕ) → d + h ≡ u → w h ∣ node_number f w u h p 0
number_aligned w divides f u p zero h e =
    let top = number_top f w u p 0 in
    let same : h ≡ u = omega arith in
    rw (same, top.1, zero-add) (dvd-mul_left (w u) top.0)
number_aligned w divides f u p (suc d) h e =
    let next = number_next f w u h p 0 (omega arith) in
    let parent = number_aligned w divides f u p d (suc h) (omega arith) in
    rw next.1 (dvd-add _ (dvd_trans _ (divides h) parent) (dvd-mul_left (w h) next.0))

forest_sizes : {s r : ℕ} {w : ℕ → ℕ} {u : ℕ} {t : Tables} → 2 ≤ s → 2 ≤ r → Widths s r w → Divided w u t → length t.widths ≡ table_length →
    (f : Forest) → Good s r f u → size f < s * r ^ suc u → (p : ℕ) → p ≤ size f → 1 ≤ size f → labels_pass t u 0 0 (start_levels t) (labels f w u 0) ≡ true →
    (ns sz : List ℕ) → length sz ≡ table_length → (g : ℕ) → g < u → entry ns (suc g) ≡ node_number f w u (suc g) p 0 →
    entry (labels_sizes t ns u 0 0 (start_levels t) (labels f w u 0) sz) (suc g) ≡ size_in f u (suc g) p
unfolding start_levels
forest_sizes {s} {r} {w} {u} {t} s_least r_least widths tables long f good most p fits some pass ns sz sizes g below watched =
    let h = suc g in
    let n = node_number f w u h p 0 in
    let d = found s_least r_least widths f u g p 0 good below fits some in
    let e : u - h + h ≡ u = omega arith in
    let ends : n + w h < label_limit =
    omega (arith, d.number_is, rising_order _ _ d.after d.high, children_fit s_least r_least widths f u good most, tables.narrow) in
    let first = get_or-replicate {A = ℕ} table_length h 0 0 (omega (arith, tables.fits)) in
    let end = tables.wide h below in
    let nodes : (j : ℕ) → 1 ≤ j → j ≤ u → OpenAt w (start_levels t) j 0 =
    λ j l m. record { number = 0; aligned = dvd-zero (w j); end_is = omega (arith, tables.wide j m); low = omega arith; high = omega (arith, tables.least j) } in
    let due = labels_due tables ns h n (omega arith) below watched (number_aligned w tables.divides f u p (u - h) h e) ends
    (labels f w u 0) 0 0 0 (w (suc u)) (start_levels t) sz (record { ends = long; firsts = length-replicate {A = ℕ} table_length 0; sizes = sizes }) nodes
    (omega arith) (omega arith) (le_refl (w (suc u))) (rw zero-add at (node_rising s_least r_least widths f u 0 good most)) pass in
    let counted = size_count s_least r_least widths d in
    by_test (eqb n 0)
    (λ y. let zeroth = eqb-true n 0 y in omega (arith, due.here (omega arith), counted))
    (λ y. let behind = eqb-false n 0 y in due.later (omega arith) (omega (arith, counted, d.size_is, d.least, some_power r h r_least)) ∙ counted)

-- IN WORDS THAT SAY A STORE: the sizes of the ancestors of a place p, where the label before it is watched (the first, where
-- p is 0)
given_tables : {ws : List ℕ} {s r u n : ℕ} → Header ws s r u n → Divided (header_width ws) u (shape_of ws).tables
given_tables {ws} {u = u} h =
    let t = tables_right h in
    record {
      fits = omega (arith, t.top_fits);
      wide = λ g l. t.widths g (omega arith);
      first = header_unit ws;
      divides = header_divides ws;
      least = λ g. width_least h.degrees.s_least h.degrees.r_least (widths_given h) g;
      narrow = t.narrow (suc u) (le_refl (suc u));
    }

module _ (ws : List ℕ) (st : Store) (said : Says ws st) (p y : ℕ) (fits : p ≤ count st) (some : 1 ≤ count st)
    (LabelIs : watched_label ws y ≡ get_or (labels_of (width st) st.book) (p - 1) 0) where
  under_is : pred (word_at ws at_height) ≡ st.book.under
  under_is = ap pred (header_said ws st said).levels

  tables_said : Divided (width st) st.book.under (shape_of ws).tables
  tables_said = rw (width_said ws st said) at (given_tables (facts ws st said))

  -- the numbers that are watched
  numbers_watched : (h : ℕ) → 1 ≤ h → h ≤ st.book.under → entry (watched_numbers ws y) h ≡ node_number st.book.root (width st) st.book.under h p 0
  unfolding watched_numbers
  numbers_watched =
      let k = st.book in
      let as_many = (given ws st said).as_many in
      let head = facts ws st said in
      rw (under_is, LabelIs)
      (numbers_below head.degrees.s_least head.degrees.r_least (store_widths st) (shape_of ws).tables.widths k.root k.under p
      (good ws st said) (omega arith) (omega arith) tables_said.wide (omega (arith, (tables_right head).top_fits)))

  -- the labels that the walk meets
  labels_met : map (label_at ws) (follow (word_at ws at_count) ws (word_at ws at_first)) ≡ labels_of (width st) st.book
  labels_met =
      let many : word_at ws at_count ≡ length (row st) = (header_said ws st said).issued ∙ sym (given ws st said).as_many in
      rw (many, row_said ws st said) (labels_said ws st said)

  pub sizes_right : (sz : List ℕ) → length sz ≡ table_length → (h : ℕ) → 1 ≤ h → h ≤ st.book.under →
      entry (sizes_at ws y sz) h ≡ size_in st.book.root st.book.under h p
  unfolding sizes_at start start_levels shape_of
  sizes_right sz long zero low high = absurd (omega arith)
  sizes_right sz long (suc g) low high =
      let k = st.book in
      let as_many = (given ws st said).as_many in
      let head = facts ws st said in
      let all = (shape_of ws).tables in
      let pass : labels_pass all k.under 0 0 (start_levels all) (labels_of (width st) k) ≡ true =
      rw (labels_said ws st said, under_is) at (row_walked ws st said levels_right).labels in
      ap (λ (z : List ℕ). entry z (suc g)) (walk_labels ws (shape_of ws) (watched_numbers ws y) (word_at ws at_count) 0 (start ws) sz (zero-add _))
      ∙ rw (labels_met, under_is)
      (forest_sizes head.degrees.s_least head.degrees.r_least (store_widths st) tables_said (tables_right head).long k.root
      (good ws st said) (omega (arith, head.below)) p (omega arith) (omega arith) pass (watched_numbers ws y) sz long g high (numbers_watched (suc g) low high))
