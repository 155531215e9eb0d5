-- Plans as the code makes them: what it reads is what edit_model's Insert reads, and numbers and heights fit; and a plan done.
-- Assumes nothing.
use mathlib.Core.Path.{◌≡◌, ap, ◌∙◌}
use mathlib.Core.Bool.{Bool, true, false, ◌||◌, cond}
use mathlib.Core.List.{List}
use Prim.Native.Nat.{ℕ, zero, suc, pred, ◌+◌, ◌*◌, ◌-◌, ◌/◌, ◌^◌, ◌≤◌, ◌<◌}
use native.Mathlib.Nat.{mul-le-mul, div-le_self}
use native.Mathlib.Numerals.{add-one, sub-one}
use native.Mathlib.Omega.{arith}
use borrow.Author.Tests.{ne_eqb, lt-ltb, leb-true}
use lib.Dec.{leb, ltb, eqb}
use Rattle.store_types.specs.Limits.{no_tag, most_tags}
use Rattle.lists.proofs.Tests.{by_test}
use Rattle.store_types.specs.Layout.{at_count, at_next, at_height, field, label_at, with_label, word_at}
use Rattle.words.specs.Places.{behind}
use Rattle.words.proofs.PlaceLaws.{place_in}
use Rattle.powers.specs.Tables.{entry, entry_limit, table_length}
use Rattle.shape.specs.Packed.{widths_in, lows_in, highs_in, numbers_in, s_in, r_in}
use Rattle.shape.specs.declared.Tables as by_height
use Rattle.shape.specs.Sums.{cut}
use Rattle.shape.proofs.Sums.{labels_cut, cut_small}
use Rattle.tree.specs.Grown.{in_splits, in_node, path, height_for}
use Rattle.tree_laws.proofs.Spread.{some_power}
use Rattle.tree_laws.proofs.PathLaws.{splits_most}
use Rattle.calls.specs.Words.{follow}
use Rattle.edit_model.specs.Relabel.{Relabelled, issued, shift}
use Rattle.edit_model.specs.Split.{Border, highest_full, left_border}
use Rattle.edit_model.specs.Insert.{Plan, numbers_at, plain_plan, root_plan, split_plan, plan, applied}
use Rattle.edit_model.proofs.Kept.{relabel_header}
use Rattle.relabel.specs.Needs.{RowThere, RowNumbered}
use Rattle.relabel.proofs.Rows.{moved_one}
use Rattle.splits.specs.declared.Border as border_code
use Rattle.splits.specs.Needs.{PathFit, BorderIs}
use Rattle.splits.proofs.Cuts.{splits_lower}
use Rattle.renumber.specs.Needs.{NumbersFit, path_numbered}
use Rattle.renumber.proofs.Paths.{path_moved}
use Rattle.insert_plan.specs.Parts.{border_record, next_label, inner_plan}
use Rattle.insert_plan.specs.Needs.{PlainReads, NodeFits, SplitFits, PlanReads, Applicable}

-- THE NUMBER behind a place y: t says whether it is the front
module _ (ws : List ℕ) (y : ℕ) {t : Bool} (e : t ≡ eqb y no_tag) where
  pub next_front : (v : ℕ) → t ≡ true → 0 ≡ next_label ws y v
  unfolding next_label
  next_front v p = rw (← e, p)

  pub next_tag : {l q : ℕ} (v : ℕ) → t ≡ false → l ≡ label_at ws y → q ≡ cut (l + v) → q ≡ next_label ws y v
  unfolding next_label
  next_tag v p own made = rw (← e, p) (made ∙ rw own)

-- THE BORDER of a node, as the mirror says it
pub border_same : {b : border_code.Border} {border : Border} → BorderIs b border → border_record b ≡ border
unfolding border_record
border_same e = rw (e.tag_is, e.steps_are)

-- THE HEIGHT of a split is below the root
height_under : (hi sz : List ℕ) (k m h q t : ℕ) → q ≤ t → m + h ≤ suc t → highest_full hi sz k m h q ≤ t
unfolding highest_full
height_under hi sz k zero h q t l e = l
height_under hi sz k (suc m) h q t l e =
    let full = leb (entry hi h) (entry sz h + k) in
    let low : cond full h q ≤ t = by_test full (λ f. rw f (let m : h ≤ t = omega arith in m)) (λ f. rw f l) in
    height_under hi sz k m (suc h) (cond full h q) t low (omega arith)

pub split_under : (hi sz : List ℕ) (k u : ℕ) → highest_full hi sz k u 1 0 ≤ u
split_under hi sz k u = height_under hi sz k u 1 0 u (omega arith) (omega arith)

-- and its node comes to its limit
abbrev ComesFull : (hi sz : List ℕ) → (k h : ℕ) → Type 0
ComesFull hi sz k h = 1 ≤ h → entry hi h ≤ entry sz h + k

height_full : (hi sz : List ℕ) (k m h q : ℕ) → ComesFull hi sz k q → ComesFull hi sz k (highest_full hi sz k m h q)
unfolding highest_full
height_full hi sz k zero h q l = l
height_full hi sz k (suc m) h q l =
    let full = leb (entry hi h) (entry sz h + k) in
    let here : ComesFull hi sz k (cond full h q) = by_test full (λ f. rw f (λ some. leb-true (entry hi h) (entry sz h + k) f)) (λ f. rw f l) in
    height_full hi sz k m (suc h) (cond full h q) here

pub split_full : (hi sz : List ℕ) (k u : ℕ) → ComesFull hi sz k (highest_full hi sz k u 1 0)
split_full hi sz k u = height_full hi sz k u 1 0 (λ some. absurd (omega arith))

-- found below a root of height `top`
pub found_under : {h q top : ℕ} (hi sz : List ℕ) (k : ℕ) → h ≡ highest_full hi sz k (q - 1) 1 0 → q ≡ top → h ≡ highest_full hi sz k (pred top) 1 0
found_under {q = q} hi sz k e height = e ∙ rw (height, sub-one)

-- HOW MANY GO IN with the splits of a node
pub node_made : (s r h l k : ℕ) {hi first rest t : ℕ} → hi ≡ s * r ^ h → first ≡ hi - l → rest ≡ k - first → t ≡ in_splits s r h rest → first + t ≡ in_node s r h l k
unfolding in_node
node_made s r h l k limit e f g = rw (g, f, e, limit)

-- no more than there are, where the node comes to its limit
pub node_few : (s r h l k : ℕ) → s * r ^ h ≤ l + k → in_node s r h l k ≤ k
unfolding in_node
node_few s r h l k full = omega (arith, splits_most s r h (k - (s * r ^ h - l)))

node_most : (s r h l k : ℕ) → in_node s r h l k ≤ s * r ^ h + k
unfolding in_node
node_most s r h l k = omega (arith, splits_most s r h (k - (s * r ^ h - l)))

pub taken_most : {h k t : ℕ} {tables : by_height.Tables} (l : ℕ) → NodeFits h k tables → t ≡ in_node (s_in tables) (r_in tables) h l k → t ≤ entry_limit + most_tags
taken_most {h} {k} {t} {tables} l asked e =
    omega (arith, node_most (s_in tables) (r_in tables) h l k, asked.splits.highs h (omega arith), asked.limit, asked.few)

-- A SPLIT NODE in numbers: t tags go in with its splits
module _ {h l k t : ℕ} {tables : by_height.Tables} (asked : SplitFits h l k tables) (is : t ≡ in_node (s_in tables) (r_in tables) h l k) where
  pub taken_few : t ≤ most_tags
  taken_few =
      let full : s_in tables * r_in tables ^ h ≤ l + k = omega (arith, asked.full, asked.node.splits.highs h (omega arith)) in
      omega (arith, node_few (s_in tables) (r_in tables) h l k full, asked.node.few)

  pub low_is : {low : ℕ} → low ≡ entry (lows_in tables) h → low ≡ r_in tables ^ h
  low_is e = e ∙ asked.node.splits.lows h (omega arith)

  pub low_some : {low : ℕ} → low ≡ entry (lows_in tables) h → 1 ≤ low
  low_some e = omega (arith, low_is e, some_power (r_in tables) h asked.node.splits.degree_r)

  -- so are the trees, whatever each takes
  pub trees_few : (each : ℕ) → (l + t) / each ≤ 400000
  trees_few each = omega (arith, div-le_self (l + t) each, taken_few, asked.size)

-- EACH PLAN
-- so many times a width fits
pub times_width : {k width v : ℕ} (most : ℕ) → k ≤ most → width ≡ v → v ≤ entry_limit → k * width ≤ most * entry_limit
times_width {width = width} most few e narrow = let wide : width ≤ entry_limit = rw e narrow in mul-le-mul few wide

pub plain_made : (ws w : List ℕ) (k u y : ℕ) {a b c v end by : ℕ} → a ≡ entry (numbers_at ws w u y) 1 → b ≡ entry w 0 → c ≡ entry w 1 → v ≡ next_label ws y b → end ≡ cut (a + c) →
    by ≡ cut (k * b) → ◌≡◌ {A = Plan} (record { height = 0; left = y; number = v; count = k; cursor = k; rest = 0; bound = end; by = by }) (plain_plan ws w k u y)
unfolding plain_plan next_label
plain_made ws w k u y parent width next e bound by = rw (by, bound, e, parent, width, next)

pub split_made : (s r : ℕ) (w ns : List ℕ) (h l k : ℕ) (b : Border) {t low trees width number next wide left end by : ℕ} →
    t ≡ in_node s r h l k → low ≡ r ^ h → trees ≡ (l + t) / low - 1 → width ≡ entry w h → by ≡ cut (trees * width) →
    next ≡ entry ns (h + 1) → wide ≡ entry w (h + 1) → end ≡ cut (next + wide) → number ≡ entry ns h → left ≡ k - t →
    ◌≡◌ {A = Plan} (record { height = h; left = b.tag; number = number; count = l + k; cursor = b.steps + t; rest = left; bound = end; by = by }) (split_plan s r w ns h l k b)
unfolding split_plan
split_made s r w ns h l k b taken low trees width by next wide bound number left = rw (by, trees, low, width, bound, next, wide, number, left, taken, add-one)

pub root_made : (s r h n k : ℕ) (b : Border) {steps issued t left : ℕ} → issued ≡ n → steps ≡ b.steps → t ≡ in_node s r h issued k → left ≡ k - t →
    ◌≡◌ {A = Plan} (record { height = h; left = no_tag; number = 0; count = issued + k; cursor = steps + t; rest = left; bound = 0; by = 0 }) (root_plan s r h n k b)
unfolding root_plan
root_made s r h n k b count steps taken left = rw (left, taken, steps, count)

-- where the root is not split: h is the height that was found
module _ (ws : List ℕ) (t : by_height.Tables) (sz : List ℕ) (n k u y : ℕ) {h : ℕ} (found : h ≡ highest_full (highs_in t) sz k u 1 0) where
  pub inner_plain : {p : Plan} → h ≡ 0 → p ≡ plain_plan ws (widths_in t) k u y → p ≡ inner_plan ws t sz n k u y
  unfolding inner_plan
  inner_plain z e = rw (← found, z) e

  -- the node of height h is split: b is its border, and the tables have the numbers of the ancestors
  pub inner_split : {low : ℕ} {b : border_code.Border} {p : Plan} → (h ≡ 0 → ⊥) → numbers_in t ≡ numbers_at ws (widths_in t) u y → low ≡ entry (numbers_in t) h →
      BorderIs b (left_border n n ws low y) → p ≡ split_plan (s_in t) (r_in t) (widths_in t) (numbers_in t) h (entry sz h) k (border_record b) → p ≡ inner_plan ws t sz n k u y
  unfolding inner_plan
  inner_split z numbers low border e = e ∙ rw (border_same border, low, numbers, ← found, ne_eqb h 0 z)

-- what it asks there
module _ {ws : List ℕ} {t : by_height.Tables} {sz : List ℕ} {k y : ℕ} (asked : PlanReads ws k y t sz) where
  pub plain_asks : {parent : ℕ} → parent ≡ entry (numbers_in t) 1 → PlainReads ws y k parent t
  plain_asks e =
      record {
        few = asked.node.few;
        place = place_in asked.records asked.place;
        parent_is = e ∙ ap (λ (ns : List ℕ). entry ns 1) asked.numbers_are;
        parent_fits = rw e (asked.numbers 1);
        widths = asked.widths;
      }

  module _ {h : ℕ} (found : h ≡ highest_full (highs_in t) sz k (pred (word_at ws at_height)) 1 0) where
    pub found_low : h ≤ pred (word_at ws at_height)
    found_low = rw found (split_under (highs_in t) sz k (pred (word_at ws at_height)))

    pub found_inside : h < table_length
    found_inside = omega (arith, found_low, asked.high)

    pub split_asks : (h ≡ 0 → ⊥) → SplitFits h (entry sz h) k t
    split_asks z =
        let some : 1 ≤ h = omega arith in
        let full : ComesFull (highs_in t) sz k h = rw found (split_full (highs_in t) sz k (pred (word_at ws at_height))) in
        record {
          node = record { few = asked.node.few; splits = splits_lower asked.node.splits h found_low; limit = asked.limits h };
          size = asked.sizes_few h some found_low;
          full = full some;
          widths = asked.widths;
          numbers = asked.numbers;
        }

-- THE WHOLE PLAN: the root is split where its height grows, else not
module _ (ws sz : List ℕ) (n k u y : ℕ) where
  pub plan_root : (s r : ℕ) (w hi : List ℕ) → suc u < height_for k s r (n + k) (suc u) →
      root_plan s r (pred (height_for k s r (n + k) (suc u))) n k (left_border n n ws 0 y) ≡ plan ws s r w hi sz n k u y
  unfolding plan
  plan_root s r w hi l = rw (lt-ltb (suc u) (height_for k s r (n + k) (suc u)) l)

  pub plan_inner : (t : by_height.Tables) → ltb (suc u) (height_for k (s_in t) (r_in t) (n + k) (suc u)) ≡ false →
      inner_plan ws t sz n k u y ≡ plan ws (s_in t) (r_in t) (widths_in t) (highs_in t) sz n k u y
  unfolding plan inner_plan
  plan_inner t e = rw e

  -- it shifts by a label
  pub plan_by : (s r : ℕ) (w hi : List ℕ) → (plan ws s r w hi sz n k u y).by ≤ entry_limit
  unfolding plan root_plan plain_plan split_plan
  plan_by s r w hi =
      let h = highest_full hi sz k u 1 0 in
      by_test (ltb (suc u) (height_for k s r (n + k) (suc u))) (λ e. rw e (omega arith))
      (λ e. rw e (by_test (eqb h 0) (λ z. rw z (omega (arith, cut_small (k * entry w 0))))
      (λ z. rw z (omega (arith, cut_small (((entry sz h + in_node s r h (entry sz h) k) / r ^ h - 1) * entry w h))))))

-- a shift moves no more than its steps
shift_few : (k n : ℕ) (ws : List ℕ) (x b d : ℕ) → (shift k n ws x b d).moved ≤ k
unfolding shift
shift_few zero n ws x b d = omega arith
shift_few (suc k) n ws x b d =
    let label = cut (label_at ws x + d) in
    by_test (leb n x || leb b (label_at ws x)) (λ e. rw e (omega arith))
    (λ e. rw e (omega (arith, moved_one ws x label, shift_few k n (with_label ws x label) (field ws x at_next) b d)))

-- A PLAN DONE: the row is numbered from x on with a as the first number, and the tags from `next` on are shifted
module _ (ws : List ℕ) (t : by_height.Tables) (p : Plan) {x a : ℕ} (start : x ≡ behind ws p.left) (number : a ≡ cut p.number) where
  pub number_asks : Applicable ws p t → RowThere ws x p.count × PathFit p.height p.count p.cursor p.rest t × NumbersFit p.height a t
  number_asks asked = (rw start asked.row, asked.path, rw number asked.numbers)

  module _ {next m : ℕ} {vs : List ℕ} (numbered : RowNumbered ws vs (path_numbered ws t p.height p.cursor p.rest a x p.count) x p.count next m) where
    -- there are as many tags
    pub count_kept : issued vs ≡ issued ws
    unfolding path_numbered
    count_kept = ap issued numbered.words ∙ relabel_header at_count (omega arith) _ _ ws

    cut_number : path_numbered ws t p.height p.cursor p.rest a x p.count ≡ path_numbered ws t p.height p.cursor p.rest p.number x p.count
    unfolding path_numbered
    cut_number =
        rw (number, labels_cut (path (s_in t) (r_in t) p.height p.cursor p.rest (follow p.count ws x)) (entry (widths_in t)) p.height p.number)

    pub applied_by : {us : List ℕ} {d : ℕ} → us ≡ (shift (issued vs) (issued vs) vs next p.bound p.by).words → d ≡ (shift (issued vs) (issued vs) vs next p.bound p.by).moved →
        (us ≡ (applied ws (widths_in t) (s_in t) (r_in t) (issued ws) p).words) × (m + d ≡ (applied ws (widths_in t) (s_in t) (r_in t) (issued ws) p).moved)
    unfolding applied path_numbered
    applied_by e f =
        let q : vs ≡ (path_numbered ws t p.height p.cursor p.rest p.number x p.count).words = numbered.words ∙ ap (λ (t : Relabelled). t.words) cut_number in
        let moved : m ≡ (path_numbered ws t p.height p.cursor p.rest p.number x p.count).moved = numbered.moved ∙ ap (λ (t : Relabelled). t.moved) cut_number in
        (rw count_kept at e ∙ rw (q, numbered.next, start), rw (rw count_kept at f, moved, q, numbered.next, start))

    -- few tags move, whatever the bound of the shift and whatever it adds
    pub moved_few : (b k : ℕ) {d : ℕ} → d ≡ (shift (issued vs) (issued vs) vs next b k).moved → m + d ≤ p.count + issued ws
    moved_few b k e =
        omega (arith, numbered.moved, path_moved ws t p.height p.cursor p.rest a x p.count, shift_few (issued vs) (issued vs) vs next b k, count_kept)
