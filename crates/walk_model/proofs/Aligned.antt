-- One label of the pass that decides soundness, seen at each height: where every width divides the next, open nodes are
-- numbered by multiples of their widths, and a label within such a node leaves it open, with its size not taken yet; any
-- other closes it and opens one that is numbered by the label. Assumes nothing.
use mathlib.Core.Path.{◌≡◌, refl, ap, sym, ◌∙◌}
use mathlib.Core.Bool.{Bool, true, false, ◌&&◌, not, cond, false≢true}
use mathlib.Core.List.{List}
use Prim.Native.Nat.{ℕ, zero, suc, ◌+◌, ◌-◌, ◌≤◌, ◌<◌, ◌∣◌}
use native.Mathlib.Nat.{dvd_refl, dvd_trans, dvd-add, dvd-sub, le_of_dvd, zero-add, suc-add, one-dvd}
use native.Mathlib.Omega.{arith}
use borrow.Author.Tests.{ltb-true, ltb-false, eqb-true, eqb-false, not-true}
use lib.Dec.{ltb, eqb}
use lib.ListN.{length, length-set}
use lib.Seq.{get_or-set_same, get_or-set_other}
use Rattle.lists.proofs.Tests.{and_left, and_right, by_test}
use Rattle.store_types.specs.Limits.{label_limit}
use Rattle.powers.specs.Tables.{entry, table_length}
use Rattle.shape.specs.Sums.{cut}
use Rattle.shape.proofs.Sums.{cut_below}
use Rattle.walk_model.specs.Levels.{Tables, Levels, Settled, closes, settle, place_label}
use Rattle.walk_model.specs.Watch.{taken, settle_sizes, place_sizes}
use Rattle.walk_model.proofs.Spine.{opened, settle_stays, settle_higher, settle_fails}

-- of two multiples the greater is a step away at least
pub next_multiple : (v a c : ℕ) → v ∣ a → v ∣ c → a < c → a + v ≤ c
next_multiple v a c p q less = let most : v ≤ c - a = le_of_dvd (omega arith) (dvd-sub _ q p) in omega arith

-- widths of which each divides the next divide all higher ones
widths_divide : (w : ℕ → ℕ) → ((g : ℕ) → w g ∣ w (suc g)) → (d g : ℕ) → w g ∣ w (d + g)
widths_divide w divides zero g = rw zero-add (dvd_refl (w g))
widths_divide w divides (suc d) g = rw suc-add (dvd_trans _ (widths_divide w divides d g) (divides (d + g)))

-- the clauses of `settle_sizes`
sizes_stay : (w ns : List ℕ) (k h l i : ℕ) (v : Levels) (sz : List ℕ) → ltb l (entry v.ends h) ≡ true → settle_sizes w ns (suc k) h l i v sz ≡ sz
unfolding settle_sizes
sizes_stay w ns k h l i v sz e = rw e

sizes_higher : (t : Tables) (ns : List ℕ) (k h l i : ℕ) (v : Levels) (sz : List ℕ) → ltb l (entry v.ends h) ≡ false →
    settle_sizes t.widths ns (suc k) h l i v sz ≡ settle_sizes t.widths ns k (suc h) l i (opened t v h l i) (taken t.widths ns h i v sz)
unfolding settle_sizes
sizes_higher t ns k h l i v sz e = rw e

-- levels and sizes that are the same at height g
pub record Same (v z : Levels) (old new : List ℕ) (g : ℕ) : Type 0 where
  pub ends : entry z.ends g ≡ entry v.ends g
  pub firsts : entry z.firsts g ≡ entry v.firsts g
  pub sizes : entry new g ≡ entry old g

same : {v : Levels} {sz : List ℕ} {g : ℕ} → Same v v sz sz g
same = record { ends = refl; firsts = refl; sizes = refl }

same_on : {v y z : Levels} {old mid new : List ℕ} {g : ℕ} → Same v y old mid g → Same y z mid new g → Same v z old new g
same_on a b = record { ends = b.ends ∙ a.ends; firsts = b.firsts ∙ a.firsts; sizes = b.sizes ∙ a.sizes }

-- the size at height g where the open node of that height closes
abbrev pub size_taken : (w : ℕ → ℕ) (ns : List ℕ) (i : ℕ) (v : Levels) (sz : List ℕ) (g : ℕ) → ℕ
size_taken w ns i v sz g = cond (eqb (entry v.ends g) (cut (entry ns g + w g))) (i - entry v.firsts g) (entry sz g)

-- height g under a label l at place i
pub data Step (w : ℕ → ℕ) (ns : List ℕ) (v z : Levels) (old new : List ℕ) (l i g : ℕ) : Type 0 where
  stays : l < entry v.ends g → Same v z old new g → Step w ns v z old new l i g
  opens : entry v.ends g ≤ l → w g ∣ l → entry z.ends g ≡ l + w g → entry z.firsts g ≡ i → entry new g ≡ size_taken w ns i v old g →
      Step w ns v z old new l i g

step_on : {w : ℕ → ℕ} {ns : List ℕ} {v y z : Levels} {old mid new : List ℕ} {l i g : ℕ} → Same v y old mid g → Step w ns y z mid new l i g → Step w ns v z old new l i g
step_on s (stays n k) = stays (rw s.ends at n) (same_on s k)
step_on s (opens n d e f k) = opens (rw s.ends at n) d e f (rw (s.ends, s.firsts, s.sizes) at k)

-- lists of an entry for each height
pub record Long (v : Levels) (sz : List ℕ) : Type 0 where
  pub ends : length v.ends ≡ table_length
  pub firsts : length v.firsts ≡ table_length
  pub sizes : length sz ≡ table_length

-- all heights from suc c to u, where those below are kept
pub record Stepped (w : ℕ → ℕ) (ns : List ℕ) (v z : Levels) (old new : List ℕ) (l i c u : ℕ) : Type 0 where
  pub long : Long z new
  pub kept : (g : ℕ) → g ≤ c → Same v z old new g
  pub steps : (g : ℕ) → c < g → g ≤ u → Step w ns v z old new l i g
  pub aligned : w c ∣ l

-- the open node of height g is numbered by a multiple of its width, and has the label `last`
pub record OpenAt (w : ℕ → ℕ) (v : Levels) (g last : ℕ) : Type 0 where
  pub number : ℕ
  pub aligned : w g ∣ number
  pub end_is : entry v.ends g ≡ number + w g
  pub low : number ≤ last
  pub high : last < number + w g

-- tables of widths of which each divides the next, up to the root's, which a label can hold
pub record Divided (w : ℕ → ℕ) (u : ℕ) (t : Tables) : Type 0 where
  pub fits : u < table_length
  pub wide : (g : ℕ) → g ≤ u → entry t.widths g ≡ w g
  pub first : w 0 ≡ 1
  pub divides : (g : ℕ) → w g ∣ w (suc g)
  pub least : (g : ℕ) → 1 ≤ w g
  pub narrow : w (suc u) < label_limit

-- the end of an open node is a multiple of its width
end_aligned : {w : ℕ → ℕ} {v : Levels} {g last : ℕ} → OpenAt w v g last → w g ∣ entry v.ends g
end_aligned {w} {v} {g} o = rw o.end_is (dvd-add _ o.aligned (dvd_refl (w g)))

module _ {w : ℕ → ℕ} {u : ℕ} {t : Tables} (tables : Divided w u t) (ns : List ℕ) where
  -- a node of a height below the root's that is numbered within the root ends there too, so that no end of one is cut
  multiple_within : (g l : ℕ) → g ≤ u → w g ∣ l → l < w (suc u) → l + w g < label_limit
  multiple_within g l fits d inside =
      let e : suc u - g + g ≡ suc u = omega arith in
      let wider : w g ∣ w (suc u) = rw e at (widths_divide w tables.divides (suc u - g) g) in
      omega (arith, next_multiple (w g) l (w (suc u)) d wider inside, tables.narrow)

  -- of the nodes around a label the higher ones end later, or there too
  nested : {v : Levels} {last : ℕ} (g h : ℕ) → g ≤ h → OpenAt w v g last → OpenAt w v h last → entry v.ends g ≤ entry v.ends h
  nested {v} {last} g h order a b =
      let e : h - g + g ≡ h = omega arith in
      let wider : w g ∣ w h = rw e at (widths_divide w tables.divides (h - g) g) in
      let inside : a.number < entry v.ends h = omega (arith, a.low, b.high, b.end_is) in
      let next = next_multiple (w g) a.number (entry v.ends h) a.aligned (dvd_trans _ wider (end_aligned b)) inside in
      omega (arith, a.end_is)

  -- NOTHING CLOSES where the label is within the lowest of the nodes
  still : {v : Levels} {sz : List ℕ} {l i c last : ℕ} → Long v sz → ((g : ℕ) → c < g → g ≤ u → OpenAt w v g last) → l < entry v.ends (suc c) →
      w c ∣ l → Stepped w ns v v sz sz l i c u
  still {c} long nodes inside d = record {
    long = long;
    kept = λ g n. same;
    steps = λ g n m. stays (omega (arith, nested (suc c) g n (nodes (suc c) (omega arith) (omega arith)) (nodes g n m))) same;
    aligned = d;
  }

  -- ONE NODE CLOSES: what this changes at its own height, and that it changes no other
  closing_same : (v : Levels) (sz : List ℕ) (c l i g : ℕ) → (g ≡ suc c → ⊥) → Same v (opened t v (suc c) l i) sz (taken t.widths ns (suc c) i v sz) g
  unfolding taken
  closing_same v sz c l i g other = record {
    ends = get_or-set_other v.ends (suc c) g _ 0 (omega arith);
    firsts = get_or-set_other v.firsts (suc c) g _ 0 (omega arith);
    sizes = get_or-set_other sz (suc c) g _ 0 (omega arith);
  }

  closing_long : {v : Levels} {sz : List ℕ} (c l i : ℕ) → Long v sz → Long (opened t v (suc c) l i) (taken t.widths ns (suc c) i v sz)
  unfolding taken
  closing_long {v} {sz} c l i long = record {
    ends = length-set v.ends _ _ ∙ long.ends;
    firsts = length-set v.firsts _ _ ∙ long.firsts;
    sizes = length-set sz _ _ ∙ long.sizes;
  }

  closing_step : {v z : Levels} {old new : List ℕ} (c l i : ℕ) → c < u → l < w (suc u) → Long v old → entry v.ends (suc c) ≤ l → w (suc c) ∣ l →
      Same (opened t v (suc c) l i) z (taken t.widths ns (suc c) i v old) new (suc c) → Step w ns v z old new l i (suc c)
  unfolding taken
  closing_step {v} {z} {old} c l i fits inside long past d kept =
      let width = tables.wide (suc c) fits in
      opens past d
      (kept.ends ∙ get_or-set_same v.ends (suc c) _ 0 (omega (arith, long.ends, tables.fits)) ∙ rw width (cut_below (l + w (suc c)) (multiple_within (suc c) l fits d inside)))
      (kept.firsts ∙ get_or-set_same v.firsts (suc c) i 0 (omega (arith, long.firsts, tables.fits)))
      (kept.sizes ∙ get_or-set_same old (suc c) _ 0 (omega (arith, long.sizes, tables.fits)) ∙ rw width)

  closed_on : {v z : Levels} {old new : List ℕ} {l i c : ℕ} → c < u → l < w (suc u) → Long v old → entry v.ends (suc c) ≤ l →
      Stepped w ns (opened t v (suc c) l i) z (taken t.widths ns (suc c) i v old) new l i (suc c) u → Stepped w ns v z old new l i c u
  closed_on {v} {z} {old} {new} {l} {i} {c} fits inside long past s = record {
    long = s.long;
    kept = λ g n. same_on (closing_same v old c l i g (omega arith)) (s.kept g (omega arith));
    steps = λ g n m. by_test (eqb g (suc c))
        (λ e. rw (eqb-true g (suc c) e) (closing_step c l i fits inside long past s.aligned (s.kept (suc c) (omega arith))))
        (λ e. let other = eqb-false g (suc c) e in step_on (closing_same v old c l i g other) (s.steps g (omega arith) m));
    aligned = dvd_trans _ (tables.divides c) s.aligned;
  }

  -- NODES CLOSE from height suc c on
  settle_steps : (k c : ℕ) (exact : Bool) (l i last : ℕ) (v : Levels) (sz new : List ℕ) (q : Settled) → settle t k (suc c) exact l i v ≡ q →
      settle_sizes t.widths ns k (suc c) l i v sz ≡ new → c + k ≡ u → l < w (suc u) → Long v sz → ((g : ℕ) → c < g → g ≤ u → OpenAt w v g last) →
      (exact ≡ true → w c ∣ l) → q.ok ≡ true → Stepped w ns v q.levels sz new l i c u
  unfolding settle settle_sizes
  settle_steps zero c exact l i last v sz new q e d m inside long nodes x o =
      let b = and_left exact (ltb l (entry v.ends (suc c))) (ap (λ z. z.ok) e ∙ o) in
      rw (sym (ap (λ z. z.levels) e), sym d)
      (record { long = long; kept = λ g n. same; steps = λ g n k. absurd (omega arith); aligned = x b })
  settle_steps (suc k) c exact l i last v sz new q e d m inside long nodes x o =
      let end = entry v.ends (suc c) in
      by_test (ltb l end)
      (λ below.
      let p = sym (settle_stays t k (suc c) exact l i v below) ∙ e in
      rw (sym (ap (λ z. z.levels) p), sym d ∙ sizes_stay t.widths ns k (suc c) l i v sz below)
      (still long nodes (ltb-true l end below) (x (ap (λ z. z.ok) p ∙ o))))
      (λ above. by_test (closes t (suc c) (entry v.firsts (suc c)) i)
      (λ shut.
      let own = nodes (suc c) (omega arith) (omega arith) in
      let higher : (g : ℕ) → suc c < g → g ≤ u → OpenAt w (opened t v (suc c) l i) g last = λ g n j.
      let node = nodes g (omega arith) j in
      record {
        number = node.number;
        aligned = node.aligned;
        end_is = (closing_same v sz c l i g (omega arith)).ends ∙ node.end_is;
        low = node.low;
        high = node.high;
      } in
      closed_on (omega arith) inside long (ltb-false l end above) (
      settle_steps k (suc c) (eqb end l) l i last (opened t v (suc c) l i) (taken t.widths ns (suc c) i v sz) new q
      (sym (settle_higher t k (suc c) exact l i v above shut) ∙ e) (sym (sizes_higher t ns k (suc c) l i v sz above) ∙ d) (omega arith) inside (closing_long c l i long) higher
      (λ there. rw (← eqb-true end l there) (end_aligned own)) o))
      (λ fails. absurd (false≢true (ap (λ z. z.ok) (sym (settle_fails t k (suc c) exact l i v above fails) ∙ e) ∙ o))))

  -- A LABEL that is accepted, with or without closing
  pub place_steps : (e l i last : ℕ) (v : Levels) (sz : List ℕ) → e ≤ entry v.ends 1 → l < w (suc u) → Long v sz → ((g : ℕ) → 1 ≤ g → g ≤ u → OpenAt w v g last) →
      (place_label t u e l i v).ok ≡ true → Stepped w ns v (place_label t u e l i v).levels sz (place_sizes t.widths ns u e l i v sz) l i 0 u
  unfolding place_label place_sizes
  place_steps e l i last v sz due inside long nodes o =
      let end = entry v.ends 1 in
      by_test (eqb l e && not (eqb l end))
      (λ next.
      let same = eqb-true l e (and_left (eqb l e) (not (eqb l end)) next) in
      let other = eqb-false l end (not-true _ (and_right (eqb l e) (not (eqb l end)) next)) in
      rw next (still long nodes (omega arith) (rw tables.first (one-dvd l))))
      (λ later. rw later (settle_steps u 0 false l i last v sz _ _ refl refl (zero-add u) inside long nodes (λ x. absurd (false≢true x)) (rw later at o)))

  -- and the open nodes then
  pub nodes_after : {v z : Levels} {old new : List ℕ} {l i g last : ℕ} → last ≤ l → OpenAt w v g last → Step w ns v z old new l i g → OpenAt w z g l
  nodes_after {l} {g} order o (stays n k) = record {
    number = o.number;
    aligned = o.aligned;
    end_is = k.ends ∙ o.end_is;
    low = omega (arith, o.low);
    high = omega (arith, o.end_is);
  }
  nodes_after {l} {g} order o (opens n d e f k) =
      record { number = l; aligned = d; end_is = e; low = omega arith; high = omega (arith, tables.least g) }
