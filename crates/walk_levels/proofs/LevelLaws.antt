-- Open nodes by height (walk_model's Levels): what each way through the loops that close them says, from what their tests say.
-- Assumes nothing.
use mathlib.Core.Path.{◌≡◌, ap, sym, ◌∙◌}
use mathlib.Core.Bool.{Bool, true, false, ◌&&◌, not, and-eq-true_iff}
use mathlib.Core.Logic.{by_cases}
use mathlib.Core.List.{List}
use Prim.Native.Nat.{ℕ, suc, ◌+◌, ◌-◌, ◌≤◌, ◌<◌}
use native.Mathlib.Numerals.{add-one}
use native.Mathlib.Decide.{ℕ_discrete}
use native.Mathlib.Omega.{arith}
use borrow.Author.Tests.{lt-ltb, le-ltb, le-leb, lt-leb, leb-true, eq-eqb, ne_eqb, not-true, not-false}
use lib.Dec.{eqb, ltb, leb}
use lib.ListN.{get_or, set}
use Rattle.walk_model.specs.Levels.{Levels, Settled, closes, settle, place_label, all_close}
use Rattle.store_types.specs.Limits.{label_limit}
use Rattle.shape.specs.Packed.{widths_in, lows_in, highs_in}
use Rattle.shape.specs.declared.Tables as by_height
use Rattle.shape.specs.Sums.{cut}
use Rattle.walk_levels.specs.declared.Levels as kept
use Rattle.walk_levels.specs.Needs.{LevelsFit, TablesFit, tables_of, levels_of, closes_from, settle_from, place_from, close_from, expected_label}

-- what is asked of the tables at a height that is no higher
pub levels_below : {u : ℕ} {w l hi : List ℕ} (h : ℕ) → h ≤ u → LevelsFit u w l hi → LevelsFit h w l hi
levels_below h p a = record { height = omega arith; widths = a.widths; lows = a.lows; highs = a.highs }

pub tables_below : {u : ℕ} (t : by_height.Tables) (h : ℕ) → h ≤ u → TablesFit u t → TablesFit h t
tables_below t h p a = (levels_below h p a.0, a.1)

-- A NODE'S LIMITS
module _ (lo hi : List ℕ) (h f i : ℕ) where
  pub node_small : i < f + get_or lo h 0 → leb (f + get_or lo h 0) i ≡ closes_from lo hi h f i
  unfolding closes_from closes tables_of
  node_small p = rw (lt-leb (f + get_or lo h 0) i p)

  pub node_rest : f + get_or lo h 0 ≤ i → ltb i (f + get_or hi h 0) ≡ closes_from lo hi h f i
  unfolding closes_from closes tables_of
  node_rest p = rw (le-leb (f + get_or lo h 0) i p)

  -- one that is within them has no leaf before its first
  pub node_first : {t : Bool} → t ≡ closes_from lo hi h f i → not t ≡ false → f ≤ i
  unfolding closes_from closes tables_of
  node_first e p =
      let both = simp and-eq-true_iff at (sym e ∙ not-false _ p) in omega (arith, leb-true (f + get_or lo h 0) i both.0)

-- a height that is left below the root
pub left_more : (under h : ℕ) → h ≤ under → under + 1 - h ≡ suc (under + 1 - (h + 1))
left_more under h p = omega arith

-- AT THE END: t says whether the node of height h is within its limits
module _ (lo hi : List ℕ) (under i : ℕ) (v : kept.Levels) where
  abbrev pub close_at : (h : ℕ) → Bool
  close_at h = all_close (tables_of lo lo hi) (under + 1 - h) h i (levels_of v)

  pub close_start : close_at 1 ≡ close_from lo hi under i v
  unfolding close_from
  close_start = let e : under + 1 - 1 ≡ under = omega arith in rw e

  module _ {whole : Bool} (h : ℕ) (inv : close_at h ≡ whole) where
    pub close_fails : {t : Bool} → h ≤ under → t ≡ closes_from lo hi h (get_or v.firsts h 0) i → not t ≡ true → false ≡ whole
    unfolding all_close levels_of closes_from
    close_fails p e q = rw (left_more under h p, sym e ∙ not-true _ q) at inv

    pub close_more : {t : Bool} → h ≤ under → t ≡ closes_from lo hi h (get_or v.firsts h 0) i → not t ≡ false → close_at (h + 1) ≡ whole
    unfolding all_close levels_of closes_from
    close_more p e q = rw (left_more under h p, sym e ∙ not-false _ q, ← add-one h) at inv

    pub close_end : under < h → true ≡ whole
    unfolding all_close
    close_end p = let e : under + 1 - h ≡ 0 = omega arith in rw e at inv

-- AT A LABEL
-- a new node of height h opens at the label
abbrev pub opened_at : (widths : List ℕ) → (h label i : ℕ) → kept.Levels → kept.Levels
opened_at w h l i v = record { ends = set v.ends h (cut (l + get_or w h 0)); firsts = set v.firsts h i }

settled : {o : Bool} {v : Levels} {q : Settled} → q ≡ record { ok = o; levels = v } → (o ≡ q.ok) × (v ≡ q.levels)
settled e = (ap (λ (x : Settled). x.ok) (sym e), ap (λ (x : Settled). x.levels) (sym e))

module _ (w lo hi : List ℕ) (under l i : ℕ) where
  abbrev pub settle_at : (h : ℕ) → (exact : Bool) → kept.Levels → Settled
  settle_at h x v = settle (tables_of w lo hi) (under + 1 - h) h x l i (levels_of v)

  module _ (h : ℕ) (x : Bool) (v : kept.Levels) {whole : Settled} (inv : settle_at h x v ≡ whole) where
    pub settle_stays : h ≤ under → l < get_or v.ends h 0 → (x ≡ whole.ok) × (levels_of v ≡ whole.levels)
    unfolding settle levels_of
    settle_stays p q = settled (sym inv ∙ rw (left_more under h p, lt-ltb l (get_or v.ends h 0) q))

    pub settle_fails : {t : Bool} → h ≤ under → get_or v.ends h 0 ≤ l → t ≡ closes_from lo hi h (get_or v.firsts h 0) i → not t ≡ true → (false ≡ whole.ok) × (levels_of v ≡ whole.levels)
    unfolding settle closes_from closes levels_of tables_of
    settle_fails p q r s = settled (sym inv ∙ rw (left_more under h p, le-ltb l (get_or v.ends h 0) q, sym r ∙ not-true _ s))

    pub settle_more : {t : Bool} → h ≤ under → get_or v.ends h 0 ≤ l → t ≡ closes_from lo hi h (get_or v.firsts h 0) i → not t ≡ false → settle_at (h + 1) (eqb (get_or v.ends h 0) l) (opened_at w h l i v) ≡ whole
    unfolding settle closes_from closes levels_of tables_of
    settle_more p q r s = rw (left_more under h p, le-ltb l (get_or v.ends h 0) q, sym r ∙ not-false _ s, ← add-one h) at inv

    settle_end : under < h → (o : Bool) → (x && ltb l (get_or v.ends h 0)) ≡ o → (o ≡ whole.ok) × (levels_of v ≡ whole.levels)
    unfolding settle levels_of
    settle_end p o r = let q : under + 1 - h ≡ 0 = omega arith in settled (sym inv ∙ rw (q, r))

    pub settle_end_exact : under < h → x ≡ true → (ltb l (get_or v.ends h 0) ≡ whole.ok) × (levels_of v ≡ whole.levels)
    settle_end_exact p t = settle_end p (ltb l (get_or v.ends h 0)) (rw t)

    pub settle_end_not : under < h → x ≡ false → (x ≡ whole.ok) × (levels_of v ≡ whole.levels)
    settle_end_not p t = settle_end p x (rw t)

pub settle_start : (t : by_height.Tables) (under l i : ℕ) (v : kept.Levels) → settle_at (widths_in t) (lows_in t) (highs_in t) under l i 1 false v ≡ settle_from t under l i v
unfolding settle_from
settle_start t under l i v = let q : under + 1 - 1 ≡ under = omega arith in rw q

-- THE NEXT CHILD, or nodes that close: q is the label that is waited for, where x would come next
module _ (t : by_height.Tables) (u x l i : ℕ) (v : kept.Levels) where
  place_next : l ≡ x → eqb l (get_or v.ends 1 0) ≡ false → (true ≡ (place_from t u x l i v).ok) × (levels_of v ≡ (place_from t u x l i v).levels)
  unfolding place_from place_label levels_of
  place_next p r = settled (rw (eq-eqb l x p, r))

  module _ {o : Bool} {q : Levels} (closing : (o ≡ (settle_from t u l i v).ok) × (q ≡ (settle_from t u l i v).levels)) where
    place_closing : (eqb l x && not (eqb l (get_or v.ends 1 0))) ≡ false → (o ≡ (place_from t u x l i v).ok) × (q ≡ (place_from t u x l i v).levels)
    unfolding place_from settle_from place_label levels_of
    place_closing p = rw p closing

-- a label is the one that is waited for exactly where it comes next and the node does not end there
module _ {q : ℕ} (x end l : ℕ) (waits : q ≡ expected_label x end) (small : l < label_limit) where
  pub waited_both : l ≡ q → (l ≡ x) × (eqb l end ≡ false)
  unfolding expected_label
  waited_both p =
      by_cases (ℕ_discrete x end)
      (λ r. absurd (omega (arith, rw (eq-eqb x end r) at waits)))
      (λ r. let s : l ≡ x = p ∙ (rw (ne_eqb x end r) at waits) in (s, rw s (ne_eqb x end r)))

  pub waited_not : (l ≡ q → ⊥) → (eqb l x && not (eqb l end)) ≡ false
  unfolding expected_label
  waited_not p =
      by_cases (ℕ_discrete l x)
      (λ s. by_cases (ℕ_discrete x end) (λ r. rw (eq-eqb l x s, eq-eqb l end (s ∙ r))) (λ r. absurd (p (s ∙ sym (rw (ne_eqb x end r) at waits)))))
      (λ s. rw (ne_eqb l x s))

module _ (t : by_height.Tables) (u x l i : ℕ) (v : kept.Levels) {q : ℕ} (waits : q ≡ expected_label x (get_or v.ends 1 0)) (small : l < label_limit) where
  pub place_waited : l ≡ q → (true ≡ (place_from t u x l i v).ok) × (levels_of v ≡ (place_from t u x l i v).levels)
  place_waited p = let both = waited_both x (get_or v.ends 1 0) l waits small p in place_next t u x l i v both.0 both.1

  pub place_settled : {o : Bool} {r : Levels} → (o ≡ (settle_from t u l i v).ok) × (r ≡ (settle_from t u l i v).levels) → (l ≡ q → ⊥) →
      (o ≡ (place_from t u x l i v).ok) × (r ≡ (place_from t u x l i v).levels)
  place_settled closing p = place_closing t u x l i v closing (waited_not x (get_or v.ends 1 0) l waits small p)
