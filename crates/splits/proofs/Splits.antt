-- The tag left of a node, step by step along prior; and the highest full ancestor, height by height. Assumes nothing.
use mathlib.Core.Path.{◌≡◌, refl, sym, ◌∙◌}
use mathlib.Core.Bool.{Bool, true, false, not, ◌||◌, cond}
use mathlib.Core.List.{List}
use Prim.Native.Nat.{ℕ, suc, ◌+◌, ◌-◌, ◌≤◌, ◌<◌}
use native.Mathlib.Nat.{zero-add, add-zero}
use native.Mathlib.Numerals.{add-one}
use native.Mathlib.Omega.{arith}
use borrow.Author.Tests.{le-leb, lt-leb, lt-ltb, le-ltb, leb-true, leb-false, not-true, not-false}
use lib.Dec.{leb, ltb}
use Rattle.lists.proofs.Tests.{by_test, or_left_false}
use Rattle.store_types.specs.Layout.{at_prior, field, label_at}
use Rattle.powers.specs.Tables.{entry}
use Rattle.edit_model.specs.Split.{Border, highest_full, left_border}

-- TESTS: whether x is one of n and its label l is at least b
pub outside : (n x : ℕ) (t : Bool) → n ≤ x → ltb x n ≡ not (leb n x || t)
outside n x t h = rw (le-leb n x h, le-ltb x n h)

opposite : (l b : ℕ) → leb b l ≡ not (ltb l b)
opposite l b =
    by_test (leb b l) (λ e. rw (e, le-ltb l b (leb-true b l e))) (λ e. rw (e, lt-ltb l b (leb-false b l e)))

pub inside : (n x l b : ℕ) → x < n → leb b l ≡ not (leb n x || ltb l b)
inside n x l b h = rw (lt-leb n x h) (opposite l b)

-- A WALK LEFT: it has taken so many steps and stands at x; what it does from here comes to the whole
pub record Leftward (whole : Border) (n : ℕ) (ws : List ℕ) (low x steps : ℕ) : Type 0 where
  pub tag_comes : (left_border (n - steps) n ws low x).tag ≡ whole.tag
  pub steps_come : steps + (left_border (n - steps) n ws low x).steps ≡ whole.steps

pub left_start : (n : ℕ) (ws : List ℕ) (low x : ℕ) → Leftward (left_border n n ws low x) n ws low x 0
left_start n ws low x =
    let all : n - 0 ≡ n = omega arith in record { tag_comes = rw all; steps_come = rw (all, zero-add) }

-- t says whether x is one of n and its label is at least low
module _ {whole : Border} {n : ℕ} {ws : List ℕ} {low x steps : ℕ} (a : Leftward whole n ws low x steps) where
  pub left_spent : n ≤ steps → (x ≡ whole.tag) × (steps ≡ whole.steps)
  unfolding left_border
  left_spent all =
      let none : n - steps ≡ 0 = omega arith in (rw none at a.tag_comes, sym (add-zero steps) ∙ rw none at a.steps_come)

  module _ {t : Bool} (more : steps < n) (test : t ≡ not (leb n x || ltb (label_at ws x) low)) where
    pub left_below : t ≡ true → x < n
    left_below e = leb-false n x (or_left_false (leb n x) (ltb (label_at ws x) low) (not-true (leb n x || ltb (label_at ws x) low) (sym test ∙ e)))

    further : n - steps ≡ suc (n - (steps + 1))
    further = omega arith

    pub left_on : {y : ℕ} → t ≡ true → y ≡ field ws x at_prior → Leftward whole n ws low y (steps + 1)
    unfolding left_border
    left_on e f =
        let goes = not-true (leb n x || ltb (label_at ws x) low) (sym test ∙ e) in
        record {
          tag_comes = rw f (rw (further, goes) at a.tag_comes);
          steps_come = rw f (omega (arith, rw (further, goes) at a.steps_come));
        }

    pub left_stops : t ≡ false → (x ≡ whole.tag) × (steps ≡ whole.steps)
    unfolding left_border
    left_stops e =
        let stops = not-false (leb n x || ltb (label_at ws x) low) (sym test ∙ e) in
        (rw (further, stops) at a.tag_comes, sym (add-zero steps) ∙ rw (further, stops) at a.steps_come)

-- HEIGHTS one by one: a loop has come to height h and found a height below it; what it does from here comes to the whole
pub record Climbing (whole : ℕ) (hi sz : List ℕ) (k under h found : ℕ) : Type 0 where
  pub comes : highest_full hi sz k (under + 1 - h) h found ≡ whole

pub climb_start : (hi sz : List ℕ) (k under : ℕ) → Climbing (highest_full hi sz k under 1 0) hi sz k under 1 0
climb_start hi sz k under =
    let all : under + 1 - 1 ≡ under = omega arith in record { comes = rw all }

climb_turn : (hi sz : List ℕ) (k m h q : ℕ) → highest_full hi sz k (suc m) h q ≡ highest_full hi sz k m (suc h) (cond (leb (entry hi h) (entry sz h + k)) h q)
unfolding highest_full
climb_turn hi sz k m h q = refl

module _ {whole : ℕ} {hi sz : List ℕ} {k under h found : ℕ} (c : Climbing whole hi sz k under h found) where
  pub climb_on : {t : Bool} {q : ℕ} → h ≤ under → t ≡ leb (entry hi h) (entry sz h + k) → q ≡ cond t h found → Climbing whole hi sz k under (h + 1) q
  climb_on more test e =
      let left : under + 1 - h ≡ suc (under + 1 - (h + 1)) = omega arith in
      record { comes = rw (e, test) (rw (left, climb_turn, ← add-one h) at c.comes) }

  pub climb_end : under < h → found ≡ whole
  unfolding highest_full
  climb_end top = let none : under + 1 - h ≡ 0 = omega arith in rw none at c.comes
