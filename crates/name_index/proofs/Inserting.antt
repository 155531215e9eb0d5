-- One value more at a place among the first ones of a list. Assumes nothing.
use mathlib.Core.Path.{◌≡◌, refl, ◌∙◌}
use mathlib.Core.List.{List}
use mathlib.Core.Logic.{by_cases}
use Prim.Native.Nat.{ℕ, suc, ◌-◌, ◌<◌, ◌≤◌}
use native.Mathlib.Omega.{arith}
use native.Mathlib.Decide.{ℕ_discrete}
use lib.ListN.{length, get_or, set, length-set}
use lib.Seq.{get_or-set_same, get_or-set_other}
use Rattle.name_index.specs.Steps.{Inserted}

-- those from i on have moved
pub record Moving (old : List ℕ) (p n : ℕ) (now : List ℕ) (i : ℕ) : Type 0 where
  pub low : p ≤ i
  pub high : i ≤ n
  pub size : length now ≡ length old
  pub below : (j : ℕ) → j ≤ i → get_or now j 0 ≡ get_or old j 0
  pub above : (j : ℕ) → i ≤ j → j < n → get_or now (suc j) 0 ≡ get_or old j 0
  pub later : (j : ℕ) → n < j → get_or now j 0 ≡ get_or old j 0

pub moving_start : (old : List ℕ) (p n : ℕ) → p ≤ n → Moving old p n old n
moving_start old p n l = record {
  low = l;
  high = omega arith;
  size = refl;
  below = λ j k. refl;
  above = λ j k m. absurd (omega arith);
  later = λ j k. refl;
}

module _ {old : List ℕ} {p n : ℕ} {now : List ℕ} {i : ℕ} (m : Moving old p n now i) where
  pub moving_turn : p < i → i < length now → Moving old p n (set now i (get_or now (i - 1) 0)) (i - 1)
  moving_turn l k = record {
    low = omega arith;
    high = omega (arith, m.high);
    size = length-set now i (get_or now (i - 1) 0) ∙ m.size;
    below = λ j b. get_or-set_other now i j (get_or now (i - 1) 0) 0 (λ q. omega arith) ∙ m.below j (omega arith);
    above = λ j a b.
        by_cases
        (ℕ_discrete (suc j) i)
        (λ q. rw q (get_or-set_same now i (get_or now (i - 1) 0) 0 k ∙ (let e : i - 1 ≡ j = omega arith in rw e (m.below j (omega arith)))))
        (λ q. get_or-set_other now i (suc j) (get_or now (i - 1) 0) 0 q ∙ m.above j (omega arith) b);
    later = λ j b. get_or-set_other now i j (get_or now (i - 1) 0) 0 (λ q. omega (arith, m.high)) ∙ m.later j b;
  }

  pub moving_end : (v : ℕ) → i ≤ p → p < length now → Inserted old p n v (set now p v)
  moving_end v l k = record {
    size = length-set now p v ∙ m.size;
    below = λ j b. get_or-set_other now p j v 0 (λ q. omega arith) ∙ m.below j (omega (arith, m.low));
    here = get_or-set_same now p v 0 k;
    above = λ j a b. get_or-set_other now p (suc j) v 0 (λ q. omega arith) ∙ m.above j (omega arith) b;
    later = λ j b. get_or-set_other now p j v 0 (λ q. omega (arith, m.low, m.high)) ∙ m.later j b;
  }
