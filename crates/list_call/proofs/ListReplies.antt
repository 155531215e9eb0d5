-- What list replies and leaves in the lent lists. Assumes nothing.
use mathlib.Core.Path.{◌≡◌, refl, sym, ◌∙◌}
use mathlib.Core.Bool.{Bool, true, false, ◌||◌, cond, true≢false}
use mathlib.Core.List.{List, map}
use Prim.Native.Nat.{ℕ, ◌≤◌, ◌<◌}
use native.Mathlib.Omega.{arith}
use borrow.Author.Tests.{lt-ltb, le-ltb, ltb-false}
use lib.Dec.{ltb}
use lib.ListN.{length}
use Rattle.store_types.specs.declared.refusal.Refusal.{Refusal}
use Rattle.store_types.specs.Replies.{number_of, numbered, refusal_in}
use Rattle.store_types.proofs.Replies.{some_number}
use Rattle.lists.specs.Fronts.{in_front, replied, written}
use Rattle.lists.proofs.Replied.{replied_refused}
use Rattle.calls.specs.Store.{label}
use Rattle.calls.specs.Listing.{listed_tags, listed_labels, list_refusal}
use Rattle.calls.specs.Replies.{refusal_over, said, list_refused, list_reply, list_tags, list_labels}
use Rattle.list_call.specs.Needs.{unmarked_between, inside_refusal, first_inside, stop_of, short}
use Rattle.store_refuse.proofs.Laws.{refused_first, refused_said, accepted_says, accepted_store}
use Rattle.list_call.proofs.ListRefusals.{list_refused_first, list_refused_last}
use Rattle.list_call.proofs.Listed.{listed_is}
use Rattle.std.specs.Prelude.{Result, Ok, Err}

-- the reply, and the two lists afterwards
abbrev pub Replied : Result ℕ ℕ → (x : ℕ) → (ws ts ls after_ts after_ls : List ℕ) → Type 0
Replied q x ws ts ls us vs = (q ≡ list_reply x ws ts ls) × ((us ≡ list_tags x ws ts ls) × (vs ≡ list_labels x ws ts ls))

neither : (p q : Bool) → (p || q) ≡ false → (p ≡ false) × (q ≡ false)
neither true q e = absurd (true≢false e)
neither false q e = (refl, e)

-- ROOM for n in lists of a and b
module _ (n a b : ℕ) where
  -- where there is room for m, and n is no more
  pub short_none : (m : ℕ) → n ≤ m → m ≤ a → m ≤ b → false ≡ short n a b
  unfolding short
  short_none m l p q = rw (le-ltb a n (omega arith), le-ltb b n (omega arith))

  pub short_tags : {k : ℕ} → k ≡ n → a < k → ltb a k ≡ short n a b
  unfolding short
  short_tags e l = rw (e, lt-ltb a n (omega arith))

  pub short_labels : {k : ℕ} → k ≡ n → k ≤ a → ltb b k ≡ short n a b
  unfolding short
  short_labels e l = rw (e, le-ltb a n (omega arith))

  pub short_fits : {t : Bool} → t ≡ short n a b → t ≡ false → (n ≤ a) × (n ≤ b)
  unfolding short
  short_fits e t = let both = neither (ltb a n) (ltb b n) (sym e ∙ t) in (ltb-false a n both.0, ltb-false b n both.1)

-- REFUSED, before 11 and with 11
module _ (ws : List ℕ) (x : ℕ) (ts ls : List ℕ) where
  refused_by : (k : ℕ) → k ≡ list_refused x ws ts ls → (k ≡ 0 → ⊥) → Replied (Err k) x ws ts ls ts ls
  unfolding list_reply list_tags list_labels written
  refused_by k e n = rw (← e) (replied_refused Err k _ n, (replied_refused (λ _. ts) k _ n, replied_refused (λ _. ls) k _ n))

  pub list_refuses : (A : Type 0) (r : Refusal) → refusal_in {A = A} (Err r) ≡ refusal_over ws (inside_refusal x) → (p : Result ℕ Refusal) → p ≡ Err r →
      Replied (numbered p) x ws ts ls ts ls
  unfolding list_refused numbered refusal_in
  list_refuses A r e p same =
      rw same
      (refused_by (number_of r)
      (refused_first ws (inside_refusal x) (list_refusal (length ts) (length ls) x) (number_of r) (λ st. list_refused_first (length ts) (length ls) x st) e (some_number r)) (some_number r))

  -- ACCEPTED but for 11, with the passes from a to b
  module _ (e : refusal_over ws (inside_refusal x) ≡ 0) (a b : ℕ) (starts : a ≡ first_inside x (said ws)) (stops : b ≡ stop_of x (said ws)) where
    tags_are : listed_tags x (said ws) ≡ unmarked_between (said ws) a b
    tags_are = rw (starts, stops) (listed_is ws x e)

    or_short : list_refused x ws ts ls ≡
        cond (ltb (length ts) (length (unmarked_between (said ws) a b)) || ltb (length ls) (length (unmarked_between (said ws) a b))) 11 0
    unfolding list_refused
    or_short =
        refused_said ws (list_refusal (length ts) (length ls) x) (accepted_says ws (inside_refusal x) e)
        ∙ (list_refused_last (length ts) (length ls) x (said ws) (accepted_store ws (inside_refusal x) e) ∙ rw tags_are)

    pub list_short : {t : Bool} → t ≡ short (length (unmarked_between (said ws) a b)) (length ts) (length ls) → t ≡ true → Replied (Err 11) x ws ts ls ts ls
    unfolding short
    list_short m t = refused_by 11 (sym (or_short ∙ rw (sym m ∙ t))) (λ z. omega arith)

    pub list_lists : (n : ℕ) → n ≡ length (unmarked_between (said ws) a b) → n ≤ length ts → n ≤ length ls →
        Replied (Ok n) x ws ts ls (in_front (unmarked_between (said ws) a b) ts) (in_front (map (label (said ws)) (unmarked_between (said ws) a b)) ls)
    unfolding list_reply list_tags list_labels replied written listed_labels
    list_lists n m t l =
        rw (or_short, ← m, le-ltb (length ts) n t, le-ltb (length ls) n l, tags_are) (rw m, (refl, refl))
