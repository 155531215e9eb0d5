-- The kinds of a load, seen one after the other: what is left to see decides 4 and 5 as the whole does. Assumes nothing.
use mathlib.Core.Path.{◌≡◌, refl}
use mathlib.Core.Bool.{Bool, true, false, not, cond}
use mathlib.Core.List.{List, [], ◌∷◌, map}
use Prim.Native.Nat.{ℕ, zero, suc, ◌+◌, ◌-◌, ◌≤◌, ◌<◌}
use native.Mathlib.Numerals.{add-one, sub-one}
use native.Mathlib.Omega.{arith}
use borrow.Author.Tests.{eqb-true}
use Rattle.std.specs.List.{list_all}
use lib.Dec.{eqb}
use lib.ListN.{length, get_or, drop, drop_of_length-le}
use lib.Seq.{drop-cons}
use Rattle.lists.specs.Lists.{first}
use Rattle.lists.proofs.Tests.{by_test}
use Rattle.calls.specs.Kind.{Kind, begin, end, text, is_kind, kind_of, is_begin, is_end, own_depth, opens_after, depth_after}
use Rattle.calls.specs.Nesting.{nests}
use Rattle.calls.specs.Load.{all_kinds, kinds_tests}
use Rattle.load_refuse.specs.Refusals.{kinds_refusal, rest_refusal}

-- ONE KIND
nests_goes : (d c : ℕ) (ks : List Kind) → (c ≡ 2 → 1 ≤ d) → nests d (kind_of c ∷ ks) ≡ nests (depth_after (kind_of c) d) ks
unfolding kind_of depth_after opens_after own_depth is_begin is_end nests
nests_goes d c ks some =
    by_test (eqb c 1)
    (λ e. rw e)
    (λ e. by_test (eqb c 2) (λ f. rw (e, f) (closes d (some (eqb-true c 2 f)))) (λ f. rw (e, f)))
  where
    closes : (m : ℕ) → 1 ≤ m → nests m (end ∷ ks) ≡ nests (m - 1) ks
    closes zero h = absurd (omega arith)
    closes (suc m) h = rw sub-one

end_closes_none : (ks : List Kind) → nests 0 (kind_of 2 ∷ ks) ≡ false
unfolding kind_of nests
end_closes_none ks = refl

next_kind : (cs : List ℕ) (i : ℕ) → i < length cs → drop i cs ≡ get_or cs i 0 ∷ drop (i + 1) cs
next_kind cs i l = rw (add-one, drop-cons cs i 0)

none_left : (cs : List ℕ) (i : ℕ) → length cs ≤ i → drop i cs ≡ []
none_left cs i l = drop_of_length-le cs l

-- THE KINDS AFTER an end that closes none: whether all are kinds, as they are tested one after the other
all_tested : (cs : List ℕ) → all_kinds cs ≡ list_all is_kind cs
unfolding all_kinds
all_tested [] = refl
all_tested (c ∷ cs) = rw (all_tested cs)

pub rest_told : (cs : List ℕ) (t : Bool) → t ≡ list_all is_kind cs → rest_refusal cs ≡ cond t 5 4
unfolding rest_refusal
rest_told cs t e = rw (all_tested cs, ← e) (go t)
  where
    go : (t : Bool) → ◌≡◌ {A = ℕ} (cond (not t) 4 5) (cond t 5 4)
    go true = refl
    go false = refl

-- THE KINDS THAT ARE LEFT at one of them
module _ (cs : List ℕ) (i : ℕ) (inside : i < length cs) where
  -- where d begins are open
  pub kinds_stop : (d : ℕ) → is_kind (get_or cs i 0) ≡ false → kinds_refusal d (drop i cs) ≡ 4
  unfolding kinds_refusal kinds_tests first all_kinds
  kinds_stop d e = rw (next_kind cs i inside, e)

  pub kinds_break : get_or cs i 0 ≡ 2 → kinds_refusal 0 (drop i cs) ≡ rest_refusal (drop (i + 1) cs)
  unfolding kinds_refusal kinds_tests first rest_refusal all_kinds is_kind
  kinds_break e = rw (next_kind cs i inside, e, end_closes_none)

  pub kinds_go : (d : ℕ) → is_kind (get_or cs i 0) ≡ true → (get_or cs i 0 ≡ 2 → 1 ≤ d) →
      kinds_refusal d (drop i cs) ≡ kinds_refusal (depth_after (kind_of (get_or cs i 0)) d) (drop (i + 1) cs)
  unfolding kinds_refusal kinds_tests first all_kinds
  kinds_go d e some = rw (next_kind cs i inside, e, nests_goes d (get_or cs i 0) (map kind_of (drop (i + 1) cs)) some)

pub kinds_end : (d : ℕ) (cs : List ℕ) (i : ℕ) → length cs ≤ i → kinds_refusal d (drop i cs) ≡ cond (not (eqb d 0)) 5 0
unfolding kinds_refusal kinds_tests first all_kinds nests
kinds_end d cs i l = rw (none_left cs i l)

-- at most one begin more is open
pub depth_most : (k : Kind) (d : ℕ) → depth_after k d ≤ d + 1
unfolding depth_after opens_after own_depth is_begin is_end
depth_most begin d = omega arith
depth_most end d = omega arith
depth_most text d = omega arith
