-- Names among others, and names that differ. Assumes nothing.
use mathlib.Core.Path.{◌≡◌, refl, sym, ◌∙◌}
use mathlib.Core.Bool.{Bool, true, false, ◌&&◌, ◌||◌, not}
use mathlib.Core.List.{List, [], ◌∷◌, ◌++◌}
use mathlib.Core.Logic.{◌⊎◌, inl, inr}
use Prim.Native.Nat.{ℕ}
use Rattle.lists.specs.Lists.{same}
use Rattle.lists.proofs.Tests.{by_test}
use Rattle.lists.proofs.Same.{same_equal}
use Rattle.xml.specs.Grammar.{among}
use Rattle.xml_laws.proofs.Strings.{equal_same}
use Rattle.xml_laws.proofs.Names.{all_new, all_new_one, all_new_none}
use Rattle.name_index.specs.Order.{differ}

-- AMONG the names of two rows
pub among_append : (n : List ℕ) (ns ms : List (List ℕ)) → among n (ns ++ ms) ≡ (among n ns || among n ms)
unfolding among
among_append n [] ms = refl
among_append n (k ∷ ns) ms = rw (among_append n ns ms) (turn (same n k) (among n ns) (among n ms))
  where
    turn : (a b c : Bool) → (a || (b || c)) ≡ ((a || b) || c)
    turn true b c = refl
    turn false b c = refl

-- among the names of a row with one more at its end
pub among_last : (n m : List ℕ) (ns : List (List ℕ)) → among n (ns ++ (m ∷ [])) ≡ (same n m || among n ns)
unfolding among
among_last n m ns = rw (among_append n ns (m ∷ [])) (turn (among n ns) (same n m))
  where
    turn : (a b : Bool) → (a || (b || false)) ≡ (b || a)
    turn true true = refl
    turn true false = refl
    turn false true = refl
    turn false false = refl

module _ (x y : List ℕ) (names : List (List ℕ)) where
  pub among_here : x ≡ y → among x (names ++ (y ∷ [])) ≡ true
  among_here e = among_last x y names ∙ rw (equal_same x y e)

  pub among_before : among x names ≡ true → among x (names ++ (y ∷ [])) ≡ true
  among_before e = among_append x names (y ∷ []) ∙ rw e

  pub among_cases : among x (names ++ (y ∷ [])) ≡ true → (x ≡ y) ⊎ (among x names ≡ true)
  among_cases e =
      by_test (same x y) (λ s. inl (same_equal x y s)) (λ s. inr (rw s at (sym (among_last x y names) ∙ e)))

-- DIFFERENT names in two rows: they differ in each, and none of the later row is in the earlier one
pub differ_append : (early late : List (List ℕ)) → differ (early ++ late) ≡ (differ early && (all_new late early && differ late))
unfolding differ
differ_append [] late = rw (all_new_none late)
differ_append (n ∷ early) late =
    rw (among_append n early late, differ_append early late, all_new_one late early n) (turn (among n early) (among n late) (differ early) (all_new late early) (differ late))
  where
    turn : (x y d a l : Bool) → (not (x || y) && (d && (a && l))) ≡ ((not x && d) && ((not y && a) && l))
    turn true y d a l = refl
    turn false true true a l = refl
    turn false true false a l = refl
    turn false false d a l = refl

-- and with one more at its end
pub differ_last : (ns : List (List ℕ)) (n : List ℕ) → differ (ns ++ (n ∷ [])) ≡ (differ ns && not (among n ns))
unfolding differ all_new among
differ_last ns n = rw (differ_append ns (n ∷ [])) (turn (differ ns) (not (among n ns)))
  where
    turn : (d a : Bool) → (d && ((a && true) && true)) ≡ (d && a)
    turn true true = refl
    turn true false = refl
    turn false a = refl
