-- Lists of which all elements pass a test: one behind another, the rest behind the first few, each element, weaker tests.
-- Assumes nothing.
use mathlib.Core.Path.{◌≡◌, refl}
use mathlib.Core.Bool.{Bool, true}
use mathlib.Core.List.{List, [], ◌∷◌, ◌++◌, map, flat_map}
use Prim.Native.Nat.{ℕ, zero, suc, ◌<◌, zero-le, suc-le-suc}
use native.Mathlib.Nat.{not-suc-le-zero, le_of_suc-le-suc}
use lib.ListN.{length, get_or, drop}
use Rattle.lists.specs.Lists.{all_hold}
use Rattle.lists.proofs.Tests.{and_left, and_right, and_both}

module _ {A : Type 0} (f : A → Bool) where
  pub all_first : (x : A) (xs : List A) → all_hold f (x ∷ xs) ≡ true → f x ≡ true
  unfolding all_hold
  all_first x xs h = and_left (f x) (all_hold f xs) h

  pub all_rest : (x : A) (xs : List A) → all_hold f (x ∷ xs) ≡ true → all_hold f xs ≡ true
  unfolding all_hold
  all_rest x xs h = and_right (f x) (all_hold f xs) h

  pub all_append : (xs ys : List A) → all_hold f xs ≡ true → all_hold f ys ≡ true → all_hold f (xs ++ ys) ≡ true
  unfolding all_hold
  all_append [] ys h k = k
  all_append (x ∷ xs) ys h k = and_both (all_first x xs h) (all_append xs ys (all_rest x xs h) k)

  pub all_drop : (i : ℕ) (xs : List A) → all_hold f xs ≡ true → all_hold f (drop i xs) ≡ true
  all_drop zero xs h = h
  all_drop (suc i) [] h = h
  all_drop (suc i) (x ∷ xs) h = all_drop i xs (all_rest x xs h)

  pub all_get_d : (xs : List A) (i : ℕ) (d : A) → all_hold f xs ≡ true → i < length xs → f (get_or xs i d) ≡ true
  all_get_d [] i d h l = absurd (not-suc-le-zero l)
  all_get_d (x ∷ xs) zero d h l = all_first x xs h
  all_get_d (x ∷ xs) (suc i) d h l = all_get_d xs i d (all_rest x xs h) (le_of_suc-le-suc l)

  pub all_each : (xs : List A) (d : A) → ((i : ℕ) → i < length xs → f (get_or xs i d) ≡ true) → all_hold f xs ≡ true
  unfolding all_hold
  all_each [] d h = refl
  all_each (x ∷ xs) d h = and_both (h 0 (suc-le-suc zero-le)) (all_each xs d (λ i l. h (suc i) (suc-le-suc l)))

-- what passes a test passes a weaker one
pub all_weaker : {A : Type 0} (f g : A → Bool) → ((x : A) → f x ≡ true → g x ≡ true) → (xs : List A) → all_hold f xs ≡ true → all_hold g xs ≡ true
unfolding all_hold
all_weaker f g weaker [] h = refl
all_weaker f g weaker (x ∷ xs) h = and_both (weaker x (all_first f x xs h)) (all_weaker f g weaker xs (all_rest f x xs h))

-- elements made of others, and lists joined, each of elements that pass
pub all_map : {A B : Type 0} (f : B → Bool) (g : A → B) (xs : List A) → ((x : A) → f (g x) ≡ true) → all_hold f (map g xs) ≡ true
unfolding all_hold
all_map f g [] each = refl
all_map f g (x ∷ xs) each = and_both (each x) (all_map f g xs each)

pub all_joined : {A B : Type 0} (f : B → Bool) (g : A → List B) (xs : List A) → ((x : A) → all_hold f (g x) ≡ true) → all_hold f (flat_map g xs) ≡ true
unfolding all_hold flat_map
all_joined f g [] each = refl
all_joined f g (x ∷ xs) each = all_append f (g x) (flat_map g xs) (each x) (all_joined f g xs each)
