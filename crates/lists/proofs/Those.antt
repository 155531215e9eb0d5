-- Whether an element passes a test, and those that do. Assumes nothing.
use mathlib.Core.Path.{◌≡◌, refl, sym, ◌∙◌}
use mathlib.Core.Bool.{Bool, true, false, ◌&&◌, not, true≢false}
use mathlib.Core.List.{List, [], ◌∷◌, ◌++◌}
use Prim.Native.Nat.{◌+◌}
use native.Mathlib.Omega.{arith}
use lib.ListN.{length}
use Rattle.lists.specs.Lists.{how_many, some_holds, those}
use Rattle.lists.proofs.Tests.{by_test, fails, or_left_false, or_right_false}

module _ {A : Type 0} (h : A → Bool) where
  pub those_append : (xs ys : List A) → those h (xs ++ ys) ≡ those h xs ++ those h ys
  unfolding those
  those_append [] ys = refl
  those_append (x ∷ xs) ys = by_test (h x) (λ t. rw (t, those_append xs ys)) (λ t. rw (t, those_append xs ys))

  -- of those that pass a test those that pass another
  pub those_both : (f : A → Bool) (xs : List A) → those f (those h xs) ≡ those (λ x. h x && f x) xs
  unfolding those
  those_both f [] = refl
  those_both f (x ∷ xs) = by_test (h x) (λ t. rw (t, those_both f xs)) (λ t. rw (t, those_both f xs))

  -- where no element passes a test, none passes one that asks for more
  pub none_stronger : (f : A → Bool) → ((x : A) → f x ≡ true → h x ≡ true) → (xs : List A) → some_holds h xs ≡ false → some_holds f xs ≡ false
  unfolding some_holds
  none_stronger f more [] e = refl
  none_stronger f more (x ∷ xs) e =
      rw (fails (f x) (λ t. true≢false (sym (more x t) ∙ or_left_false (h x) (some_holds h xs) e)))
      (none_stronger f more xs (or_right_false (h x) (some_holds h xs) e))

  -- none of those that fail a test passes it
  pub none_among : (xs : List A) → some_holds h (those (λ x. not (h x)) xs) ≡ false
  unfolding some_holds those
  none_among [] = refl
  none_among (x ∷ xs) = by_test (h x) (λ t. rw t (none_among xs)) (λ t. rw (t, t) (none_among xs))

  -- and they are all but those that pass it
  pub those_many : (xs : List A) → length xs ≡ how_many h xs + length (those (λ x. not (h x)) xs)
  unfolding how_many those
  those_many [] = refl
  those_many (x ∷ xs) = by_test (h x) (λ t. rw t (omega (arith, those_many xs))) (λ t. rw t (omega (arith, those_many xs)))

  -- those that pass it are as many as it counts
  pub length_those : (xs : List A) → length (those h xs) ≡ how_many h xs
  unfolding how_many those
  length_those [] = refl
  length_those (x ∷ xs) = by_test (h x) (λ t. rw t (omega (arith, length_those xs))) (λ t. rw t (omega (arith, length_those xs)))
