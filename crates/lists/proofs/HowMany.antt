-- How many elements of a list pass a test. Assumes nothing.
use mathlib.Core.Path.{◌≡◌}
use mathlib.Core.Bool.{Bool}
use mathlib.Core.List.{List, [], ◌∷◌, ◌++◌}
use Prim.Native.Nat.{◌+◌, ◌≤◌}
use native.Mathlib.Omega.{arith}
use lib.ListN.{length}
use Rattle.lists.specs.Lists.{how_many}
use Rattle.lists.proofs.Tests.{by_test}

module _ {A : Type 0} (h : A → Bool) where
  pub how_many_most : (xs : List A) → how_many h xs ≤ length xs
  unfolding how_many
  how_many_most [] = omega arith
  how_many_most (x ∷ xs) =
      let rest = how_many_most xs in by_test (h x) (λ e. rw e (omega (arith, rest))) (λ e. rw e (omega (arith, rest)))

  pub how_many_append : (xs ys : List A) → how_many h (xs ++ ys) ≡ how_many h xs + how_many h ys
  unfolding how_many
  how_many_append [] ys = omega arith
  how_many_append (x ∷ xs) ys = omega (arith, how_many_append xs ys)
