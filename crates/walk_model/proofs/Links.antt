-- A row that is linked by next and prior has those words, and a row of distinct tags that has them is linked.
-- Assumes nothing.
use mathlib.Core.Path.{◌≡◌, refl, sym, ◌∙◌}
use mathlib.Core.Bool.{true, false≢true}
use mathlib.Core.List.{List, [], ◌∷◌}
use Prim.Native.Nat.{ℕ, zero, suc, ◌+◌, ◌≤◌, ◌<◌}
use native.Mathlib.Omega.{arith}
use lib.ListN.{length, get_or, drop, drop_of_length-le, get_or-eq_default}
use lib.Seq.{drop-cons}
use Rattle.store_types.specs.Limits.{no_tag}
use Rattle.store_types.specs.Layout.{at_next, at_prior, field}
use Rattle.tree.specs.Row.{member, place}
use Rattle.tree_laws.proofs.Rows.{Distinct, member_nil, member_cases, member_getD, place_first, place_other, place_getD}
use Rattle.calls.specs.Store.{next_in, prior_in}
use Rattle.walk_model.proofs.Passes.{Linked}

module _ (ws : List ℕ) (n : ℕ) where
  -- the first tag of a linked row
  pub first_linked : (xs : List ℕ) (t p : ℕ) → Linked ws n t p xs → get_or xs 0 no_tag ≡ t
  first_linked [] t p h = sym h
  first_linked (x ∷ xs) t p h = sym h.0

  -- its tags are tags
  pub below_linked : (xs : List ℕ) (t p x : ℕ) → Linked ws n t p xs → member x xs ≡ true → x < n
  below_linked [] t p x h m = absurd (false≢true (sym (member_nil x) ∙ m))
  below_linked (y ∷ ys) t p x h m =
      member_cases x y ys m (λ e. rw e h.1) (λ e k. below_linked ys (field ws y at_next) y x h.3 k)

  -- the tag behind each, and the tag before it
  pub next_linked : (xs : List ℕ) (t p x : ℕ) → Linked ws n t p xs → member x xs ≡ true → field ws x at_next ≡ next_in xs x
  unfolding next_in
  next_linked [] t p x h m = absurd (false≢true (sym (member_nil x) ∙ m))
  next_linked (y ∷ ys) t p x h m =
      member_cases x y ys m
      (λ e. rw (e, place_first y ys, first_linked ys (field ws y at_next) y h.3))
      (λ e k. rw (place_other x y ys e) (next_linked ys (field ws y at_next) y x h.3 k))

  prior_from : (xs : List ℕ) (t p x : ℕ) → Linked ws n t p xs → member x xs ≡ true → field ws x at_prior ≡ get_or (p ∷ xs) (place x xs) no_tag
  prior_from [] t p x h m = absurd (false≢true (sym (member_nil x) ∙ m))
  prior_from (y ∷ ys) t p x h m =
      member_cases x y ys m
      (λ e. rw (e, place_first y ys) h.2)
      (λ e k. rw (place_other x y ys e) (prior_from ys (field ws y at_next) y x h.3 k))

  pub prior_linked : (xs : List ℕ) (t x : ℕ) → Linked ws n t no_tag xs → member x xs ≡ true → field ws x at_prior ≡ prior_in xs x
  unfolding prior_in
  prior_linked xs t x = prior_from xs t no_tag x

  -- and back
  module _ (xs : List ℕ) (distinct : Distinct xs) (below : (x : ℕ) → member x xs ≡ true → x < n)
      (next : (x : ℕ) → x < n → field ws x at_next ≡ next_in xs x) (prior : (x : ℕ) → x < n → field ws x at_prior ≡ prior_in xs x) where
    linked_from : (m i : ℕ) → i + m ≡ length xs → Linked ws n (get_or xs i no_tag) (get_or (no_tag ∷ xs) i no_tag) (drop i xs)
    unfolding next_in prior_in
    linked_from zero i e = let all : length xs ≤ i = omega arith in rw (drop_of_length-le xs all) (get_or-eq_default xs no_tag all)
    linked_from (suc m) i e =
        let inside : i < length xs = omega arith in
        let y = get_or xs i no_tag in
        let l = below y (member_getD xs i no_tag inside) in
        let at = place_getD xs i no_tag distinct inside in
        rw (drop-cons xs i no_tag inside) (refl, l, (rw at at (prior y l)), (rw (next y l, at) (linked_from m (suc i) (omega arith))))

    pub linked : Linked ws n (get_or xs 0 no_tag) no_tag xs
    linked = linked_from (length xs) 0 (omega arith)
