-- Words that say a store: each tag's words, and its row along next and prior. Assumes nothing.
use mathlib.Core.Path.{◌≡◌, refl}
use mathlib.Core.List.{List, [], ◌∷◌, head_d, reverse_aux}
use Prim.Native.Nat.{ℕ, ◌≤◌, ◌<◌}
use native.Mathlib.Omega.{arith}
use Rattle.store_types.specs.Limits.{no_tag, most_tags}
use Rattle.store_types.specs.Layout.{at_first, at_next, at_prior, word_at, field}
use Rattle.calls.specs.Store.{Store, count, row}
use Rattle.calls.specs.Words.{Says}
use Rattle.calls_laws.proofs.Tests.{Sound, facts_of}
use Rattle.calls_laws.proofs.Fields.{TagSays, tag_says}
use Rattle.calls_laws.proofs.Sections.{distinct_row, row_below}
use Rattle.calls_laws.proofs.WordSteps.{header_said}
use Rattle.walk_model.proofs.Passes.{Linked}
use Rattle.walk_model.proofs.Links.{linked}
use Rattle.demands.specs.Words.{Met, BookRow}

-- A ROW linked by next and prior is met along both
module _ (ws : List ℕ) (n : ℕ) (few : n ≤ most_tags) where
  next_met : (xs : List ℕ) (x p : ℕ) → Linked ws n x p xs → Met (λ z. field ws z at_next) x xs
  unfolding Met
  next_met [] x p h = h
  next_met (y ∷ ys) x p h = (h.0, λ e. omega (arith, h.1), next_met ys (field ws y at_next) y h.3)

  -- backwards, with what stands before it
  prior_met : (xs back : List ℕ) (x p : ℕ) → Linked ws n x p xs → head_d back no_tag ≡ p → Met (λ z. field ws z at_prior) p back →
      Met (λ z. field ws z at_prior) (head_d (reverse_aux xs back) no_tag) (reverse_aux xs back)
  unfolding Met head_d
  prior_met [] back x p h e m = rw e m
  prior_met (y ∷ ys) back x p h e m = prior_met ys (y ∷ back) (field ws y at_next) y h.3 refl (refl, λ z. omega (arith, h.1), rw h.2 m)

  pub row_met : (xs : List ℕ) → Linked ws n (word_at ws at_first) no_tag xs → BookRow ws xs
  unfolding Met head_d
  row_met xs h = record { next = next_met xs (word_at ws at_first) no_tag h; prior = prior_met xs [] (word_at ws at_first) no_tag h refl refl }

module _ (ws : List ℕ) (st : Store) (h : Says ws st) where
  pub sound_said : Sound st
  unfolding Says
  sound_said = facts_of st h.0

  pub tag_said : (x : ℕ) → x < count st → TagSays ws st x
  unfolding Says
  tag_said x l = rw h.1.1 (tag_says st h.1.0 x l)

  pub row_linked : Linked ws (count st) (word_at ws at_first) no_tag (row st)
  row_linked =
      rw (header_said ws st h).first
      (linked ws (count st) (row st) (distinct_row sound_said) (row_below sound_said) (λ x l. (tag_said x l).next_word) (λ x l. (tag_said x l).prior_word))

  pub book_row : BookRow ws (row st)
  book_row = row_met ws (count st) sound_said.few (row st) row_linked
