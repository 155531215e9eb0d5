-- A gap closed turn by turn leaves the grants that stay, in order, over the front of the list. Assumes nothing.
use mathlib.Core.Path.{◌≡◌, sym, ◌∙◌, ap}
use mathlib.Core.Bool.{true, false}
use mathlib.Core.List.{List, ◌∷◌, ◌++◌, append_assoc}
use Prim.Native.Nat.{ℕ, zero, suc, ◌+◌, ◌≤◌, ◌<◌}
use native.Mathlib.Nat.{zero-add}
use native.Mathlib.Omega.{arith}
use lib.ListN.{length, get_or, set, take, drop, take-append-drop, length-set}
use lib.Seq.{drop-cons, drop-set-lt, set-get_or, take-suc-set}
use Rattle.lists.specs.Lists.{those}
use Rattle.lists.proofs.Tests.{by_test}
use Rattle.lists.specs.Fronts.{in_front}
use Rattle.store_types.specs.declared.Grant.{Grant}
use Rattle.calls.specs.Rights.{names, others}
use Rattle.grant_list.specs.Gap.{Closed, closed, stays, next_place, no_grant}

-- new grants from place k on
abbrev from : (k : ℕ) (new zs : List Grant) → Closed
from k new zs = record { grants = take k zs ++ in_front new (drop k zs); count = k + length new }

module _ (p x : ℕ) where
  module _ (m i k : ℕ) (zs : List Grant) where
    -- a grant that goes: nothing moves
    closed_goes : names p x (get_or zs i no_grant) ≡ true → closed p x (suc m) i k zs ≡ closed p x m (suc i) k zs
    unfolding closed stays next_place
    closed_goes e = rw (e, set-get_or)

    others_goes : i < length zs → names p x (get_or zs i no_grant) ≡ true → others p x (suc m) (drop i zs) ≡ others p x m (drop (suc i) zs)
    unfolding others those
    others_goes l e = rw (drop-cons zs i no_grant l, e)

    -- one that stays
    closed_stays : names p x (get_or zs i no_grant) ≡ false → closed p x (suc m) i k zs ≡ closed p x m (suc i) (suc k) (set zs k (get_or zs i no_grant))
    unfolding closed stays next_place
    closed_stays e = rw e

    others_stays : i < length zs → names p x (get_or zs i no_grant) ≡ false → others p x (suc m) (drop i zs) ≡ get_or zs i no_grant ∷ others p x m (drop (suc i) zs)
    unfolding others those
    others_stays l e = rw (drop-cons zs i no_grant l, e)

  -- a grant set at a place, and new ones behind it
  from_more : (k : ℕ) (g : Grant) (new zs : List Grant) → k < length zs → from (suc k) new (set zs k g) ≡ from k (g ∷ new) zs
  unfolding in_front
  from_more k g new zs l =
      let many : suc k + length new ≡ k + suc (length new) = omega arith in
      rw (many, take-suc-set zs k g l, drop-set-lt (suc k) zs k g (omega arith), drop-cons zs k g l) (simp append_assoc)

  closed_is : (m i k : ℕ) (zs : List Grant) → k ≤ i → i + m ≤ length zs → closed p x m i k zs ≡ from k (others p x m (drop i zs)) zs
  unfolding closed others those in_front
  closed_is zero i k zs low fit = let none : k + 0 ≡ k = omega arith in rw (take-append-drop, none)
  closed_is (suc m) i k zs low fit =
      let inside : i < length zs = omega arith in
      let g = get_or zs i no_grant in
      by_test (names p x g)
      (λ e. closed_goes m i k zs e ∙ closed_is m (suc i) k zs (omega arith) (omega arith) ∙ ap (λ (new : List Grant). from k new zs) (sym (others_goes m i k zs inside e)))
      (λ e. closed_stays m i k zs e ∙ closed_is m (suc i) (suc k) (set zs k g) (omega arith) (rw length-set (omega arith))
      ∙ from_more k g (others p x m (drop (suc i) (set zs k g))) zs (omega arith)
      ∙ rw (drop-set-lt (suc i) zs k g (omega arith), others_stays m i k zs inside e))

  -- the whole of it
  pub closed_whole : (n : ℕ) (gs : List Grant) → n ≤ length gs → closed p x n 0 0 gs ≡ record { grants = in_front (others p x n gs) gs; count = length (others p x n gs) }
  closed_whole n gs fit = simp zero-add at (closed_is n 0 0 gs (omega arith) (omega arith))
