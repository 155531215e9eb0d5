-- A kind as two numbers, 1 or 0: whether it is an end and whether it is a begin. Assumes nothing.
use mathlib.Core.Path.{◌≡◌}
use mathlib.Core.Bool.{true, cond}
use Prim.Native.Nat.{ℕ, ◌+◌, ◌-◌, ◌%◌, ◌≤◌, ◌<◌}
use native.Mathlib.Omega.{arith}
use borrow.Author.Tests.{eq-eqb, eqb-true, leb-true}
use lib.Dec.{eqb, leb}
use Rattle.lists.proofs.Tests.{by_test, and_left, and_right}
use Rattle.calls.specs.Kind.{is_kind, kind_of, is_begin, is_end, own_depth, opens_after, depth_after}
use Rattle.kind_pick.specs.Needs.{KindWord}
use Rattle.kind_pick.proofs.PickLaws as pick

-- a kind is a kind word with no mark
module _ (c : ℕ) (k : is_kind c ≡ true) where
  least : 1 ≤ c
  unfolding is_kind
  least = leb-true 1 c (and_left (leb 1 c) (leb c 3) k)

  most : c ≤ 3
  unfolding is_kind
  most = leb-true c 3 (and_right (leb 1 c) (leb c 3) k)

  pub no_mark : c % 16 ≡ c
  no_mark = pick.no_mark c least most

  pub unmarked : KindWord c
  unmarked = pick.unmarked c least most

module _ (d c : ℕ) where
  -- an end where no begin is open, and one that closes a begin
  pub end_first : d < cond (eqb c 2) 1 0 → (c ≡ 2) × (d ≡ 0)
  end_first =
      by_test (eqb c 2) (λ e. rw e (λ l. (eqb-true c 2 e, omega arith))) (λ e. rw e (λ l. absurd (omega arith)))

  pub end_closes : cond (eqb c 2) 1 0 ≤ d → c ≡ 2 → 1 ≤ d
  end_closes l e = rw (eq-eqb c 2 e) at l

  pub depth_sum : d + cond (eqb c 1) 1 0 - cond (eqb c 2) 1 0 ≡ depth_after (kind_of c) d
  unfolding depth_after opens_after own_depth is_begin is_end kind_of
  depth_sum =
      by_test (eqb c 1) (λ e. rw (eqb-true c 1 e) (omega arith))
      (λ e. by_test (eqb c 2) (λ f. rw (e, f) (omega arith)) (λ f. rw (e, f) (omega arith)))
