-- `grant_list::close_gap` meets its contract. Assumes nothing.
use mathlib.Core.Path.{◌≡◌, ◌∙◌, ap}
use mathlib.Core.Bool.{Bool, true, false, cond}
use mathlib.Core.List.{List}
use Prim.Native.Nat.{ℕ, suc, ◌+◌, ◌-◌, ◌≤◌, ◌<◌}
use native.Mathlib.Numerals.{add-one}
use native.Mathlib.Omega.{arith}
use lib.ListN.{length, get_or, set}
use Rattle.store_types.specs.declared.Grant.{Grant}
use Rattle.calls.specs.Rights.{names, others}
use Rattle.lists.specs.Fronts.{in_front}
use Rattle.grant_list.specs.Gap.{Closed, closed, stays, next_place, no_grant}
use Rattle.grant_list.proofs.Gap.{closed_whole}
use Rattle.grant_list.proofs.close_gap.Goals as goal

pick_le : (t : Bool) (k i : ℕ) → k ≤ i → cond t k (suc k) ≤ i + 1
pick_le true k i l = omega arith
pick_le false k i l = omega arith

next_le : (k i : ℕ) (g : Grant) (p x : ℕ) → k ≤ i → next_place p x k g ≤ i + 1
unfolding next_place
next_le k i g p x l = pick_le (names p x g) k i l

-- a turn at place i, of n
turned : (p x n i k : ℕ) (zs : List Grant) → i < n
    → closed p x (n - (i + 1)) (i + 1) (next_place p x k (get_or zs i no_grant)) (set zs k (stays p x (get_or zs i no_grant) (get_or zs k no_grant))) ≡ closed p x (n - i) i k zs
unfolding closed
turned p x n i k zs more = let e : n - i ≡ suc (n - suc i) = omega arith in rw (e, add-one i)

pub loop-i-preserved : goal.loop-i-preserved
loop-i-preserved c =
    let g = get_or c.loop-i.gs c.loop-i.i no_grant in
    record {
      below = omega arith;
      low = rw c.next_place-kept.ensures (next_le c.loop-i.kept c.loop-i.i g c.args.party c.args.section c.loop-i.invariant.low);
      same = rw (c.next_place-kept.ensures, c.stays-next.ensures) (turned c.args.party c.args.section c.args.count c.loop-i.i c.loop-i.kept c.loop-i.gs c.loop-i-test.true ∙ c.loop-i.invariant.same);
    }

-- when the loop is left, the list and the count are those of the whole gap
abbrev Done : (p x n k : ℕ) (zs ys : List Grant) → Type 0
Done p x n k zs ys = ◌≡◌ {A = Closed} record { grants = zs; count = k } record { grants = in_front (others p x n ys) ys; count = length (others p x n ys) }

ended : (p x n i k : ℕ) (zs ys : List Grant) → n ≤ i → n ≤ length ys → closed p x (n - i) i k zs ≡ closed p x n 0 0 ys → Done p x n k zs ys
unfolding closed
ended p x n i k zs ys out fit same = let none : n - i ≡ 0 = omega arith in rw none at same ∙ closed_whole p x n ys fit

done : (c : goal.After-loop-i) → Done c.args.party c.args.section c.args.count c.loop-i.kept c.loop-i.gs c.args.gs.now
done c = ended c.args.party c.args.section c.args.count c.loop-i.i c.loop-i.kept c.loop-i.gs c.args.gs.now c.loop-i-test.false c.requires c.loop-i.invariant.same

pub returns-clause-kept : goal.returns-clause-kept
returns-clause-kept c = ap (λ (z : Closed). z.count) (done c)

pub returns-clause-list : goal.returns-clause-list
returns-clause-list c = ap (λ (z : Closed). z.grants) (done c)
