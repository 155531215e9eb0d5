-- What is known of the lent list where granting, revoking or a party's call is not refused (document 02, CR 6). Assumes nothing.
use mathlib.Core.Path.{◌≡◌, refl}
use mathlib.Core.Bool.{Bool, ◌&&◌, not}
use mathlib.Core.List.{List}
use Prim.Native.Nat.{ℕ, zero, suc, ◌≤◌, ◌<◌}
use native.Mathlib.Omega.{arith}
use borrow.Author.Tests.{leb-true, leb-false}
use lib.Dec.{leb}
use Rattle.lists.specs.Lists.{first}
use Rattle.lists.proofs.Tests.{by_test, and_right}
use Rattle.lists.specs.Fronts.{replied}
use Rattle.store_types.specs.Limits.{most_party, all_rights}
use Rattle.calls.specs.Kind.{is_begin}
use Rattle.calls.specs.Store.{fact, count}
use Rattle.calls.specs.Replies.{said}
use Rattle.calls.specs.Rights.{range_refusal, grant_tests, grant_refused}
use Rattle.calls_laws.proofs.Tests.{passes}
use Rattle.calls_laws.proofs.WordSteps.{refusal_passed}

-- where 17 is not met the count is within the list
pub count_fits : (t : Bool) (p c room : ℕ) → range_refusal t p c room ≡ 0 → c ≤ room
unfolding range_refusal
count_fits t p c room e =
    by_test ((leb 1 p && leb p most_party) && (t && leb c room))
    (λ ok. leb-true c room (and_right t (leb c room) (and_right (leb 1 p && leb p most_party) (t && leb c room) ok)))
    (λ no. absurd (omega (arith, rw no at e)))

-- a grant that is not refused has a place: 19 is not met either
neither : (k m : ℕ) → replied (λ j. j) k m ≡ 0 → (k ≡ 0) × (m ≡ 0)
unfolding replied
neither zero m e = (refl, e)
neither (suc k) m e = absurd (omega arith)

pub has_place : (p x q c room : ℕ) (ws : List ℕ) → grant_refused p x q c room ws ≡ 0 → c < room
unfolding grant_refused grant_tests first
has_place p x q c room ws e =
    let over = (neither (range_refusal (leb 1 q && leb q all_rights) p c room) _ e).1 in
    let st = said ws in
    let eight = passes (leb (count st) x) 7 _ (refusal_passed ws (λ su. first (grant_tests x c room su) 0) over).1 in
    let nine = passes (fact st x).marked 8 _ eight.1 in
    let ten = passes (not (is_begin (fact st x).kind)) 9 _ nine.1 in
    leb-false room c (passes (leb room c) 18 0 ten.1).0
