-- How high a book can be whose root keeps its limits: H is at most 17. Assumes nothing.
use mathlib.Core.Path.{◌≡◌}
use mathlib.Core.Bool.{true, ◌||◌}
use Prim.Native.Nat.{ℕ, suc, ◌*◌, ◌^◌, ◌≤◌, ◌<◌}
use native.Mathlib.Nat.{pow-le-pow_left, pow-le-pow_right, lt_of_not-le}
use native.Mathlib.Omega.{arith}
use borrow.Author.Tests.{eqb-true, leb-true}
use lib.Dec.{leb, eqb}
use Rattle.store_types.specs.Limits.{most_tags, most_levels}
use Rattle.lists.proofs.Tests.{by_test}
use Rattle.tree.specs.Book.{height}
use Rattle.calls.specs.Store.{Store, count}
use Rattle.calls.specs.Promise.{HeightMost}
use Rattle.calls_laws.proofs.Tests.{Sound, facts_of, root_limits}

-- over numbers: a root over children of height u, none of them leaves, has at least 2 times r^u tags; 2 times 2^17 are
-- more than 200,000
pub height_limit : (r u n : ℕ) → 2 ≤ r → (eqb u 0 || leb (2 * r ^ u) n) ≡ true → n ≤ most_tags → suc u ≤ most_levels
height_limit r u n l least few =
    by_test (eqb u 0) (λ t. omega (arith, eqb-true u 0 t))
    (λ t. let many : 2 * r ^ u ≤ n = leb-true (2 * r ^ u) n (rw t at least) in
    let twos : 2 ^ u ≤ r ^ u = pow-le-pow_left l u in
    let low : u < most_levels = lt_of_not-le λ high.
    let large : 2 ^ 17 ≤ 2 ^ u = pow-le-pow_right (omega arith) high in
    omega arith in
    omega arith)

pub sound_height : {st : Store} → Sound st → height st.book ≤ most_levels
sound_height {st} h = height_limit st.book.r st.book.under (count st) h.degrees.r_least (root_limits h).1 h.few

pub height_most : HeightMost
unfolding HeightMost
height_most st e = sound_height (facts_of st e)
