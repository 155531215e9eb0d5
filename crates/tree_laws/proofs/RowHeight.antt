-- The height of a book after a row of insertions: the least from its own on whose root has room for all tags. Assumes nothing.
use mathlib.Core.Path.{◌≡◌, ap, ◌∙◌}
use mathlib.Core.Bool.{Bool, true, false, cond}
use Prim.Native.Nat.{ℕ, zero, suc, pred, ◌+◌, ◌*◌, ◌^◌, ◌≤◌, ◌<◌}
use native.Mathlib.Nat.{pow-succ', mul_left_comm, mul-le-mul_left, mul-le-mul_right, pow-le-pow_right}
use native.Mathlib.Omega.{arith}
use borrow.Author.Tests.{ltb-true, ltb-false}
use lib.Dec.{ltb}
use Rattle.lists.proofs.Tests.{by_test}
use Rattle.tree.specs.Forest.{size}
use Rattle.tree.specs.Book.{Book, height, inserted, inserted_row, root_full}
use Rattle.tree.specs.Grown.{height_for, grown_height}
use Rattle.tree.specs.Promise.{Sane}
use Rattle.tree_laws.proofs.Spread.{some_power}
use Rattle.tree_laws.proofs.Insertion.{root_at_limit, rooted, size_inserted, sane_inserted, inserted_s, inserted_r, inserted_under}

-- a height from h on whose root has room for n tags, and the least
pub record Least (s r n h top : ℕ) : Type 0 where
  pub low : h ≤ top
  pub fits : n < s * r ^ top
  pub least : h < top → s * r ^ pred top ≤ n

-- limits grow with the height
pub limits_grow : (s r h i : ℕ) → 2 ≤ r → h ≤ i → s * r ^ h ≤ s * r ^ i
limits_grow s r h i q l = mul-le-mul_left s (pow-le-pow_right {n = r} (omega arith) l)

pub next_limit : (s r h : ℕ) → 2 ≤ s → 2 ≤ r → s * r ^ h < s * r ^ suc h
next_limit s r h t q =
    let above : s * r ^ suc h ≡ r * (s * r ^ h) = rw (pow-succ' r h) (mul_left_comm s r (r ^ h)) in
    omega (arith, mul-le-mul_right (s * r ^ h) q, some_power r h q, mul-le-mul_right (r ^ h) t)

pub least_one : {s r n h a b : ℕ} → 2 ≤ r → Least s r n h a → Least s r n h b → a ≡ b
least_one {s} {r} {n} {h} {a} {b} q d e =
    by_test (ltb a b)
    (λ t. absurd (over d e (ltb-true a b t)))
    (λ t. by_test (ltb b a) (λ u. absurd (over e d (ltb-true b a u))) (λ u. omega (arith, ltb-false a b t, ltb-false b a u)))
  where
    over : {a b : ℕ} → Least s r n h a → Least s r n h b → a < b → ⊥
    over {a} {b} d e l = omega (arith, d.fits, d.low, e.least (omega (arith, d.low)), limits_grow s r a (pred b) q (omega arith))

-- the least above a height that is too low
least_up : {s r n h top : ℕ} → s * r ^ h ≤ n → Least s r n (suc h) top → Least s r n h top
least_up {s} {r} {n} {h} {top} over d = record {
  low = omega (arith, d.low);
  fits = d.fits;
  least = λ l. by_test (ltb (suc h) top)
      (λ t. d.least (ltb-true (suc h) top t))
      (λ t. let here : pred top ≡ h = omega (arith, d.low, ltb-false (suc h) top t) in rw here over);
}

least_here : {s r n h : ℕ} → n < s * r ^ h → Least s r n h h
least_here l = record { low = omega arith; fits = l; least = λ i. absurd (omega arith) }

least_same : {s s' r r' n n' h h' top : ℕ} → s' ≡ s → r' ≡ r → n' ≡ n → h' ≡ h → Least s' r' n' h' top → Least s r n h top
least_same a b c e d = rw (a, b, c, e) at d

-- it is what the search finds
pub search_least : (m s r n h : ℕ) → 2 ≤ s → 2 ≤ r → n < s * r ^ h + m → Least s r n h (height_for m s r n h)
unfolding height_for
search_least zero s r n h t q l = least_here (omega arith)
search_least (suc m) s r n h t q l =
    by_test (ltb n (s * r ^ h))
    (λ e. rw e (least_here (ltb-true n (s * r ^ h) e)))
    (λ e.
    let over = ltb-false n (s * r ^ h) e in
    rw e (least_up over (search_least m s r n (suc h) t q (omega (arith, next_limit s r h t q)))))

pub under_of : (k : Book) (p x : ℕ) (t : Bool) → root_full k ≡ t → (inserted p x k).under ≡ cond t (suc k.under) k.under
under_of k p x t e = inserted_under p x k ∙ rw e

-- and what a row of insertions leads to
pub height_least : (m p x : ℕ) (k : Book) → Sane k → p ≤ size k.root → Least k.s k.r (size k.root + m) (height k) (height (inserted_row m p x k))
unfolding inserted_row
height_least zero p x k h l = least_here (omega (arith, (rooted k h).high))
height_least (suc m) p x k h l =
    let sized = size_inserted p x k h l in
    let rest = height_least m (suc p) (suc x) (inserted p x k) (sane_inserted p x k h l) (omega arith) in
    let all : size (inserted p x k).root + m ≡ size k.root + suc m = omega arith in
    by_test (root_full k)
    (λ t. least_up (omega (arith, root_at_limit k t)) (least_same (inserted_s p x k) (inserted_r p x k) all (ap suc (under_of k p x true t)) rest))
    (λ t. least_same (inserted_s p x k) (inserted_r p x k) all (ap suc (under_of k p x false t)) rest)

pub height_grown : (m p x : ℕ) (k : Book) → Sane k → p ≤ size k.root → grown_height m k ≡ height (inserted_row m p x k)
height_grown m p x k h l =
    least_one h.r_least (search_least m k.s k.r (size k.root + m) (height k) h.s_least h.r_least (omega (arith, (rooted k h).high))) (height_least m p x k h l)
