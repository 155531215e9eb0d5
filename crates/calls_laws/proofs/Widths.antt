-- The widths of a store and of a header. Labels fit where the root's width does; all that is used beyond that of widths which
-- are the powers of b stands here. Assumes nothing.
use mathlib.Core.Path.{◌≡◌, refl}
use mathlib.Core.Bool.{Bool, true, ◌&&◌, not}
use mathlib.Core.List.{List}
use Prim.Native.Nat.{ℕ, zero, suc, ◌+◌, ◌*◌, ◌-◌, ◌^◌, ◌≤◌, ◌<◌, ◌∣◌}
use native.Mathlib.Nat.{pow-zero, pow-succ', dvd-mul_left, mul-le-mul, pow-le-pow_left, pow-le-pow_right, lt_of_not-le}
use native.Mathlib.Omega.{arith}
use borrow.Author.Tests.{le-leb, leb-true, eqb-true, eqb-false, not-true}
use lib.Dec.{eqb}
use Rattle.store_types.specs.Limits.{label_limit}
use Rattle.store_types.specs.Layout.{at_s, at_r, word_at}
use Rattle.lists.proofs.Tests.{and_left, and_right, by_test}
use Rattle.tree.specs.Book.{base, power_width}
use Rattle.tree.specs.Promise.{Widths}
use Rattle.tree_laws.proofs.Labels.{power_widths}
use Rattle.calls.specs.Store.{Store, width, labels_fit, height_fits}
use Rattle.calls.specs.Words.{header_width}
use Rattle.calls_laws.proofs.Tests.{Degrees}

-- LABELS FIT, as a bound and back
pub fits_limit : (w : ℕ → ℕ) (h : ℕ) → labels_fit w h ≡ true → w h ≤ label_limit
unfolding labels_fit
fits_limit w h e = leb-true (w h) label_limit e

pub limit_fits : (w : ℕ → ℕ) (h : ℕ) → w h ≤ label_limit → labels_fit w h ≡ true
unfolding labels_fit
limit_fits w h l = le-leb (w h) label_limit l

-- WIDTHS that a tree may be numbered by
pub store_widths : (st : Store) → Widths st.book.s st.book.r (width st)
store_widths st = power_widths st.book.s st.book.r

pub header_widths : (ws : List ℕ) → Widths (word_at ws at_s) (word_at ws at_r) (header_width ws)
unfolding header_width
header_widths ws = power_widths (word_at ws at_s) (word_at ws at_r)

-- THE POWERS OF b
pub store_powers : (st : Store) (j : ℕ) → width st j ≡ base st.book.s st.book.r ^ j
unfolding power_width
store_powers st j = refl

pub header_powers : (ws : List ℕ) (j : ℕ) → header_width ws j ≡ base (word_at ws at_s) (word_at ws at_r) ^ j
unfolding header_width power_width
header_powers ws j = refl

-- a leaf is one wide, and every width divides the next
pub header_unit : (ws : List ℕ) → header_width ws 0 ≡ 1
unfolding header_width power_width
header_unit ws = pow-zero (base (word_at ws at_s) (word_at ws at_r))

pub header_divides : (ws : List ℕ) (h : ℕ) → header_width ws h ∣ header_width ws (suc h)
unfolding header_width power_width
header_divides ws h =
    let b = base (word_at ws at_s) (word_at ws at_r) in
    rw (pow-succ' b h) (dvd-mul_left (b ^ h) b)

-- three to the 21st passes the limit of labels
height_range : (b h : ℕ) → 3 ≤ b → b ^ h ≤ label_limit → h ≤ 20
height_range b h l fits =
    let low : h < 21 = lt_of_not-le λ high.
    let three : 3 ^ 21 ≤ 3 ^ h = pow-le-pow_right (omega arith) high in
    let more : 3 ^ h ≤ b ^ h = pow-le-pow_left l h in
    omega arith in
    omega arith

-- a test of every number below n
below : (n : ℕ) → (ℕ → Bool) → Bool
below zero f = true
below (suc n) f = f n && below n f

below_at : (n : ℕ) (f : ℕ → Bool) → below n f ≡ true → (i : ℕ) → i < n → f i ≡ true
unfolding below
below_at zero f e i l = absurd (omega arith)
below_at (suc n) f e i l =
    by_test (eqb i n)
    (λ t. rw (eqb-true i n t) (and_left (f n) (below n f) e))
    (λ t. below_at n f (and_right (f n) (below n f) e) i (omega (arith, eqb-false i n t)))

-- no power up to the 20th of a base that s and r of 2 to 16 can have
misses : ℕ → ℕ → ℕ → Bool
misses i j h = not (eqb (((i + 2) * (j + 2) - 1) ^ h) label_limit)

all_miss : below 15 (λ i. below 15 (λ j. below 21 (misses i j))) ≡ true
unfolding below misses
all_miss = refl

-- so no width that fits is the limit of labels itself, and a label can hold where a root ends
narrow_power : (w : ℕ → ℕ) (s r h : ℕ) → Degrees s r → w h ≡ base s r ^ h → labels_fit w h ≡ true → w h < label_limit
unfolding base misses
narrow_power w s r h d power fits =
    let most : (s * r - 1) ^ h ≤ label_limit = omega (arith, power, fits_limit w h fits) in
    let least : 3 ≤ s * r - 1 = omega (arith, mul-le-mul d.s_least d.r_least) in
    let low : h < 21 = omega (arith, height_range (s * r - 1) h least most) in
    let own_s : s - 2 + 2 ≡ s = omega (arith, d.s_least) in
    let own_r : r - 2 + 2 ≡ r = omega (arith, d.r_least) in
    let test = below_at 21 (misses (s - 2) (r - 2)) (below_at 15 (λ j. below 21 (misses (s - 2) j)) (below_at 15 (λ i. below 15 (λ j. below 21 (misses i j))) all_miss (s - 2) (omega (arith, d))) (r - 2) (omega (arith, d))) h low in
    let other = eqb-false ((s * r - 1) ^ h) label_limit (not-true _ (rw (own_s, own_r) at test)) in
    below_limit (w h) ((s * r - 1) ^ h) power most other
  where
    below_limit : (n p : ℕ) → n ≡ p → p ≤ label_limit → (p ≡ label_limit → ⊥) → n < label_limit
    below_limit n p e l other = omega arith

pub narrower : (st : Store) (h : ℕ) → Degrees st.book.s st.book.r → height_fits st h ≡ true → width st h < label_limit
narrower st h d fits = narrow_power (width st) st.book.s st.book.r h d (store_powers st h) fits

pub header_narrower : (ws : List ℕ) (h : ℕ) → Degrees (word_at ws at_s) (word_at ws at_r) → labels_fit (header_width ws) h ≡ true → header_width ws h < label_limit
header_narrower ws h d fits = narrow_power (header_width ws) (word_at ws at_s) (word_at ws at_r) h d (header_powers ws h) fits

-- LOWER TREES fit where a higher one does
pub fits_below : (st : Store) (i j : ℕ) → Degrees st.book.s st.book.r → i ≤ j → height_fits st j ≡ true → height_fits st i ≡ true
unfolding base
fits_below st i j d l fits =
    let b = base st.book.s st.book.r in
    let least : 1 ≤ b = omega (arith, mul-le-mul d.s_least d.r_least) in
    let powers : b ^ i ≤ b ^ j = pow-le-pow_right least l in
    limit_fits (width st) i (omega (arith, powers, store_powers st i, store_powers st j, fits_limit (width st) j fits))
