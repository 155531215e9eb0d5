-- Tables of powers (specs/Tables.antt): how many entries, what stands at a height, one more height, and that every entry fits. Assumes nothing.
use mathlib.Core.Path.{◌≡◌, refl, ap, ◌∙◌}
use mathlib.Core.List.{[], ◌∷◌, ◌++◌, append_assoc}
use mathlib.Core.Logic.{by_cases}
use Prim.Native.Nat.{ℕ, zero, suc, ◌+◌, ◌*◌, ◌-◌, ◌^◌, ◌≤◌, ◌<◌}
use native.Mathlib.Nat.{pow-zero, pow-succ', pow-suc, mul-one, mul_assoc, mul-le-mul_left, pow-le-pow_right, not-suc-le-zero, le_of_suc-le-suc}
use native.Mathlib.Numerals.{add-one}
use native.Mathlib.Decide.{dec_le}
use native.Mathlib.Omega.{arith}
use lib.ListN.{length, get_or, set, replicate, length-append, length-replicate, get_or-append}
use lib.Seq.{set_at, get_or-append-add}
use Rattle.powers.specs.Tables.{table_length, powers, table}

length_powers : (v b n : ℕ) → length (powers v b n) ≡ n
unfolding powers
length_powers v b zero = refl
length_powers v b (suc n) = ap suc (length_powers (v * b) b n)

powers_more : (v b n : ℕ) → powers v b (suc n) ≡ powers v b n ++ (v * b ^ n ∷ [])
unfolding powers
powers_more v b zero = rw (pow-zero, mul-one)
powers_more v b (suc n) = rw (powers_more (v * b) b n, mul_assoc, pow-succ')

-- the table up to a height: the powers below it, its own, and noughts
table_split : (v b top : ℕ) → table v b top ≡ powers v b top ++ (v * b ^ top ∷ replicate (table_length - suc top) 0)
unfolding table
table_split v b top = rw (powers_more, append_assoc)

pub powers_low : (v b n k : ℕ) → k < n → get_or (powers v b n) k 0 ≡ v * b ^ k
unfolding powers
powers_low v b zero k q = absurd (not-suc-le-zero q)
powers_low v b (suc n) zero q = rw (pow-zero, mul-one)
powers_low v b (suc n) (suc k) q = rw (powers_low (v * b) b n k (le_of_suc-le-suc q), mul_assoc, pow-succ' b k)

pub table_at : (v b top k : ℕ) → k ≤ top → get_or (table v b top) k 0 ≡ v * b ^ k
unfolding table
table_at v b top k q =
    get_or-append (powers v b (suc top)) (replicate (table_length - suc top) 0) 0 k (omega (arith, length_powers v b (suc top)))
    ∙ powers_low v b (suc top) k (omega arith)

pub length_table : (v b top : ℕ) → top < table_length → length (table v b top) ≡ table_length
unfolding table
length_table v b top l =
    length-append (powers v b (suc top)) (replicate (table_length - suc top) 0)
    ∙ omega (arith, length_powers v b (suc top), length-replicate {A = ℕ} (table_length - suc top) 0)

pub table_start : (v b : ℕ) → set (replicate table_length 0) 0 v ≡ table v b 0
unfolding table powers
table_start v b = refl

table_open : (v b h : ℕ) → suc h < table_length → table v b h ≡ powers v b (suc h) ++ (0 ∷ replicate (table_length - suc (suc h)) 0)
unfolding table
table_open v b h p = let e : table_length - suc h ≡ suc (table_length - suc (suc h)) = omega arith in rw e

-- one more height is written behind the powers, in the place of the first nought
table_set : (v b h : ℕ) → suc h < table_length → set (table v b h) (suc h) (v * b ^ suc h) ≡ table v b (suc h)
table_set v b h p =
    rw (table_open v b h, table_split v b (suc h))
    (set_at (powers v b (suc h)) 0 (replicate (table_length - suc (suc h)) 0) (v * b ^ suc h) (suc h) (length_powers v b (suc h)))

-- b times a power is the next one
pub table_next : (v b h : ℕ) → get_or (table v b h) h 0 * b ≡ v * b ^ suc h
table_next v b h = rw (table_at v b h h (omega arith), mul_assoc, pow-suc b h)

pub table_more : (v b h : ℕ) → suc h < table_length → set (table v b h) (h + 1) (get_or (table v b h) h 0 * b) ≡ table v b (h + 1)
table_more v b h p = rw (table_next v b h, add-one h) (table_set v b h p)

-- what is written fits
pub table_fits : (v b h top : ℕ) → 1 ≤ b → h < top → get_or (table v b h) h 0 * b ≤ v * b ^ top
table_fits v b h top p q =
    rw (table_next v b h) (mul-le-mul_left v (pow-le-pow_right p q))

pub noughts : (n i : ℕ) → get_or {A = ℕ} (replicate n 0) i 0 ≡ 0
noughts zero i = refl
noughts (suc n) zero = refl
noughts (suc n) (suc i) = noughts n i

table_beyond : (v b top k : ℕ) → top < k → get_or (table v b top) k 0 ≡ 0
unfolding table
table_beyond v b top k p =
    let e : k ≡ length (powers v b (suc top)) + (k - suc top) = omega (arith, length_powers v b (suc top)) in
    rw (e, get_or-append-add) (noughts (table_length - suc top) (k - suc top))

-- every entry is at most the last power
pub table_bound : (v b top : ℕ) → 1 ≤ b → (k : ℕ) → get_or (table v b top) k 0 ≤ v * b ^ top
table_bound v b top p k =
    by_cases (dec_le k top) (λ q. rw (table_at v b top k q) (mul-le-mul_left v (pow-le-pow_right p q)))
    (λ q. rw (table_beyond v b top k (omega arith)) (omega arith))
