-- The numbers of a label's ancestors, from the top down. Assumes nothing.
use mathlib.Core.Path.{◌≡◌, refl}
use mathlib.Core.List.{List, [], ◌∷◌}
use Prim.Native.Nat.{ℕ, zero, suc, ◌+◌, ◌*◌, ◌-◌, ◌/◌, ◌≤◌, ◌<◌}
use native.Mathlib.Nat.{div-mul-le_self}
use native.Mathlib.Omega.{arith}
use lib.ListN.{set, replicate}
use Rattle.store_types.specs.Limits.{word_limit}
use Rattle.powers.specs.Tables.{entry, entry_limit, table_length}
use Rattle.walk_model.specs.Watch.{ancestor_numbers}

-- what is added to the number above goes no further than the label
pub step_fits : (l a v : ℕ) → (l - a) / v * v ≤ l - a
step_fits l a v = div-mul-le_self (l - a) v

-- A LOOP ON ITS WAY DOWN: what it does from here comes to the whole
pub record Descending (whole w : List ℕ) (under l above h : ℕ) (ns : List ℕ) : Type 0 where
  pub fits : h ≤ under
  pub most : above ≤ l
  pub comes : ancestor_numbers w h l above ns ≡ whole

pub descend_start : (w : List ℕ) (under l : ℕ) (ns : List ℕ) → Descending (ancestor_numbers w under l 0 ns) w under l 0 under ns
descend_start w under l ns = record { fits = omega arith; most = omega arith; comes = refl }

pub descend_on : {whole w : List ℕ} {under l a h : ℕ} {ns : List ℕ} → Descending whole w under l a h ns → 1 ≤ h →
    let b = a + (l - a) / entry w h * entry w h in Descending whole w under l b (h - 1) (set ns h b)
unfolding ancestor_numbers
descend_on {h = zero} d some = absurd (omega arith)
descend_on {w = w} {l = l} {a = a} {h = suc i} d some =
    let below : suc i - 1 ≡ i = omega arith in
    record { fits = omega (arith, d.fits); most = omega (arith, d.most, step_fits l a (entry w (suc i))); comes = rw below d.comes }

pub descend_end : {whole w : List ℕ} {under l a h : ℕ} {ns : List ℕ} → Descending whole w under l a h ns → h ≡ 0 → ns ≡ whole
unfolding ancestor_numbers
descend_end d e = rw e at d.comes

-- THEY ARE AT MOST THE LABEL
set_most : (xs : List ℕ) (j v i m : ℕ) → v ≤ m → ((i : ℕ) → entry xs i ≤ m) → entry (set xs j v) i ≤ m
set_most [] j v i m h all = all i
set_most (x ∷ xs) zero v zero m h all = h
set_most (x ∷ xs) zero v (suc i) m h all = all (suc i)
set_most (x ∷ xs) (suc j) v zero m h all = all 0
set_most (x ∷ xs) (suc j) v (suc i) m h all = set_most xs j v i m h (λ g. all (suc g))

noughts_most : (k i m : ℕ) → entry (replicate k 0) i ≤ m
noughts_most zero i m = omega arith
noughts_most (suc k) zero m = omega arith
noughts_most (suc k) (suc i) m = noughts_most k i m

numbers_from : (w : List ℕ) (u l a : ℕ) (ns : List ℕ) → a ≤ l → ((i : ℕ) → entry ns i ≤ l) → (i : ℕ) → entry (ancestor_numbers w u l a ns) i ≤ l
unfolding ancestor_numbers
numbers_from w zero l a ns h all i = all i
numbers_from w (suc u) l a ns h all i =
    let v : ℕ = entry w (suc u) in
    let fits : a + (l - a) / v * v ≤ l = omega (arith, step_fits l a v) in
    numbers_from w u l (a + (l - a) / v * v) (set ns (suc u) (a + (l - a) / v * v)) fits (λ j. set_most ns (suc u) (a + (l - a) / v * v) j l fits all) i

-- a word's
pub numbers_fit : (w : List ℕ) (u : ℕ) {ns : List ℕ} {l : ℕ} → ns ≡ ancestor_numbers w u l 0 (replicate table_length 0) → l < word_limit → (i : ℕ) → entry ns i ≤ entry_limit
numbers_fit w u {ns} {l} e fits i =
    rw e (omega (arith, numbers_from w u l 0 (replicate table_length 0) (omega arith) (λ j. noughts_most table_length j l) i))
