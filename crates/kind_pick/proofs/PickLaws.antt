-- What decides between two numbers: the last bits of a kind word, or its mark. Assumes nothing.
use mathlib.Core.Path.{◌≡◌, refl, sym, ◌∙◌}
use mathlib.Core.Bool.{Bool, true, false, cond}
use mathlib.Core.Logic.{by_cases}
use Prim.Native.Nat.{ℕ, suc, ◌+◌, ◌-◌, ◌/◌, ◌%◌, ◌≤◌, ◌<◌}
use native.Mathlib.Decide.{ℕ_discrete}
use native.Mathlib.Omega.{arith}
use borrow.Author.Tests.{eqb-true, eq-eqb, ne_eqb, le-leb, lt-leb}
use native.Mathlib.Numerals.{add-one}
use native.Mathlib.Nat.{add-zero, sub-zero}
use lib.Dec.{eqb, leb}
use Rattle.kind_pick.specs.Needs.{KindWord}

-- two tests that follow from each other
pub test_same : (a b c d : ℕ) → (a ≡ b → c ≡ d) → (c ≡ d → a ≡ b) → eqb a b ≡ eqb c d
test_same a b c d f g =
    by_cases (ℕ_discrete a b) (λ e. eq-eqb a b e ∙ sym (eq-eqb c d (f e)))
    (λ ne. ne_eqb a b ne ∙ sym (ne_eqb c d (λ e. ne (g e))))

module _ (c : ℕ) (k : KindWord c) (a b : ℕ) where
  pub end_even : c % 2 ≡ 0 → a ≡ cond (eqb (c % 16) 2) a b
  end_even e = rw (eq-eqb (c % 16) 2 (omega arith))

  pub end_odd : (c % 2 ≡ 0 → ⊥) → b ≡ cond (eqb (c % 16) 2) a b
  end_odd ne = rw (ne_eqb (c % 16) 2 (λ e. ne (omega arith)))

  pub begin_low : c / 2 % 2 ≡ 0 → a ≡ cond (eqb (c % 16) 1) a b
  begin_low e = rw (eq-eqb (c % 16) 1 (omega arith))

  pub begin_high : (c / 2 % 2 ≡ 0 → ⊥) → b ≡ cond (eqb (c % 16) 1) a b
  begin_high ne = rw (ne_eqb (c % 16) 1 (λ e. ne (omega arith)))

-- the mark
module _ (c a b : ℕ) where
  pub mark_none : c < 16 → a ≡ cond (leb 16 c) b a
  mark_none l = rw (lt-leb 16 c l)

  pub mark_there : 16 ≤ c → b ≡ cond (leb 16 c) b a
  mark_there l = rw (le-leb 16 c l)

-- 1 or 0 by a test, taken off a number or added to it
module _ (n : ℕ) (t : Bool) where
  pub less_by : n - cond t 1 0 ≡ cond t (n - 1) n
  less_by = go t
    where
      go : (t : Bool) → n - cond t 1 0 ≡ cond t (n - 1) n
      go true = refl
      go false = sub-zero n

  pub more_by : n + cond t 1 0 ≡ cond t (suc n) n
  more_by = go t
    where
      go : (t : Bool) → n + cond t 1 0 ≡ cond t (suc n) n
      go true = add-one n
      go false = add-zero n

pub at_most_one : (t : Bool) → cond t 1 0 ≤ 1
at_most_one true = omega arith
at_most_one false = omega arith

pub within_by : (n a b : ℕ) (t : Bool) → (t ≡ true → a ≤ n) → (t ≡ false → b ≤ n) → cond t a b ≤ n
within_by n a b true h k = h refl
within_by n a b false h k = k refl

-- a kind is a kind word with no mark
module _ (c : ℕ) (least : 1 ≤ c) (most : c ≤ 3) where
  pub no_mark : c % 16 ≡ c
  no_mark = omega arith

  pub unmarked : KindWord c
  unmarked = record { small = omega arith; low = rw no_mark least; high = rw no_mark most }
