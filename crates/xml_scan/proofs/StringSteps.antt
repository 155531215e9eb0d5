-- A string compared at a place of a text, byte by byte: what is left of it stands there where all of it does. Assumes nothing.
use mathlib.Core.Path.{◌≡◌, sym, ◌∙◌}
use mathlib.Core.Bool.{true, false, ◌&&◌}
use mathlib.Core.List.{List}
use Prim.Native.Nat.{ℕ, suc, ◌+◌, ◌-◌, ◌≤◌, ◌<◌}
use native.Mathlib.Numerals.{add-one}
use native.Mathlib.Omega.{arith}
use borrow.Author.Tests.{eq-eqb, ne_eqb}
use lib.Dec.{eqb}
use lib.ListN.{length, get_or, drop, drop_of_length-le, length-drop}
use lib.Seq.{drop-cons}
use Rattle.lists.specs.Fronts.{starts_with}
use Rattle.lists.proofs.Fronts.{starts_short}

-- after k bytes of a string that is to stand at a place
pub record Standing (text : List ℕ) (at : ℕ) (string : List ℕ) (k : ℕ) : Type 0 where
  pub within : k ≤ length string
  pub rest : starts_with (drop k string) (drop (at + k) text) ≡ starts_with string (drop at text)

pub standing_start : (text : List ℕ) (at : ℕ) (string : List ℕ) → Standing text at string 0
standing_start text at string = let e : at + 0 ≡ at = omega arith in record { within = omega arith; rest = rw e }

step : (text : List ℕ) (at : ℕ) (string : List ℕ) (k : ℕ) → k < length string → at + k < length text →
    starts_with (drop k string) (drop (at + k) text)
    ≡ (eqb (get_or string k 0) (get_or text (at + k) 0) && starts_with (drop (k + 1) string) (drop (at + (k + 1)) text))
unfolding starts_with
step text at string k l m =
    let e : at + (k + 1) ≡ suc (at + k) = omega arith in rw (e, add-one k, drop-cons string k 0 l, drop-cons text (at + k) 0 m)

module _ {text : List ℕ} {at : ℕ} {string : List ℕ} {k : ℕ} (h : Standing text at string k) where
  pub standing_turn : k < length string → at + k < length text → get_or text (at + k) 0 ≡ get_or string k 0 → Standing text at string (k + 1)
  standing_turn l m e =
      record { within = omega arith; rest = sym (step text at string k l m ∙ rw (eq-eqb _ _ (sym e))) ∙ h.rest }

  -- it stands there
  pub standing_end : length string ≤ k → true ≡ starts_with string (drop at text)
  unfolding starts_with
  standing_end l = rw (drop_of_length-le string l) at h.rest

  -- a byte differs
  pub standing_other : k < length string → at + k < length text → (get_or text (at + k) 0 ≡ get_or string k 0 → ⊥) → false ≡ starts_with string (drop at text)
  standing_other l m n = sym (step text at string k l m ∙ rw (ne_eqb _ _ (λ e. n (sym e)))) ∙ h.rest

-- what the text is too short for does not stand there
pub standing_short : (string text : List ℕ) (at : ℕ) → length text - at < length string → false ≡ starts_with string (drop at text)
standing_short string text at l = sym (starts_short string (drop at text) (omega (arith, length-drop at text)))
