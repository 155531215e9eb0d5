-- One turn of the loop over a load's letters, and what its end says. Assumes nothing.
use mathlib.Core.Path.{◌≡◌, refl, ap, sym, ◌∙◌}
use mathlib.Core.Bool.{Bool, true, false, cond}
use mathlib.Core.List.{List, map, map-append}
use Prim.Native.Nat.{ℕ, ◌+◌, ◌≤◌, ◌<◌}
use native.Mathlib.Numerals.{add-one}
use native.Mathlib.Omega.{arith}
use Rattle.std.specs.Prelude.{Option, Some, None}
use Rattle.std.proofs.lemmas.Option.{none-some, cond_some}
use lib.ListN.{length, get_or, take, drop, set, drop_of_length-le}
use lib.Seq.{drop-cons, take-suc, take-suc-set, take_all}
use Rattle.console_fields.specs.Field.{is_letter, all_letters, letter_kind}
use Rattle.console_fields.specs.Post.{Lettered}

-- a byte's kind, none where it is no letter
abbrev pub kind_or_none : ℕ → Option ℕ
kind_or_none c = cond (is_letter c) (Some (letter_kind c)) None

not_letter_by : (c : ℕ) → None ≡ kind_or_none c → is_letter c ≡ false
not_letter_by c e = go (is_letter c) e
  where
    go : (t : Bool) → None ≡ cond t (Some (letter_kind c)) None → t ≡ false
    go true e = absurd (none-some _ e)
    go false e = refl

-- THE LOOP
module _ (cs : List ℕ) (i : ℕ) (l : i < length cs) where
  pub letter_not : None ≡ kind_or_none (get_or cs i 0) → all_letters (drop i cs) ≡ false
  unfolding all_letters
  letter_not e = rw (drop-cons cs i 0 l, not_letter_by (get_or cs i 0) e)

  module _ (k : ℕ) (q : Some k ≡ kind_or_none (get_or cs i 0)) where
    kind : (is_letter (get_or cs i 0) ≡ true) × (letter_kind (get_or cs i 0) ≡ k)
    kind = cond_some _ _ _ (sym q)

    pub letter_turn : all_letters (drop i cs) ≡ all_letters (drop (i + 1) cs)
    unfolding all_letters
    letter_turn = rw (add-one i, drop-cons cs i 0 l, kind.0)

    -- one more kind is written
    pub letter_written : (ks : List ℕ) → i < length ks → take i ks ≡ map letter_kind (take i cs) → take (i + 1) (set ks i k) ≡ map letter_kind (take (i + 1) cs)
    letter_written ks m e = rw (add-one i, take-suc-set ks i k m, take-suc cs i 0 l, map-append, e, kind.1)

pub letters_end : (cs : List ℕ) (i : ℕ) → length cs ≤ i → all_letters (drop i cs) ≡ true
unfolding all_letters
letters_end cs i l = rw (drop_of_length-le cs l)

-- a byte that is no letter was met
pub lettered_not : (cs ks : List ℕ) → all_letters cs ≡ false → Lettered cs ks false
lettered_not cs ks e = record { whether = sym e; written = λ t. absurd (never (sym e ∙ t)) }
  where
    never : false ≡ true → ⊥
    never z = let n : ◌≡◌ {A = ℕ} 0 1 = cc in omega arith

-- all were letters
pub lettered_all : (cs ks : List ℕ) (i : ℕ) → i ≡ length cs → all_letters cs ≡ true → take i ks ≡ map letter_kind (take i cs) → Lettered cs ks true
lettered_all cs ks i e t w = record { whether = sym t; written = λ _. rw (← e) (w ∙ ap (λ xs. map letter_kind xs) (take_all i cs (omega arith))) }

-- what `letters` needs of these
pub ruleset letter_steps = (letter_not, letter_turn, letter_written, letters_end, lettered_not, lettered_all)
