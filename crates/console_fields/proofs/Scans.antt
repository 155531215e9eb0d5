-- What is found in a line, byte by byte. Assumes nothing.
use mathlib.Core.Path.{◌≡◌, refl, sym, ◌∙◌}
use mathlib.Core.Bool.{Bool, true, false, ◌&&◌, cond, and-false}
use mathlib.Core.List.{List, [], ◌∷◌}
use Rattle.std.specs.Prelude.{Option, Some, None}
use Rattle.std.specs.List.{position_or_len}
use Rattle.std.proofs.lemmas.List.Recursion.{is_position_or_len}
use Rattle.std.proofs.lemmas.Option.{none-some, cond_some}
use Prim.Native.Nat.{ℕ, suc, ◌+◌, ◌*◌, ◌-◌, ◌≤◌, ◌<◌}
use native.Mathlib.Numerals.{add-one}
use native.Mathlib.Omega.{arith}
use borrow.Author.Tests.{eq-eqb, ne_eqb, lt-ltb, le-ltb, ltb-true, ltb-false}
use lib.Dec.{ltb, eqb}
use lib.Pointwise.{pointwise}
use lib.ListN.{length, get_or, take, drop, length-drop, drop_of_length-le}
use lib.Seq.{drop-cons, take_all}
use Rattle.lists.specs.Lists.{same}
use Rattle.store_types.specs.Limits.{word_limit}
use Rattle.console_fields.specs.Field.{is_digit, all_digits, value_from, well_begun, number_of}
use Rattle.console_fields.specs.Scan.{first_space, scanned}
use Rattle.console_fields.specs.Post.{Split}

-- SPACES
pub first_space_is : (cs : List ℕ) → first_space cs ≡ position_or_len (λ c. eqb c 32) cs
unfolding first_space
first_space_is cs = is_position_or_len first_space (λ c. eqb c 32) refl (λ c cs. let e : 1 + first_space cs ≡ suc (first_space cs) = omega arith in rw e) cs

pub first_space_within : (cs : List ℕ) → first_space cs ≤ length cs
unfolding first_space
first_space_within [] = omega arith
first_space_within (c ∷ cs) = go (eqb c 32) (first_space_within cs)
  where
    go : (t : Bool) → first_space cs ≤ length cs → cond t 0 (suc (first_space cs)) ≤ suc (length cs)
    go true l = omega arith
    go false l = omega arith

module _ (cs : List ℕ) (i : ℕ) where
  pub space_here : i < length cs → get_or cs i 0 ≡ 32 → first_space (drop i cs) ≡ 0
  unfolding first_space
  space_here l e = rw (drop-cons cs i 0 l, eq-eqb (get_or cs i 0) 32 e)

  pub space_turn : i < length cs → (get_or cs i 0 ≡ 32 → ⊥) → first_space (drop i cs) ≡ suc (first_space (drop (i + 1) cs))
  unfolding first_space
  space_turn l n = rw (add-one i, drop-cons cs i 0 l, ne_eqb (get_or cs i 0) 32 n)

  pub space_end : length cs ≤ i → first_space (drop i cs) ≡ 0
  unfolding first_space
  space_end l = rw (drop_of_length-le cs l)

-- what a search for a space says
module _ (cs : List ℕ) {o : Option ℕ} (q : o ≡ cond (ltb (first_space cs) (length cs)) (Some (first_space cs)) None) where
  pub split_some : {e : ℕ} → o ≡ Some e → Split cs (take e cs) (Some (take (length cs - (e + 1)) (drop (e + 1) cs)))
  split_some {e} p =
      let found = cond_some _ _ _ (sym q ∙ p) in
      let here : e ≡ first_space cs = sym found.1 in
      let rest : take (length cs - (e + 1)) (drop (e + 1) cs) ≡ drop (suc (first_space cs)) cs = rw (here, add-one (first_space cs)) (take_all _ (drop (suc (first_space cs)) cs) (omega (arith, length-drop (suc (first_space cs)) cs))) in
      record { front = rw here; rest_is = record { space = ltb-true _ _ found.0; bytes = rest } }

  pub split_none : o ≡ None → Split cs cs None
  split_none p = go (ltb (first_space cs) (length cs)) refl (sym q ∙ p)
    where
      go : (t : Bool) → ltb (first_space cs) (length cs) ≡ t → cond t (Some (first_space cs)) None ≡ None → Split cs cs None
      go true u e = absurd (none-some _ (sym e))
      go false u e =
          let all : first_space cs ≡ length cs = omega (arith, ltb-false _ _ u, first_space_within cs) in
          record { front = sym (take_all (first_space cs) cs (omega arith)); rest_is = all }

-- WORDS
pub pointwise_same : (xs ys : List ℕ) → pointwise eqb xs ys ≡ same xs ys
unfolding same
pointwise_same [] [] = refl
pointwise_same [] (y ∷ ys) = refl
pointwise_same (x ∷ xs) [] = refl
pointwise_same (x ∷ xs) (y ∷ ys) = rw (pointwise_same xs ys) refl

-- DIGITS
module _ (v : ℕ) (cs : List ℕ) (i : ℕ) (l : i < length cs) where
  pub scan_turn : is_digit (get_or cs i 0) ≡ true → v * 10 + (get_or cs i 0 - 48) < word_limit → scanned v (drop i cs) ≡ scanned (v * 10 + (get_or cs i 0 - 48)) (drop (i + 1) cs)
  unfolding scanned
  scan_turn d fits = rw (add-one i, drop-cons cs i 0 l, d, lt-ltb _ _ fits)

  pub scan_over : is_digit (get_or cs i 0) ≡ true → word_limit ≤ v * 10 + (get_or cs i 0 - 48) → scanned v (drop i cs) ≡ None
  unfolding scanned
  scan_over d over = rw (drop-cons cs i 0 l, d, le-ltb _ _ over)

  pub scan_other : is_digit (get_or cs i 0) ≡ false → scanned v (drop i cs) ≡ None
  unfolding scanned
  scan_other d = rw (drop-cons cs i 0 l, d)

pub scan_end : (v : ℕ) (cs : List ℕ) (i : ℕ) → length cs ≤ i → scanned v (drop i cs) ≡ Some v
unfolding scanned
scan_end v cs i l = rw (drop_of_length-le cs l)

-- what `scan` needs of these
pub ruleset scan_steps = (scan_turn, scan_over, scan_other, scan_end)

-- a value never falls with more digits
value_grows : (v : ℕ) (cs : List ℕ) → v ≤ value_from v cs
unfolding value_from
value_grows v [] = omega arith
value_grows v (c ∷ cs) = omega (arith, value_grows (v * 10 + (c - 48)) cs)

-- what is scanned is the value of digits that fits a word
pub scan_value : (v : ℕ) (cs : List ℕ) → v < word_limit → scanned v cs ≡ cond (all_digits cs && ltb (value_from v cs) word_limit) (Some (value_from v cs)) None
unfolding scanned all_digits value_from
scan_value v [] fits = rw (lt-ltb v word_limit fits)
scan_value v (c ∷ cs) fits = go (is_digit c) refl (ltb (v * 10 + (c - 48)) word_limit) refl (λ l. scan_value (v * 10 + (c - 48)) cs l)
  where
    next : ℕ
    next = v * 10 + (c - 48)

    go : (t : Bool) → is_digit c ≡ t → (u : Bool) → ltb next word_limit ≡ u →
        (next < word_limit → scanned next cs ≡ cond (all_digits cs && ltb (value_from next cs) word_limit) (Some (value_from next cs)) None) →
        cond (is_digit c) (cond (ltb next word_limit) (scanned next cs) None) None ≡ cond ((is_digit c && all_digits cs) && ltb (value_from next cs) word_limit) (Some (value_from next cs)) None
    go false e u q rest = rw e
    go true e true q rest = rw (e, q) (rest (ltb-true next word_limit q))
    go true e false q rest = rw (e, q, le-ltb (value_from next cs) word_limit (omega (arith, value_grows next cs, ltb-false next word_limit q)), and-false (all_digits cs))

-- NUMBERS by how they begin
begun : (cs : List ℕ) → well_begun cs ≡ true → number_of cs ≡ scanned 0 cs
unfolding number_of
begun cs e = rw e (sym (scan_value 0 cs (omega arith)))

not_begun : (cs : List ℕ) → well_begun cs ≡ false → number_of cs ≡ None
unfolding number_of
not_begun cs e = rw e

pub number_empty : (cs : List ℕ) → length cs ≡ 0 → number_of cs ≡ None
unfolding well_begun
number_empty [] e = not_begun [] refl
number_empty (c ∷ cs) e = absurd (omega arith)

pub number_single : (cs : List ℕ) → length cs ≡ 1 → number_of cs ≡ scanned 0 cs
unfolding well_begun
number_single [] e = absurd (omega arith)
number_single (c ∷ []) e = begun (c ∷ []) refl
number_single (c ∷ d ∷ cs) e = absurd (omega arith)

pub number_led : (cs : List ℕ) → 2 ≤ length cs → get_or cs 0 0 ≡ 48 → number_of cs ≡ None
unfolding well_begun
number_led [] l e = absurd (omega arith)
number_led (c ∷ []) l e = absurd (omega arith)
number_led (c ∷ d ∷ cs) l e = not_begun (c ∷ d ∷ cs) (rw (eq-eqb c 48 e))

pub number_long : (cs : List ℕ) → 2 ≤ length cs → (get_or cs 0 0 ≡ 48 → ⊥) → number_of cs ≡ scanned 0 cs
unfolding well_begun
number_long [] l n = absurd (omega arith)
number_long (c ∷ []) l n = absurd (omega arith)
number_long (c ∷ d ∷ cs) l n = begun (c ∷ d ∷ cs) (rw (ne_eqb c 48 n))

-- what `read_number` needs of these
pub ruleset number_cases = (number_empty, number_single, number_led, number_long)
