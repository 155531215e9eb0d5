-- A piece's stretch as the code finds it, and what is kept of a line. Assumes nothing.
use mathlib.Core.Path.{◌≡◌, refl, ap, sym, ◌∙◌}
use mathlib.Core.Bool.{Bool, true, false, cond}
use mathlib.Core.List.{List, [], ◌∷◌, ◌++◌}
use Prim.Native.Nat.{ℕ, zero, suc, ◌+◌, ◌-◌, ◌≤◌, min}
use native.Mathlib.Omega.{arith}
use borrow.Author.Tests.{ltb-false}
use lib.Dec.{eqb, ltb}
use lib.ListN.{length, take, length-append}
use lib.Seq.{take_all, take-take, take-append-add, take_at, length-take-le}
use mathlib.Core.Logic.{by_cases}
use native.Mathlib.Decide.{dec_le}
use Rattle.std.specs.Prelude.{Option, Some, None, unwrap_or}
use Rattle.std.specs.List.{position_or_len}
use Rattle.std.proofs.lemmas.List.{take_min}
use Rattle.std.proofs.lemmas.List.Recursion.{is_position_or_len}
use Rattle.line_reader.specs.Gather.{stretch, Holds}

-- what is kept of a line is kept of what is kept with more after it
pub take_more : (n : ℕ) (xs ys : List ℕ) → take n (take n xs ++ ys) ≡ take n (xs ++ ys)
take_more zero xs ys = refl
take_more (suc n) [] ys = refl
take_more (suc n) (x ∷ xs) ys = ap (λ l. x ∷ l) (take_more n xs ys)

pub take_short : (n : ℕ) (xs : List ℕ) → length (take n xs) ≤ n
take_short zero xs = omega arith
take_short (suc n) [] = omega arith
take_short (suc n) (x ∷ xs) = omega (arith, take_short n xs)

-- A STRETCH reaches to the first line feed
pub stretch_front : (p : List ℕ) → take (length (stretch p)) p ≡ stretch p
unfolding stretch
stretch_front [] = refl
stretch_front (c ∷ p) = go (eqb c 10) (stretch_front p)
  where
    go : (t : Bool) → take (length (stretch p)) p ≡ stretch p → take (length (cond t [] (c ∷ stretch p))) (c ∷ p) ≡ cond t [] (c ∷ stretch p)
    go true e = refl
    go false e = ap (λ l. c ∷ l) e

stretch_place : (p : List ℕ) → length (stretch p) ≡ position_or_len (λ c. eqb c 10) p
unfolding stretch
stretch_place p = is_position_or_len (λ q. length (stretch q)) (λ c. eqb c 10) refl (λ c q. step c q) p
  where
    step : (c : ℕ) (q : List ℕ) → length (stretch (c ∷ q)) ≡ cond (eqb c 10) 0 (1 + length (stretch q))
    step c q = go (eqb c 10)
      where
        go : (t : Bool) → length (cond t [] (c ∷ stretch q)) ≡ cond t 0 (1 + length (stretch q))
        go true = refl
        go false = omega arith

pub stretch_within : (p : List ℕ) → length (stretch p) ≤ length p
unfolding stretch
stretch_within [] = omega arith
stretch_within (c ∷ p) = go (eqb c 10) (stretch_within p)
  where
    go : (t : Bool) → length (stretch p) ≤ length p → length (cond t [] (c ∷ stretch p)) ≤ suc (length p)
    go true l = omega arith
    go false l = omega arith

-- what a search for a line feed says
pub stretch_found : (p : List ℕ) {end : Option ℕ} {taken : ℕ} →
    end ≡ cond (ltb (position_or_len (λ c. eqb c 10) p) (length p)) (Some (position_or_len (λ c. eqb c 10) p)) None → taken ≡ unwrap_or end (length p) → taken ≡ length (stretch p)
stretch_found p {taken = taken} e f = go (ltb (position_or_len (λ c. eqb c 10) p) (length p)) refl (f ∙ ap (λ o. unwrap_or o (length p)) e)
  where
    go : (t : Bool) → ltb (position_or_len (λ c. eqb c 10) p) (length p) ≡ t → taken ≡ unwrap_or (cond t (Some (position_or_len (λ c. eqb c 10) p)) None) (length p) → taken ≡ length (stretch p)
    go true q g = g ∙ sym (stretch_place p)
    go false q g = omega (arith, g, ltb-false _ _ q, stretch_place p, stretch_within p)

-- LENT BYTES: what is in hand is no more than they have, and what is kept of a stretch goes after it
pub take_within : (held h : ℕ) (line : List ℕ) → h ≡ min held (length line) → take h line ≡ take held line
take_within held h line m =
    by_cases (dec_le held (length line))
    (λ l. let q : h ≡ held = omega arith in rw q)
    (λ n. let q : h ≡ length line = omega arith in rw q (take_all (length line) line (omega arith) ∙ sym (take_all held line (omega arith))))

module _ (line piece rest : List ℕ) (held : ℕ) {begun taken kept : ℕ} (b : begun ≡ min held (length line)) (t : taken ≡ length (stretch piece))
    (k : kept ≡ min taken (length line - begun)) (r : begun + kept + length rest ≡ length line) where
  begun_long : length (take begun line) ≡ begun
  begun_long = length-take-le begun line (omega (arith, b))

  enough : length (take kept piece) ≡ kept
  enough = length-take-le kept piece (omega (arith, k, t, stretch_within piece))

  some : take kept piece ≡ take (length line - begun) (stretch piece)
  some =
      let whole : take taken piece ≡ stretch piece = rw t (stretch_front piece) in
      let fewer : kept ≡ min (length line - begun) (length (stretch piece)) = omega (arith, k, t) in
      let kept_of : take kept (stretch piece) ≡ take (length line - begun) (stretch piece) = rw fewer (take_min (length line - begun) (stretch piece)) in
      sym (take-take kept taken piece (omega (arith, k))) ∙ ap (λ xs. take kept xs) whole ∙ kept_of

  left : take (begun + kept) (take begun line ++ (take kept piece ++ rest)) ≡ take begun line ++ take kept piece
  left =
      ap (λ m. take (m + kept) (take begun line ++ (take kept piece ++ rest))) (sym begun_long) ∙
      take-append-add (take begun line) (take kept piece ++ rest) kept ∙
      ap (λ xs. take begun line ++ xs) (take_at (take kept piece) rest kept enough)

  right : take (length line) (take held line ++ stretch piece) ≡ take begun line ++ take kept piece
  right =
      let room : length line ≡ length (take begun line) + (length line - begun) = omega (arith, b, begun_long) in
      ap (λ xs. take (length line) (xs ++ stretch piece)) (sym (take_within held begun line b)) ∙
      ap (λ m. take m (take begun line ++ stretch piece)) room ∙
      take-append-add (take begun line) (stretch piece) (length line - begun) ∙
      ap (λ xs. take begun line ++ xs) (sym some)

  pub held_in_lent : Holds (take held line ++ stretch piece) (take begun line ++ (take kept piece ++ rest)) (begun + kept)
  held_in_lent =
      let size : length (take begun line ++ (take kept piece ++ rest)) ≡ length line = omega (arith, length-append (take begun line) (take kept piece ++ rest), length-append (take kept piece) rest, begun_long, enough, r) in
      record { fits = omega (arith, size, r); front = rw size (left ∙ sym right) }
