-- Runs of bytes that pass a test: what is passed and what is left make up the whole run. Assumes nothing.
use mathlib.Core.Path.{◌≡◌, refl}
use mathlib.Core.Bool.{Bool, true, false}
use mathlib.Core.List.{List}
use Prim.Native.Nat.{ℕ, suc, ◌+◌, ◌-◌, ◌≤◌, ◌<◌}
use native.Mathlib.Numerals.{add-one}
use native.Mathlib.Omega.{arith}
use borrow.Author.Tests.{ltb-true, ltb-false}
use lib.Dec.{ltb}
use lib.ListN.{length, get_or, drop, drop_of_length-le}
use lib.Seq.{drop-cons}
use Rattle.lists.proofs.Tests.{by_test}
use Rattle.xml.specs.Bytes.{is_name_start, is_name_char}
use Rattle.xml.specs.Scan.{run, name_length}

-- at place i of a run that began at from
pub record Running (test : ℕ → Bool) (text : List ℕ) (from i : ℕ) : Type 0 where
  pub within : i ≤ length text
  pub rest : i + run test (drop i text) ≡ from + run test (drop from text)

pub running_start : (test : ℕ → Bool) (text : List ℕ) (from : ℕ) → from ≤ length text → Running test text from from
running_start f text from l = record { within = l; rest = refl }

-- a run of the text from a place on, by its first byte
run_on : (f : ℕ → Bool) (text : List ℕ) (i : ℕ) → i < length text → f (get_or text i 0) ≡ true → run f (drop i text) ≡ suc (run f (drop (i + 1) text))
unfolding run
run_on f text i l e = rw (add-one i, drop-cons text i 0 l, e)

run_none : (f : ℕ → Bool) (text : List ℕ) (i : ℕ) → i < length text → f (get_or text i 0) ≡ false → run f (drop i text) ≡ 0
unfolding run
run_none f text i l e = rw (drop-cons text i 0 l, e)

run_end : (f : ℕ → Bool) (text : List ℕ) (i : ℕ) → length text ≤ i → run f (drop i text) ≡ 0
unfolding run
run_end f text i l = rw (drop_of_length-le text l)

-- a run that is not empty: its first byte, and the rest of it
module _ (f : ℕ → Bool) (text : List ℕ) (i n : ℕ) (e : run f (drop i text) ≡ suc n) where
  pub run_within : i < length text
  run_within = by_test (ltb i (length text)) (ltb-true _ _) (λ q. absurd (omega (arith, e, run_end f text i (ltb-false _ _ q))))

  pub run_first : f (get_or text i 0) ≡ true
  run_first = by_test (f (get_or text i 0)) (λ t. t) (λ q. absurd (omega (arith, e, run_none f text i run_within q)))

  pub run_rest : run f (drop (i + 1) text) ≡ n
  run_rest = omega (arith, e, run_on f text i run_within run_first)

module _ {test : ℕ → Bool} {text : List ℕ} {from i : ℕ} (h : Running test text from i) where
  pub running_turn : i < length text → test (get_or text i 0) ≡ true → Running test text from (i + 1)
  running_turn l e = record { within = omega arith; rest = omega (arith, h.rest, run_on test text i l e) }

  -- the same, at a place that is the next by another name
  pub running_next : (j : ℕ) → j ≡ i + 1 → i < length text → test (get_or text i 0) ≡ true → Running test text from j
  running_next j e l t = rw e (running_turn l t)

  pub running_stop : i < length text → test (get_or text i 0) ≡ false → i ≡ from + run test (drop from text)
  running_stop l e = omega (arith, h.rest, run_none test text i l e)

  pub running_end : length text ≤ i → i ≡ from + run test (drop from text)
  running_end l = omega (arith, h.rest, run_end test text i l)

-- FOUR BYTES IN ONE TURN: what is passed behind each of them
module _ {test : ℕ → Bool} {text : List ℕ} {from i : ℕ} (h : Running test text from i) (l : 4 ≤ length text - i) (a : test (get_or text i 0) ≡ true) where
  pub passed_1 : Running test text from (i + 1)
  passed_1 = running_turn h (omega arith) a

  module _ (b : test (get_or text (i + 1) 0) ≡ true) where
    pub passed_2 : Running test text from (i + 2)
    passed_2 = running_next passed_1 (i + 2) (omega arith) (omega arith) b

    module _ (d : test (get_or text (i + 2) 0) ≡ true) where
      pub passed_3 : Running test text from (i + 3)
      passed_3 = running_next passed_2 (i + 3) (omega arith) (omega arith) d

      pub passed_4 : test (get_or text (i + 3) 0) ≡ true → Running test text from (i + 4)
      passed_4 e = running_next passed_3 (i + 4) (omega arith) (omega arith) e

-- NAMES: none at the text's end, none at a byte that begins none, else a run behind the first byte
pub name_none : (text : List ℕ) (from : ℕ) → length text ≤ from → from ≡ from + name_length (drop from text)
unfolding name_length
name_none text from l = let e : from + 0 ≡ from = omega arith in rw (drop_of_length-le text l, e)

pub name_other : (text : List ℕ) (from : ℕ) → from < length text → is_name_start (get_or text from 0) ≡ false → from ≡ from + name_length (drop from text)
unfolding name_length
name_other text from l n = let e : from + 0 ≡ from = omega arith in rw (drop-cons text from 0 l, n, e)

pub name_run : (text : List ℕ) (from : ℕ) {e : ℕ} → from < length text → is_name_start (get_or text from 0) ≡ true →
    e ≡ from + 1 + run is_name_char (drop (from + 1) text) → e ≡ from + name_length (drop from text)
unfolding name_length
name_run text from l t r = rw (drop-cons text from 0 l, t, ← add-one from) (omega (arith, r))
