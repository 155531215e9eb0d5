-- What scanners find lies within the text. Assumes nothing.
use mathlib.Core.Path.{◌≡◌}
use mathlib.Core.Bool.{Bool, true}
use mathlib.Core.List.{List, [], ◌∷◌}
use mathlib.Core.Option.{some}
use Prim.Native.Nat.{ℕ, zero, suc, pred, ◌+◌, ◌≤◌, ◌<◌}
use native.Mathlib.Omega.{arith}
use lib.Dec.{eqb}
use lib.ListN.{length, drop, length-drop}
use Rattle.lists.proofs.Tests.{by_test}
use Rattle.lists.specs.Fronts.{starts_with}
use Rattle.lists.proofs.Fronts.{starts_fits}
use Rattle.xml.specs.Bytes.{is_space, is_name_start, is_name_char}
use Rattle.xml_laws.proofs.Data.{later_some}
use Rattle.xml.specs.Scan.{run, name_length, value_step, value_length}

run_within : (f : ℕ → Bool) (cs : List ℕ) → run f cs ≤ length cs
unfolding run
run_within f [] = omega arith
run_within f (c ∷ cs) = let l = run_within f cs in by_test (f c) (λ e. rw e (omega arith)) (λ e. rw e (omega arith))

name_within : (cs : List ℕ) → name_length cs ≤ length cs
unfolding name_length
name_within [] = omega arith
name_within (c ∷ cs) =
    let l = run_within is_name_char cs in by_test (is_name_start c) (λ e. rw e (omega arith)) (λ e. rw e (omega arith))

-- PLACES where spaces and names end
pub spaces_within : (text : List ℕ) (i : ℕ) → i ≤ length text → i + run is_space (drop i text) ≤ length text
spaces_within text i l = omega (arith, run_within is_space (drop i text), length-drop i text)

pub name_end_within : (text : List ℕ) (i : ℕ) → i ≤ length text → i + name_length (drop i text) ≤ length text
name_end_within text i l = omega (arith, name_within (drop i text), length-drop i text)

-- A VALUE stands before its quote
pub value_within : (q m : ℕ) (cs : List ℕ) (n : ℕ) → value_length q m cs ≡ some n → n < length cs
unfolding value_length
value_within q m [] n e = absurd (let z : ◌≡◌ {A = ℕ} 0 1 = cc in omega arith)
value_within q (suc m) (c ∷ cs) n e =
    let s = later_some (value_length q m cs) n e in omega (arith, value_within q m cs s.0 s.1, s.2)
value_within q zero (c ∷ cs) n e =
    by_test (eqb c q)
    (λ t. let z : 0 ≡ n = cc (rw t at e) in omega arith)
    (λ t. by_test (eqb (value_step (c ∷ cs)) 0)
    (λ u. absurd (let z : ◌≡◌ {A = ℕ} 0 1 = cc (rw (t, u) at e) in omega arith))
    (λ u.
    let s = later_some (value_length q (pred (value_step (c ∷ cs))) cs) n (rw (t, u) at e) in
    omega (arith, value_within q (pred (value_step (c ∷ cs))) cs s.0 s.1, s.2)))

-- A STRING that stands at a place
pub stands_within : (xs text : List ℕ) (i : ℕ) → i ≤ length text → starts_with xs (drop i text) ≡ true → i + length xs ≤ length text
stands_within xs text i l e = omega (arith, starts_fits xs (drop i text) e, length-drop i text)
