-- Character data: the test of a byte, and the scan by it. Assumes nothing.
use mathlib.Core.Path.{◌≡◌, refl, sym}
use mathlib.Core.Bool.{Bool, true, false, ◌&&◌, ◌||◌, not, cond, and-false}
use mathlib.Core.List.{List, [], ◌∷◌}
use mathlib.Core.Option.{Option, none, some}
use Prim.Native.Nat.{ℕ, ◌+◌, ◌≤◌, ◌<◌}
use native.Mathlib.Numerals.{add-one}
use borrow.Author.Tests.{ne_eqb}
use lib.Dec.{eqb}
use lib.ListN.{length, get_or, drop, drop_of_length-le}
use lib.Seq.{drop-cons}
use Rattle.lists.specs.Fronts.{starts_with}
use Rattle.xml.specs.Bytes.{class_of, is_char, is_space, is_name_start, is_name_char, less_than, ampersand, bracket, cdata_closes}
use Rattle.xml.specs.declared.Class.TheVariants.{Forbidden, Other}
use Rattle.xml.specs.Scan.{later, data_length}
use Rattle.xml_classes.specs.Classes.{is_usual}
use Rattle.xml_scan.specs.declared.bodies.Datum.{Datum}
use Rattle.xml_scan.specs.declared.bodies.Datum.TheVariants.{GoesOn, Ends, Broken}
use Rattle.xml_scan.specs.Data.{data_test}
use Rattle.xml_classes.proofs.ByteTests.{char_no, char_yes, usual_not_other, usual_not_forbidden, usual_small}

-- THE SCAN by the test: a is that data ends, b that it goes on
abbrev tested : (a b : Bool) → Datum
tested a b = cond a Ends (cond b GoesOn Broken)

abbrev scanned : (a b : Bool) → (more : Option ℕ) → Option ℕ
scanned a b more = cond a (some 0) (cond b more none)

ended : (a b : Bool) (more : Option ℕ) → tested a b ≡ Ends → scanned a b more ≡ some 0
ended true b more e = refl
ended false true more e = cc
ended false false more e = cc

broken : (a b : Bool) (more : Option ℕ) → tested a b ≡ Broken → scanned a b more ≡ none
broken true b more e = cc
broken false true more e = cc
broken false false more e = refl

on : (a b : Bool) (more : Option ℕ) → tested a b ≡ GoesOn → scanned a b more ≡ more
on true b more e = cc
on false true more e = refl
on false false more e = cc

pub data_ended : (cs : List ℕ) → data_test cs ≡ Ends → data_length cs ≡ some 0
unfolding data_length data_test
data_ended [] e = refl
data_ended (c ∷ cs) e =
    ended (eqb c less_than || eqb c ampersand) (is_char c && not (starts_with cdata_closes (c ∷ cs))) (later (data_length cs)) e

pub data_broken : (cs : List ℕ) → data_test cs ≡ Broken → data_length cs ≡ none
unfolding data_length data_test
data_broken [] e = cc
data_broken (c ∷ cs) e =
    broken (eqb c less_than || eqb c ampersand) (is_char c && not (starts_with cdata_closes (c ∷ cs))) (later (data_length cs)) e

data_later : (c : ℕ) (cs : List ℕ) → data_test (c ∷ cs) ≡ GoesOn → data_length (c ∷ cs) ≡ later (data_length cs)
unfolding data_length data_test
data_later c cs e =
    on (eqb c less_than || eqb c ampersand) (is_char c && not (starts_with cdata_closes (c ∷ cs))) (later (data_length cs)) e

pub data_over : (text : List ℕ) (i : ℕ) → length text ≤ i → data_length (drop i text) ≡ some 0
unfolding data_length
data_over text i l = rw (drop_of_length-le text l)

pub data_on : (text : List ℕ) (i : ℕ) → i < length text → data_test (drop i text) ≡ GoesOn →
    data_length (drop i text) ≡ later (data_length (drop (i + 1) text))
data_on text i l e =
    let d = drop-cons text i 0 l in rw (add-one i, d) (data_later (get_or text i 0) _ (rw d at e))

-- THE TEST of a byte
module _ (text : List ℕ) (i : ℕ) (l : i < length text) where
  pub test_less : get_or text i 0 ≡ less_than → Ends ≡ data_test (drop i text)
  unfolding data_test
  test_less e = rw (drop-cons text i 0 l, e)

  pub test_ampersand : get_or text i 0 ≡ ampersand → Ends ≡ data_test (drop i text)
  unfolding data_test
  test_ampersand e = rw (drop-cons text i 0 l, e)

  -- a byte that ends nothing, by whether it is forbidden and whether ]]> stands there
  told : (t u : Bool) → is_char (get_or text i 0) ≡ t → starts_with cdata_closes (drop i text) ≡ u →
      (get_or text i 0 ≡ less_than → ⊥) → (get_or text i 0 ≡ ampersand → ⊥) → tested false (t && not u) ≡ data_test (drop i text)
  unfolding data_test
  told t u e f n m = let d = drop-cons text i 0 l in rw (d, ne_eqb _ _ n, ne_eqb _ _ m, e, (rw d at f))

  pub test_closer : (get_or text i 0 ≡ less_than → ⊥) → (get_or text i 0 ≡ ampersand → ⊥) → starts_with cdata_closes (drop i text) ≡ true → Broken ≡ data_test (drop i text)
  test_closer n m e = rw (← told _ _ refl e n m, and-false (is_char (get_or text i 0)))

  no_closer : (get_or text i 0 ≡ bracket → ⊥) → starts_with cdata_closes (drop i text) ≡ false
  unfolding starts_with
  no_closer n = rw (drop-cons text i 0 l, ne_eqb _ _ (λ e. n (sym e)))

  module _ (small : get_or text i 0 < 256) where
    -- bytes of the last class are others
    other : (c : ℕ) → class_of c ≡ Other → (class_of (get_or text i 0) ≡ Other → ⊥) → get_or text i 0 ≡ c → ⊥
    other c f n g = n (rw g f)

    pub test_forbidden : class_of (get_or text i 0) ≡ Forbidden → Broken ≡ data_test (drop i text)
    unfolding class_of is_char is_space is_name_start is_name_char
    test_forbidden z =
        let n : class_of (get_or text i 0) ≡ Other → ⊥ = λ o. cc (z, o) in
        told false _ (char_no _ small z) refl (other less_than refl n) (other ampersand refl n)

    module _ (z : class_of (get_or text i 0) ≡ Forbidden → ⊥) where
      char : is_char (get_or text i 0) ≡ true
      char = char_yes _ small z

      pub test_on : (get_or text i 0 ≡ less_than → ⊥) → (get_or text i 0 ≡ ampersand → ⊥) → starts_with cdata_closes (drop i text) ≡ false → GoesOn ≡ data_test (drop i text)
      test_on n m f = told true false char f n m

      pub test_other : (get_or text i 0 ≡ less_than → ⊥) → (get_or text i 0 ≡ ampersand → ⊥) → (get_or text i 0 ≡ bracket → ⊥) → GoesOn ≡ data_test (drop i text)
      test_other n m b = test_on n m (no_closer b)

      pub test_plain : (class_of (get_or text i 0) ≡ Other → ⊥) → GoesOn ≡ data_test (drop i text)
      unfolding class_of is_char is_space is_name_start is_name_char
      test_plain n = test_other (other less_than refl n) (other ampersand refl n) (other bracket refl n)

-- data goes on after a usual byte
pub data_usual : (text : List ℕ) (i : ℕ) → i < length text → is_usual (get_or text i 0) ≡ true → data_length (drop i text) ≡ later (data_length (drop (i + 1) text))
data_usual text i l e =
    let small = usual_small _ e in
    data_on text i l (sym (test_plain text i l small (usual_not_forbidden _ small e) (usual_not_other _ small e)))
