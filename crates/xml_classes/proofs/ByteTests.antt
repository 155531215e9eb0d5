-- The classes of bytes: a table's entries, and the tests of a byte by its class, each by one test that is computed at all 256
-- bytes. Assumes nothing.
use mathlib.Core.Path.{◌≡◌, refl, sym, ◌∙◌}
use mathlib.Core.Bool.{Bool, true, false, ◌&&◌, not, cond, and-false, false≢true}
use mathlib.Core.List.{List}
use mathlib.Core.Logic.{◌⊎◌, ⊎_elim}
use Prim.Native.Nat.{ℕ, zero, suc, ◌≤◌, ◌<◌}
use native.Mathlib.Omega.{arith}
use borrow.Author.Rules.{rules}
use borrow.Author.Tests.{eqb-true, eqb-false, ne_eqb, not-true, ltb-true, ltb-false, le-ltb, lt-leb}
use denote.Enum.Bare.{sameb, same_true}
use lib.Dec.{eqb, leb, ltb}
use lib.ListN.{get_or}
use Rattle.lists.proofs.Tests.{by_test, and_left, and_right, or_left_false, or_right_false}
use Rattle.xml_classes.specs.Classes.{is_usual}
use Rattle.xml.specs.contracts.Class.{the_type}
use Rattle.xml.specs.declared.Class.{Class}
use Rattle.xml.specs.declared.Class.TheVariants.{Forbidden, Space, NameStart, NameOnly, Other}
use Rattle.xml.specs.Bytes.{class_of, is_char, is_space, is_name_start, is_name_char}

-- EVERY NUMBER below a bound passes a test
unfoldable pub all_below : (test : ℕ → Bool) → (bound : ℕ) → Bool
all_below f zero = true
all_below f (suc n) = f n && all_below f n

below : (f : ℕ → Bool) (n : ℕ) → all_below f n ≡ true → (k : ℕ) → k < n → f k ≡ true
unfolding all_below
below f zero e k l = absurd (omega arith)
below f (suc n) e k l =
    by_test (eqb k n)
    (λ q. rw (eqb-true k n q) (and_left (f n) (all_below f n) e))
    (λ q. below f n (and_right (f n) (all_below f n) e) k (omega (arith, eqb-false k n q)))

equal_below : (f g : ℕ → ℕ) (n : ℕ) → all_below (λ k. eqb (f k) (g k)) n ≡ true → (k : ℕ) → k < n → f k ≡ g k
equal_below f g n e k l = eqb-true (f k) (g k) (below (λ k. eqb (f k) (g k)) n e k l)

-- whether two answers agree
unfoldable pub agree : Bool → Bool → Bool
agree t u = cond t u (not u)

agreed : (t u : Bool) → agree t u ≡ true → t ≡ u
unfolding agree
agreed true u e = sym e
agreed false u e = sym (not-true u e)

pub same_below : (f g : ℕ → Bool) (n : ℕ) → all_below (λ k. agree (f k) (g k)) n ≡ true → (k : ℕ) → k < n → f k ≡ g k
same_below f g n e k l = agreed (f k) (g k) (below (λ k. agree (f k) (g k)) n e k l)

-- whether two classes are one, as the code compares them
abbrev pub same_class : Class → Class → Bool
same_class = sameb the_type

-- THE TABLE: one test of all its entries
pub table_classes : (classes : List Class) → all_below (λ b. same_class (get_or classes b Forbidden) (class_of b)) 256 ≡ true → (b : ℕ) → b < 256 → get_or classes b Forbidden ≡ class_of b
table_classes cs e b l = same_true the_type (search rules) (get_or cs b Forbidden) (class_of b) (below (λ k. same_class (get_or cs k Forbidden) (class_of k)) 256 e b l)

-- BY CLASS
pub char_class : (b : ℕ) → b < 256 → not (same_class (class_of b) Forbidden) ≡ is_char b
unfolding all_below agree class_of is_char is_space is_name_start is_name_char
char_class = same_below (λ b. not (same_class (class_of b) Forbidden)) is_char 256 refl

pub start_class : (b : ℕ) → b < 256 → same_class (class_of b) NameStart ≡ is_name_start b
unfolding all_below agree class_of is_char is_space is_name_start is_name_char
start_class = same_below (λ b. same_class (class_of b) NameStart) is_name_start 256 refl

-- every number that is no byte is forbidden, and not usual
pub class_large : (c : ℕ) → 256 ≤ c → class_of c ≡ Forbidden
unfolding class_of is_char
class_large c l = rw (le-ltb c 128 (omega arith))

pub usual_large : (c : ℕ) → 256 ≤ c → is_usual c ≡ false
unfolding is_usual is_space is_name_char is_name_start
usual_large c l =
    let n : (k : ℕ) → k < 256 → eqb c k ≡ false = λ k m. ne_eqb c k (omega arith) in
    let g : (k : ℕ) → k < 256 → leb c k ≡ false = λ k m. lt-leb c k (omega arith) in
    rw (
      n 32 (omega arith),
      n 9 (omega arith),
      n 13 (omega arith),
      n 10 (omega arith),
      n 58 (omega arith),
      n 95 (omega arith),
      n 45 (omega arith),
      n 46 (omega arith),
      g 90 (omega arith),
      g 122 (omega arith),
      g 57 (omega arith),
      and-false (leb 65 c),
      and-false (leb 97 c),
      and-false (leb 48 c),
    )

-- a test of classes that forbidden numbers fail, and a test that numbers fail which are not usual: where they agree at every byte, they
-- agree at every number
by_classes : (t : Class → Bool) (f : ℕ → Bool) → t Forbidden ≡ false → all_below (λ b. agree (t (class_of b)) (f b)) 256 ≡ true →
    ((c : ℕ) → is_usual c ≡ false → f c ≡ false) → (c : ℕ) → t (class_of c) ≡ f c
by_classes t f out e none c =
    by_test (ltb c 256) (λ q. same_below (λ b. t (class_of b)) f 256 e c (ltb-true c 256 q))
    (λ q. let g = ltb-false c 256 q in rw (class_large c g, out, none c (usual_large c g)))

pub space_class : (b : ℕ) → same_class (class_of b) Space ≡ is_space b
unfolding all_below agree class_of is_char is_space is_name_start is_name_char is_usual
space_class = by_classes (λ k. same_class k Space) is_space refl refl (λ c. or_left_false (is_space c) (is_name_char c))

-- by the classes of bytes of names, and of usual bytes
unfoldable pub of_names : Class → Bool
of_names Forbidden = false
of_names Space = false
of_names NameStart = true
of_names NameOnly = true
of_names Other = false

pub name_class : (b : ℕ) → of_names (class_of b) ≡ is_name_char b
unfolding all_below agree class_of is_char is_space is_name_start is_name_char is_usual of_names
name_class = by_classes of_names is_name_char refl refl (λ c. or_right_false (is_space c) (is_name_char c))

pub usual_class : (b : ℕ) → (not (same_class (class_of b) Other) && not (same_class (class_of b) Forbidden)) ≡ is_usual b
unfolding all_below agree class_of is_char is_space is_name_start is_name_char is_usual
usual_class = by_classes (λ k. not (same_class k Other) && not (same_class k Forbidden)) is_usual refl refl (λ c e. e)

pub usual_if : (b : ℕ) (k : Class) → k ≡ class_of b → not (same_class k Other) ≡ true → not (same_class k Forbidden) ≡ is_usual b
usual_if b k e o = rw (← usual_class b, ← e, o)

pub usual_else : (b : ℕ) (k : Class) → k ≡ class_of b → not (same_class k Other) ≡ false → false ≡ is_usual b
usual_else b k e o = rw (← usual_class b, ← e, o)

-- one of two classes, or none of them
pub names_yes : (k : Class) → (k ≡ NameStart) ⊎ (k ≡ NameOnly) → true ≡ of_names k
unfolding of_names
names_yes k = ⊎_elim (λ e. rw e) (λ e. rw e)

pub names_no : (k : Class) → (k ≡ NameStart → ⊥) → (k ≡ NameOnly → ⊥) → false ≡ of_names k
unfolding of_names
names_no Forbidden n o = refl
names_no Space n o = refl
names_no NameStart n o = absurd (n refl)
names_no NameOnly n o = absurd (o refl)
names_no Other n o = refl

-- a byte is forbidden by its class alone, and a usual byte is neither forbidden nor of the last class
pub char_no : (b : ℕ) → b < 256 → class_of b ≡ Forbidden → is_char b ≡ false
char_no b l e = rw (← char_class b l, e)

pub char_yes : (b : ℕ) → b < 256 → (class_of b ≡ Forbidden → ⊥) → is_char b ≡ true
char_yes b l n =
    by_test (same_class (class_of b) Forbidden) (λ t. absurd (n (same_true the_type (search rules) _ _ t))) (λ t. rw (← char_class b l, t))

pub usual_not_forbidden : (b : ℕ) → b < 256 → is_usual b ≡ true → class_of b ≡ Forbidden → ⊥
usual_not_forbidden b l u e = false≢true (sym (out b l e) ∙ u)
  where
    out : (b : ℕ) → b < 256 → class_of b ≡ Forbidden → is_usual b ≡ false
    out b l e = rw (← usual_class b, e)

pub usual_not_other : (b : ℕ) → b < 256 → is_usual b ≡ true → class_of b ≡ Other → ⊥
usual_not_other b l u e = false≢true (sym (out b l e) ∙ u)
  where
    out : (b : ℕ) → b < 256 → class_of b ≡ Other → is_usual b ≡ false
    out b l e = rw (← usual_class b, e)

pub usual_small : (c : ℕ) → is_usual c ≡ true → c < 256
usual_small c e = by_test (ltb c 256) (ltb-true c 256) (λ q. absurd (false≢true (sym (usual_large c (ltb-false c 256 q)) ∙ e)))
