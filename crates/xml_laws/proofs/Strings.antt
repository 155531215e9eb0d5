-- Strings and bytes: which strings are the same, and which bytes cannot be of two kinds. Assumes nothing.
use mathlib.Core.Path.{◌≡◌, refl, sym, ◌∙◌}
use mathlib.Core.Bool.{Bool, true, false, true≢false}
use mathlib.Core.List.{List}
use Prim.Native.Nat.{ℕ}
use borrow.Author.Tests.{eqb-true, ne_eqb}
use lib.Dec.{eqb}
use Rattle.lists.specs.Lists.{same}
use Rattle.lists.proofs.Tests.{by_test, fails}
use Rattle.lists.proofs.Same.{same_refl, same_equal}
use Rattle.xml.specs.Bytes.{is_space, is_name_start, is_name_char}
use Rattle.xml.specs.Grammar.{is_quote}

-- the test of equal strings
pub equal_same : (xs ys : List ℕ) → xs ≡ ys → same xs ys ≡ true
equal_same xs ys e = rw e (same_refl ys)

pub same_symmetric : (xs ys : List ℕ) → same xs ys ≡ same ys xs
same_symmetric xs ys =
    by_test
    (same xs ys)
    (λ e. e ∙ sym (equal_same ys xs (sym (same_equal xs ys e))))
    (λ e. e ∙ sym (fails (same ys xs) (λ t. true≢false (sym (equal_same xs ys (sym (same_equal ys xs t))) ∙ e))))

-- BYTES. A byte that passes a test is none that fails it
pub bytes_apart : (f : ℕ → Bool) (c d : ℕ) → f c ≡ true → f d ≡ false → eqb c d ≡ false
bytes_apart f c d p q =
    ne_eqb c d (λ e. true≢false (sym p ∙ rw e q))

-- what holds of a byte holds of those that are equal to it
pub byte_is : (f : ℕ → Bool) (b : Bool) (c d : ℕ) → eqb c d ≡ true → f d ≡ b → f c ≡ b
byte_is f b c d e h = rw (eqb-true c d e) h

-- a test that answers alike on the four spaces answers so on every space
pub on_spaces : (f : ℕ → Bool) (b : Bool) (c : ℕ) → f 32 ≡ b → f 9 ≡ b → f 13 ≡ b → f 10 ≡ b → is_space c ≡ true → f c ≡ b
unfolding is_space
on_spaces f b c p q r s h =
    by_test
    (eqb c 32)
    (λ e. byte_is f b c 32 e p)
    (λ e₁. by_test
    (eqb c 9)
    (λ e. byte_is f b c 9 e q)
    (λ e₂. by_test
    (eqb c 13)
    (λ e. byte_is f b c 13 e r)
    (λ e₃. byte_is f b c 10 (rw (e₁, e₂, e₃) at h) s)))

-- and one that answers alike on both quotes, on every quote
pub on_quotes : (f : ℕ → Bool) (b : Bool) (c : ℕ) → f 34 ≡ b → f 39 ≡ b → is_quote c ≡ true → f c ≡ b
unfolding is_quote
on_quotes f b c p q h =
    by_test (eqb c 34) (λ e. byte_is f b c 34 e p) (λ e₁. byte_is f b c 39 (rw e₁ at h) q)

-- a space is no byte of a name, and a name begins with no space
pub space_not_name : (c : ℕ) → is_space c ≡ true → is_name_char c ≡ false
unfolding is_name_char is_name_start
space_not_name c = on_spaces is_name_char false c refl refl refl refl

pub start_is_name : (c : ℕ) → is_name_start c ≡ true → is_name_char c ≡ true
unfolding is_name_char
start_is_name c h = rw h

pub name_not_space : (c : ℕ) → is_name_char c ≡ true → is_space c ≡ false
name_not_space c h = fails (is_space c) (λ s. true≢false (sym h ∙ space_not_name c s))

pub start_not_space : (c : ℕ) → is_name_start c ≡ true → is_space c ≡ false
start_not_space c h = name_not_space c (start_is_name c h)

-- a quote is neither
pub quote_not_space : (c : ℕ) → is_quote c ≡ true → is_space c ≡ false
unfolding is_space
quote_not_space c = on_quotes is_space false c refl refl
