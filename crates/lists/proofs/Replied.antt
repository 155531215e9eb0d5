-- What a call gives and writes by its refusal: what is accepted where it is 0, else the refusal and nothing new. Assumes nothing.
use mathlib.Core.Path.{◌≡◌, refl}
use mathlib.Core.Bool.{Bool, true, false, cond}
use mathlib.Core.List.{List, [], ◌∷◌, head_d}
use Prim.Native.Nat.{ℕ, zero, suc, ◌≤◌}
use native.Mathlib.Omega.{arith}
use lib.Dec.{eqb, eqb-suc-zero}
use lib.ListN.{length}
use Rattle.std.specs.Prelude.{Result, Ok, Err}
use Rattle.lists.specs.Fronts.{replied, written}
use Rattle.lists.proofs.Fronts.{length_in_front}

module _ {A : Type 0} (f : ℕ → A) where
  pub replied_refused : (k : ℕ) (a : A) → (k ≡ 0 → ⊥) → f k ≡ replied f k a
  unfolding replied
  replied_refused zero a n = absurd (n refl)
  replied_refused (suc k) a n = refl

  -- a reply that is no refusal is the accepted one's
  pub replied_accepted : (k : ℕ) (a b : A) → ((i : ℕ) → f i ≡ b → ⊥) → replied f k a ≡ b → (k ≡ 0) × (a ≡ b)
  unfolding replied
  replied_accepted zero a b other e = (refl, e)
  replied_accepted (suc k) a b other e = absurd (other (suc k) e)

  -- what is read from a reply
  pub read_replied : {B : Type 0} (g : A → B) (k : ℕ) (a : A) → g (replied f k a) ≡ cond (eqb k 0) (g a) (g (f k))
  unfolding replied
  read_replied g zero a = refl
  read_replied g (suc k) a = rw (eqb-suc-zero k)

  -- a test that accepted replies pass and refusals do not tells whether the refusal is 0
  pub replied_told : (g : A → Bool) (k : ℕ) (a : A) → g a ≡ true → ((i : ℕ) → g (f i) ≡ false) → g (replied f k a) ≡ eqb k 0
  unfolding replied
  replied_told g zero a passes fails = passes
  replied_told g (suc k) a passes fails = rw (eqb-suc-zero k) (fails (suc k))

  -- the numbers of a reply begin with its refusal, where those of an accepted one begin with 0
  pub first_number : (numbers : A → List ℕ) (k : ℕ) (a : A) → ((i : ℕ) → numbers (f i) ≡ i ∷ []) → head_d (numbers a) 0 ≡ 0 → head_d (numbers (replied f k a)) 0 ≡ k
  unfolding replied head_d
  first_number numbers zero a refused fine = fine
  first_number numbers (suc k) a refused fine = rw (refused (suc k))

-- A REPLY that is an answer, or the number of a refusal: where it is an answer, nothing was refused, and the answer is the accepted one
pub replied_answer : {A : Type 0} (k : ℕ) (a b : A) → ◌≡◌ {A = Result A ℕ} (replied Err k (Ok a)) (Ok b) → (k ≡ 0) × (a ≡ b)
unfolding replied
replied_answer zero a b e = (refl, cc)
replied_answer (suc k) a b e = absurd (let z : ◌≡◌ {A = ℕ} 0 1 = cc in omega arith)

-- THE WORDS AFTER A CALL: refused as they were, and in any case as many as before
pub written_refused : (k : ℕ) (new old : List ℕ) → (k ≡ 0 → ⊥) → old ≡ written k new old
unfolding written
written_refused k new old n = replied_refused (λ _. old) k _ n

pub length_written : (refusal : ℕ) (new old : List ℕ) → (refusal ≡ 0 → length new ≤ length old) → length (written refusal new old) ≡ length old
unfolding written replied
length_written zero new old fit = length_in_front new old (fit refl)
length_written (suc k) new old fit = refl
