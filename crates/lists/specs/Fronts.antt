-- The front of a list: whether a list begins with another; new elements over it; and what a call gives and writes there, by its
-- refusal. Assumes nothing: these are definitions.
use Rattle.std.specs.Prelude.{Bool, true, false, ◌&&◌, List, [], ◌∷◌, ◌++◌, ℕ, zero, suc, eqb, length, drop}

unfoldable pub starts_with : (front words : List ℕ) → Bool
starts_with [] ws = true
starts_with (v ∷ vs) [] = false
starts_with (v ∷ vs) (w ∷ ws) = eqb v w && starts_with vs ws

-- new words over the front of old ones, of which the rest stay; and so of any list that is lent
unfoldable pub in_front : {A : Type 0} → (new old : List A) → List A
in_front new old = new ++ drop (length new) old

-- what a call gives: where its refusal is 0 what it says accepted, else the refusal
unfoldable pub replied : {A : Type 0} → (refused : ℕ → A) → (refusal : ℕ) → (accepted : A) → A
replied f zero a = a
replied f (suc k) a = f (suc k)

-- the words after a call that writes: new words in front where it was accepted, all as they were where it was refused
unfoldable pub written : (refusal : ℕ) → (new old : List ℕ) → List ℕ
written k new old = replied (λ _. old) k (in_front new old)
