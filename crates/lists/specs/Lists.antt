-- Lists that definitions of several crates need. Assumes nothing: these are definitions.
use Rattle.std.specs.Prelude.{Bool, true, false, ◌&&◌, ◌||◌, cond, List, [], ◌∷◌, ℕ, zero, suc, ◌+◌, eqb}

-- from, from + 1, .. : count numbers
unfoldable pub numbers : (from count : ℕ) → List ℕ
numbers x zero = []
numbers x (suc n) = x ∷ numbers (suc x) n

unfoldable pub same : List ℕ → List ℕ → Bool
same [] [] = true
same [] (y ∷ ys) = false
same (x ∷ xs) [] = false
same (x ∷ xs) (y ∷ ys) = eqb x y && same xs ys

unfoldable pub all_hold : {A : Type 0} → (holds : A → Bool) → List A → Bool
all_hold h [] = true
all_hold h (e ∷ es) = h e && all_hold h es

-- how many elements pass a test
unfoldable pub how_many : {A : Type 0} → (holds : A → Bool) → List A → ℕ
how_many h [] = 0
how_many h (e ∷ es) = cond (h e) 1 0 + how_many h es

-- whether an element passes a test, and those that do, in order
unfoldable pub some_holds : {A : Type 0} → (holds : A → Bool) → List A → Bool
some_holds h [] = false
some_holds h (e ∷ es) = h e || some_holds h es

unfoldable pub those : {A : Type 0} → (holds : A → Bool) → List A → List A
those h [] = []
those h (e ∷ es) = let rest = those h es in cond (h e) (e ∷ rest) rest

-- a first element for the first of some lists, which is begun where there is none
unfoldable pub with_first : (element : ℕ) → List (List ℕ) → List (List ℕ)
with_first c [] = (c ∷ []) ∷ []
with_first c (f ∷ fs) = (c ∷ f) ∷ fs

-- a table of tests and what each gives: the first that holds decides, else the default
unfoldable pub first : {A : Type 0} → (table : List (Bool × A)) → (default : A) → A
first [] d = d
first ((t, a) ∷ xs) d = cond t a (first xs d)
