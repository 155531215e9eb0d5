-- A line's fields from its first space on: the first, and those after it. Assumes nothing.
use mathlib.Core.Path.{◌≡◌, refl, ap, sym, ◌∙◌}
use mathlib.Core.Bool.{Bool, true, false, cond}
use mathlib.Core.List.{List, [], ◌∷◌}
use Prim.Native.Nat.{ℕ, suc, ◌<◌}
use native.Mathlib.Omega.{arith}
use lib.Dec.{eqb}
use lib.ListN.{length, take, drop}
use lib.Seq.{take_all}
use Rattle.std.specs.Prelude.{Option, Some, None}
use Rattle.lists.specs.Lists.{with_first}
use Rattle.console_fields.specs.Scan.{first_space}
use Rattle.console_fields.specs.Post.{Split}
use Rattle.console.specs.Line.{fields}

-- a space ends a field, and any other byte stands in front of the first
fields_cons : (c : ℕ) (cs : List ℕ) → fields (c ∷ cs) ≡ cond (eqb c 32) ([] ∷ fields cs) (with_first c (fields cs))
unfolding fields
fields_cons c cs = refl

pub fields_one : (cs : List ℕ) → first_space cs ≡ length cs → fields cs ≡ cs ∷ []
unfolding first_space fields with_first
fields_one [] e = refl
fields_one (c ∷ cs) e = fields_cons c cs ∙ go (eqb c 32) e (λ q. fields_one cs q)
  where
    go : (t : Bool) → cond t 0 (suc (first_space cs)) ≡ suc (length cs) → (first_space cs ≡ length cs → fields cs ≡ cs ∷ []) → cond t ([] ∷ fields cs) (with_first c (fields cs)) ≡ (c ∷ cs) ∷ []
    go true e rest = absurd (omega arith)
    go false e rest = rw (rest (omega arith))

pub fields_more : (cs : List ℕ) → first_space cs < length cs → fields cs ≡ take (first_space cs) cs ∷ fields (drop (suc (first_space cs)) cs)
unfolding first_space fields with_first
fields_more [] l = absurd (omega arith)
fields_more (c ∷ cs) l = fields_cons c cs ∙ go (eqb c 32) l (λ m. fields_more cs m)
  where
    go : (t : Bool) → cond t 0 (suc (first_space cs)) < suc (length cs) →
        (first_space cs < length cs → fields cs ≡ take (first_space cs) cs ∷ fields (drop (suc (first_space cs)) cs)) →
        cond t ([] ∷ fields cs) (with_first c (fields cs)) ≡ take (cond t 0 (suc (first_space cs))) (c ∷ cs) ∷ fields (drop (suc (cond t 0 (suc (first_space cs)))) (c ∷ cs))
    go true l rest = refl
    go false l rest = rw (rest (omega arith))

-- a line has a field at least
pub fields_some : (cs : List ℕ) → (f : List ℕ) × (fs : List (List ℕ)) × fields cs ≡ f ∷ fs
unfolding fields with_first
fields_some [] = ([], [], refl)
fields_some (c ∷ cs) = go (eqb c 32) (fields cs)
  where
    go : (t : Bool) (fs : List (List ℕ)) → (f : List ℕ) × (gs : List (List ℕ)) × cond t ([] ∷ fs) (with_first c fs) ≡ f ∷ gs
    go true fs = ([], fs, refl)
    go false [] = (c ∷ [], [], refl)
    go false (f ∷ fs) = (c ∷ f, fs, refl)

-- the fields of what stands after a space, none where no space does
unfoldable pub fields_after : Option (List ℕ) → List (List ℕ)
fields_after None = []
fields_after (Some cs) = fields cs

pub fields_split : {cs f : List ℕ} {rest : Option (List ℕ)} → Split cs f rest → fields cs ≡ f ∷ fields_after rest
unfolding fields_after
fields_split {cs} {rest = None} s = fields_one cs s.rest_is ∙ ap (λ f. f ∷ []) (sym (s.front ∙ take_all (first_space cs) cs (let e : first_space cs ≡ length cs = s.rest_is in omega arith)))
fields_split {cs} {rest = Some r} s = rw (s.front, s.rest_is.bytes) (fields_more cs s.rest_is.space)
