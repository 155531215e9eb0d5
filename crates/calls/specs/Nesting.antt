-- Nesting (document 01, "The book in words", "The tree"): which rows of kinds nest, the mates, ups and depths of new tags, and
-- the two passes along the book that decide whether mates, ups and marks are right, and depths (document 02, CR 7).
-- Assumes nothing: these are definitions.
use Rattle.std.specs.Prelude.{Bool, true, false, ◌&&◌, ◌||◌, not, ℕ, zero, suc, eqb}
use Rattle.std.specs.Bool.{beq}
use mathlib.Core.List.{List, [], ◌∷◌, head_d, tail}
use Rattle.store_types.specs.Limits.{no_tag}
use Rattle.calls.specs.Kind.{Kind, begin, end, text, own_depth, depth_after}
use Rattle.calls.specs.Store.{Fact, new_fact, fact_in}

-- whether a row of kinds nests, where so many begins are open
unfoldable pub nests : (open_begins : ℕ) → List Kind → Bool
nests d [] = eqb d 0
nests d (begin ∷ ks) = nests (suc d) ks
nests zero (end ∷ ks) = false
nests (suc d) (end ∷ ks) = nests d ks
nests d (text ∷ ks) = nests d ks

-- the number of the end tag that closes a begin d levels up, where the kinds behind it begin at tag x
unfoldable pub closing : (d x : ℕ) → List Kind → ℕ
closing d x [] = no_tag
closing d x (begin ∷ ks) = closing (suc d) (suc x) ks
closing zero x (end ∷ ks) = x
closing (suc d) x (end ∷ ks) = closing d (suc x) ks
closing d x (text ∷ ks) = closing d (suc x) ks

-- the unmarked tags x, x + 1, .. of a row of kinds; o is the innermost open begin or no tag, os are those around it, and d is how
-- many begins are open
unfoldable pub new_facts : (o : ℕ) → (os : List ℕ) → (d x : ℕ) → List Kind → List Fact
new_facts o os d x [] = []
new_facts o os d x (begin ∷ ks) =
    new_fact begin false (closing 0 (suc x) ks) o (own_depth begin d) ∷ new_facts x (o ∷ os) (depth_after begin d) (suc x) ks
new_facts o os d x (end ∷ ks) =
    new_fact end false o (head_d os no_tag) (own_depth end d) ∷ new_facts (head_d os no_tag) (tail os) (depth_after end d) (suc x) ks
new_facts o os d x (text ∷ ks) = new_fact text false x o (own_depth text d) ∷ new_facts o os (depth_after text d) (suc x) ks

-- THE PASS. o is the innermost open begin, or no tag. A begin or text has o as its up, and is marked if o is; a text is
-- its own mate. An end and o are each other's mates, and have the same up and mark.
unfoldable pub fits : List Fact → (o x : ℕ) → Kind → Bool
fits fs o x begin = eqb (fact_in fs x).up o && (not (fact_in fs o).marked || (fact_in fs x).marked)
fits fs o x end =
    (not (eqb o no_tag) && (eqb (fact_in fs x).mate o && eqb (fact_in fs o).mate x))
    && (eqb (fact_in fs x).up (fact_in fs o).up && beq (fact_in fs x).marked (fact_in fs o).marked)
fits fs o x text =
    (eqb (fact_in fs x).mate x && eqb (fact_in fs x).up o) && (not (fact_in fs o).marked || (fact_in fs x).marked)

-- the innermost open begin behind a tag
unfoldable pub opened : List Fact → (o x : ℕ) → Kind → ℕ
opened fs o x begin = x
opened fs o x end = (fact_in fs o).up
opened fs o x text = o

-- along a row from o on; at its end none is open
unfoldable pub nested : List Fact → (o : ℕ) → (row : List ℕ) → Bool
nested fs o [] = eqb o no_tag
nested fs o (x ∷ xs) = fits fs o x (fact_in fs x).kind && nested fs (opened fs o x (fact_in fs x).kind) xs

-- DEPTHS along a row before which d begins are open: kinds alone decide them
unfoldable pub depths_right : List Fact → (d : ℕ) → (row : List ℕ) → Bool
depths_right fs d [] = true
depths_right fs d (x ∷ xs) =
    eqb (fact_in fs x).depth (own_depth (fact_in fs x).kind d) && depths_right fs (depth_after (fact_in fs x).kind d) xs
