-- The order of names and their hash, by which an index keeps them; and whether names differ. Assumes nothing: these are definitions.
use Rattle.std.specs.Prelude.{Bool, true, ◌&&◌, not, cond, List, [], ◌∷◌, ℕ, ◌+◌, ◌*◌, ◌%◌, ltb}
use Rattle.std.specs.declared.cmp.Ordering.{Ordering}
use Rattle.std.specs.declared.cmp.Ordering.TheVariants.{Less, Equal, Greater}
use Rattle.xml.specs.Grammar.{among}

-- what two elements say of the order, and what the rest says where they are equal
unfoldable pub step : ℕ → ℕ → Ordering → Ordering
step a b r = cond (ltb a b) Less (cond (ltb b a) Greater r)

unfoldable pub order : List ℕ → List ℕ → Ordering
order [] [] = Equal
order [] (b ∷ bs) = Less
order (a ∷ as') [] = Greater
order (a ∷ as') (b ∷ bs) = step a b (order as' bs)

-- the hash of a name: any function of its bytes would be right
abbrev pub hash_limit : ℕ
hash_limit = 4294967296

unfoldable pub hash_from : ℕ → List ℕ → ℕ
hash_from h [] = h
hash_from h (c ∷ cs) = hash_from ((h * 31 + c) % hash_limit) cs

abbrev pub hash_of : List ℕ → ℕ
hash_of cs = hash_from 0 cs

-- whether no name stands twice in a row
unfoldable pub differ : List (List ℕ) → Bool
differ [] = true
differ (n ∷ ns) = not (among n ns) && differ ns
