-- Names that are new: the grammar says of an attribute's name that it is none of the later ones, the scanner that it is none
-- of the earlier ones. Assumes nothing.
use mathlib.Core.Path.{◌≡◌, refl}
use mathlib.Core.Bool.{Bool, true, false, ◌&&◌, ◌||◌, not}
use mathlib.Core.List.{List, [], ◌∷◌}
use Prim.Native.Nat.{ℕ}
use Rattle.lists.specs.Lists.{same}
use Rattle.xml.specs.Grammar.{among}
use Rattle.xml_laws.proofs.Strings.{same_symmetric}

-- whether none of some names is among others
unfoldable pub all_new : (names others : List (List ℕ)) → Bool
all_new [] ns = true
all_new (m ∷ ms) ns = not (among m ns) && all_new ms ns

exchange : (s x y w : Bool) → (not (s || x) && (not y && w)) ≡ (not (s || y) && (not x && w))
exchange true x y w = refl
exchange false true true w = refl
exchange false true false w = refl
exchange false false true w = refl
exchange false false false w = refl

-- no name is among the others and one more: that one is not among the names, and no name is among the others
pub all_new_one : (ms ns : List (List ℕ)) (n : List ℕ) → all_new ms (n ∷ ns) ≡ (not (among n ms) && all_new ms ns)
unfolding all_new among
all_new_one [] ns n = refl
all_new_one (m ∷ ms) ns n = rw (all_new_one ms ns n, same_symmetric m n) (exchange (same n m) (among m ns) (among n ms) (all_new ms ns))

pub all_new_none : (ms : List (List ℕ)) → all_new ms [] ≡ true
unfolding all_new among
all_new_none [] = refl
all_new_none (m ∷ ms) = all_new_none ms
