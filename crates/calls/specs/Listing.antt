-- List (document 01, "Calls and their replies"): the unmarked tags strictly inside a section or, from the front, of the
-- whole book. Assumes nothing: these are definitions.
use Rattle.std.specs.Prelude.{Bool, ◌&&◌, ◌||◌, not, List, [], ◌∷◌, ◌++◌, map, ℕ, leb, ltb, eqb, length}
use Rattle.lists.specs.Lists.{first, those}
use Rattle.store_types.specs.Limits.{no_tag}
use Rattle.calls.specs.Kind.{is_begin}
use Rattle.calls.specs.Store.{Store, fact, unmarked, count, row, label}
use Rattle.calls.specs.Held.{encloses}

-- whether a tag is listed
unfoldable pub is_listed : Store → (section tag : ℕ) → Bool
is_listed st x d = (eqb x no_tag || encloses st x d) && unmarked st d

unfoldable pub listed_tags : (section : ℕ) → Store → List ℕ
listed_tags x st = those (is_listed st x) (row st)

unfoldable pub listed_labels : (section : ℕ) → Store → List ℕ
listed_labels x st = map (label st) (listed_tags x st)

-- REFUSALS, each with its test, in order; 0 where none is met (1 and 2 are the words'). Of the section; the front is allowed
unfoldable pub inside_tests : (section : ℕ) → Store → List (Bool × ℕ)
inside_tests x st =
    (not (eqb x no_tag) && leb (count st) x, 8)
    ∷ (not (eqb x no_tag) && (fact st x).marked, 9)
    ∷ (not (eqb x no_tag) && not (is_begin (fact st x).kind), 10)
    ∷ []

-- and then of the two lent lists, by their lengths
unfoldable pub list_refusal : (tags labels section : ℕ) → Store → ℕ
list_refusal tags labels x st =
    let many = length (listed_tags x st) in first (inside_tests x st ++ (ltb tags many || ltb labels many, 11) ∷ []) 0
