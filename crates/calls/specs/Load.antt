-- Load (document 01, "Calls and their replies"). Assumes nothing: these are definitions.
use Rattle.std.specs.Prelude.{Bool, true, ◌&&◌, not, List, [], ◌∷◌, ◌++◌, map, ℕ, suc, ltb, length}
use Rattle.lists.specs.Lists.{first}
use Rattle.store_types.specs.Limits.{no_tag, most_tags}
use Rattle.store_types.specs.Layout.{header_words, words_for}
use Rattle.tree.specs.Book.{loaded, load_under}
use Rattle.calls.specs.Kind.{is_kind, kind_of}
use Rattle.calls.specs.Store.{Store, power_fits}
use Rattle.calls.specs.Nesting.{nests, new_facts}
use Rattle.calls.specs.Sound.{degrees_fit}

unfoldable pub all_kinds : List ℕ → Bool
all_kinds [] = true
all_kinds (c ∷ cs) = is_kind c && all_kinds cs

-- REFUSALS, each with its test, in order; 0 where none is met. Of the kinds that are left where so many begins are open
unfoldable pub kinds_tests : (open_begins : ℕ) → (kinds : List ℕ) → List (Bool × ℕ)
kinds_tests d cs =
    (not (all_kinds cs), 4)
    ∷ (not (nests d (map kind_of cs)), 5)
    ∷ []

-- all but the last; `lent` is how many words there are
unfoldable pub early_tests : (lent s r : ℕ) → (kinds : List ℕ) → List (Bool × ℕ)
early_tests lent s r cs =
    let n = length cs in
    (not (degrees_fit s r), 3)
    ∷ (ltb most_tags n, 6)
    ∷ (ltb lent (words_for header_words n), 1)
    ∷ kinds_tests 0 cs

unfoldable pub load_refusal : (lent s r : ℕ) → (kinds : List ℕ) → ℕ
load_refusal lent s r cs =
    first (early_tests lent s r cs ++ (not (power_fits s r (suc (load_under r (length cs)))), 7) ∷ []) 0

-- tag numbers run in book order; stamp 0
unfoldable pub load_store : (s r number : ℕ) → (kinds : List ℕ) → Store
load_store s r b cs =
    record { book = loaded s r (length cs); number = b; stamp = 0; facts = new_facts no_tag [] 0 0 (map kind_of cs) }
