-- The filter: each name that was met has its place marked, so that a name whose place is not marked is new. Assumes nothing.
use mathlib.Core.Path.{◌≡◌, ap, sym, ◌∙◌}
use mathlib.Core.Bool.{Bool, true, false, false≢true}
use mathlib.Core.List.{List, [], ◌∷◌, ◌++◌}
use Prim.Native.Nat.{ℕ, ◌<◌}
use native.Mathlib.Omega.{arith}
use borrow.Author.Tests.{eqb-true, eqb-false}
use lib.Dec.{eqb}
use lib.ListN.{length, get_or, set}
use lib.Seq.{get_or-set_same, get_or-set_other}
use Rattle.lists.specs.Lists.{same}
use Rattle.lists.proofs.Same.{same_equal}
use Rattle.lists.proofs.Tests.{by_test, fails}
use Rattle.xml.specs.Grammar.{among}
use Rattle.name_index.proofs.Names.{among_last}
use Rattle.xml_tag.specs.Filter.{filter_places, filter_place}

pub place_within : (n : List ℕ) → filter_place n < filter_places
unfolding filter_place
place_within n = omega arith

abbrev pub Marked : (filter : List Bool) → (names : List (List ℕ)) → Type 0
Marked filter ns = (n : List ℕ) → among n ns ≡ true → get_or filter (filter_place n) false ≡ false → ⊥

pub marked_none : (filter : List Bool) → Marked filter []
unfolding among
marked_none filter n e z = false≢true e

pub unmarked_new : (filter : List Bool) (ns : List (List ℕ)) (n : List ℕ) → Marked filter ns → get_or filter (filter_place n) false ≡ false → among n ns ≡ false
unmarked_new filter ns n h z = fails (among n ns) (λ e. h n e z)

-- one more name at the end of a row
pub marked_more : (filter : List Bool) (ns : List (List ℕ)) (n : List ℕ) → length filter ≡ filter_places → Marked filter ns →
    Marked (set filter (filter_place n) true) (ns ++ (n ∷ []))
marked_more filter ns n l h m e z =
    by_test (eqb (filter_place m) (filter_place n))
    (λ t.
    let q = eqb-true (filter_place m) (filter_place n) t in
    let one = get_or-set_same filter (filter_place n) true false (omega (arith, place_within n)) in
    cc (one, (rw q at z)))
    (λ t.
    let other = eqb-false (filter_place m) (filter_place n) t in
    let s : same m n ≡ false = fails (same m n) (λ u. other (ap filter_place (same_equal m n u))) in
    h m (rw s at (sym (among_last m n ns) ∙ e)) (sym (get_or-set_other filter (filter_place n) (filter_place m) true false other) ∙ z))
