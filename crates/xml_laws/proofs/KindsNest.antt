-- The kinds that a sheet gives are kinds, and they nest: a load refuses none of them with 4 or 5. Assumes nothing.
use mathlib.Core.Path.{◌≡◌, refl}
use mathlib.Core.Bool.{Bool, true, false, cond}
use mathlib.Core.List.{List, [], ◌∷◌, map}
use Prim.Native.Nat.{ℕ}
use lib.ListN.{length}
use Rattle.calls.specs.Kind.{is_kind, kind_of}
use Rattle.calls.specs.Load.{all_kinds}
use Rattle.calls.specs.Nesting.{nests}
use Rattle.xml.specs.Grammar.{Construct, datum, reference, cdata, comment, start, empty_element, stop, Place, top, place_after, all_stand, place_after_all, kinds_from}
use Rattle.xml.specs.Promise.{KindsNest}
use Rattle.xml_laws.proofs.Standing.{first_stands, rest_stands, stop_closes}

-- a text is a kind, and opens and closes nothing
text_kinds : (r : Bool) (ks : List ℕ) → all_kinds ks ≡ true → all_kinds (cond r ks (3 ∷ ks)) ≡ true
unfolding all_kinds is_kind
text_kinds true ks h = h
text_kinds false ks h = h

text_nests : (r : Bool) (d : ℕ) (ks : List ℕ) → nests d (map kind_of ks) ≡ true → nests d (map kind_of (cond r ks (3 ∷ ks))) ≡ true
unfolding nests kind_of
text_nests true d ks h = h
text_nests false d ks h = h

kinds_all : (r : Bool) (row : List Construct) → all_kinds (kinds_from r row) ≡ true
unfolding kinds_from all_kinds is_kind
kinds_all r [] = refl
kinds_all r (datum c ∷ cs) = text_kinds r (kinds_from true cs) (kinds_all true cs)
kinds_all r (reference n ∷ cs) = text_kinds r (kinds_from true cs) (kinds_all true cs)
kinds_all r (cdata bs ∷ cs) = text_kinds r (kinds_from true cs) (kinds_all true cs)
kinds_all r (comment bs ∷ cs) = kinds_all false cs
kinds_all r (start t ∷ cs) = kinds_all false cs
kinds_all r (empty_element t ∷ cs) = kinds_all false cs
kinds_all r (stop n b ∷ cs) = kinds_all false cs

-- from a place on, where as many begins are open as names
nest_from : (r : Bool) (row : List Construct) (p : Place) → all_stand row p ≡ true → (place_after_all row p).opened ≡ [] → nests (length p.opened) (map kind_of (kinds_from r row)) ≡ true
unfolding kinds_from nests kind_of place_after_all place_after
nest_from r [] p h e = rw e
nest_from r (datum c ∷ cs) p h e = text_nests r (length p.opened) (kinds_from true cs) (nest_from true cs (place_after (datum c) p) (rest_stands (datum c) cs p h) e)
nest_from r (reference n ∷ cs) p h e = text_nests r (length p.opened) (kinds_from true cs) (nest_from true cs (place_after (reference n) p) (rest_stands (reference n) cs p h) e)
nest_from r (cdata bs ∷ cs) p h e = text_nests r (length p.opened) (kinds_from true cs) (nest_from true cs (place_after (cdata bs) p) (rest_stands (cdata bs) cs p h) e)
nest_from r (comment bs ∷ cs) p h e = nest_from false cs (place_after (comment bs) p) (rest_stands (comment bs) cs p h) e
nest_from r (start t ∷ cs) p h e = nest_from false cs (place_after (start t) p) (rest_stands (start t) cs p h) e
nest_from r (empty_element t ∷ cs) p h e = nest_from false cs (place_after (empty_element t) p) (rest_stands (empty_element t) cs p h) e
nest_from r (stop n b ∷ cs) p h e =
    rw (stop_closes n b p (first_stands (stop n b) cs p h)) (nest_from false cs (place_after (stop n b) p) (rest_stands (stop n b) cs p h) e)

pub kinds_nest : KindsNest
unfolding KindsNest
kinds_nest text kinds g =
    rw (← g.give) (kinds_all false g.row, nest_from false g.row top g.stand g.closed)
