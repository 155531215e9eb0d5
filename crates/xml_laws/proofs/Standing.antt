-- A row of constructs that stand: the first, what stands behind it, and the name that an end tag closes. Assumes nothing.
use mathlib.Core.Path.{◌≡◌, ap, sym}
use mathlib.Core.Bool.{true, false≢true}
use mathlib.Core.List.{List, [], ◌∷◌}
use Prim.Native.Nat.{ℕ}
use Rattle.lists.proofs.Tests.{and_left, and_right}
use Rattle.xml.specs.Grammar.{Construct, stop, Place, closes, tail_of, may_stand, place_after, all_stand, is_construct}
use Rattle.lists.proofs.Same.{same_equal}

pub first_stands : (c : Construct) (cs : List Construct) (p : Place) → all_stand (c ∷ cs) p ≡ true → may_stand c p ≡ true
unfolding all_stand
first_stands c cs p h = and_left (may_stand c p) _ h

pub rest_stands : (c : Construct) (cs : List Construct) (p : Place) → all_stand (c ∷ cs) p ≡ true → all_stand cs (place_after c p) ≡ true
unfolding all_stand
rest_stands c cs p h = and_right (may_stand c p) _ h

-- an end tag closes the innermost open element
innermost : (n : List ℕ) (os : List (List ℕ)) → closes n os ≡ true → os ≡ n ∷ tail_of os
unfolding closes tail_of
innermost n [] h = absurd (false≢true h)
innermost n (m ∷ ms) h = ap (λ l. l ∷ ms) (sym (same_equal n m h))

pub stop_closes : (n b : List ℕ) (p : Place) → may_stand (stop n b) p ≡ true → p.opened ≡ n ∷ tail_of p.opened
unfolding may_stand is_construct
stop_closes n b p h = innermost n p.opened (and_left (closes n p.opened) _ h)
