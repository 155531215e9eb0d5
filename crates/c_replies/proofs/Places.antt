-- The place of a granted record, by whether there is a new count. Assumes nothing.
use mathlib.Core.Path.{◌≡◌}
use mathlib.Core.Bool.{true, false}
use Prim.Native.Nat.{ℕ, ◌-◌}
use borrow.Author.Tests.{eq-eqb, ne_eqb}
use lib.Dec.{eqb}
use Rattle.c_replies.specs.Flat.{place_for}
use Rattle.c_replies.specs.declared.CountedPlaces.{CountedPlaces}

pub at_none : (g : CountedPlaces) (room : ℕ) → g.places ≡ 0 → room ≡ place_for g room
unfolding place_for
at_none g room e = let t : eqb g.places 0 ≡ true = eq-eqb g.places 0 e in rw t

pub at_one : (g : CountedPlaces) (room : ℕ) → (g.places ≡ 0 → ⊥) → g.places - 1 ≡ place_for g room
unfolding place_for
at_one g room e = let t : eqb g.places 0 ≡ false = ne_eqb g.places 0 e in rw t
