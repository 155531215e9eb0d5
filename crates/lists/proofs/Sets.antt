-- Several elements set from a place on (`sets` of the library): a run behind another is one run. Assumes nothing.
use mathlib.Core.Path.{◌≡◌}
use mathlib.Core.List.{List, [], ◌∷◌, ◌++◌}
use Prim.Native.Nat.{ℕ, suc, ◌+◌}
use native.Mathlib.Omega.{arith}
use lib.ListN.{length, set}
use lib.Seq.{sets}

pub sets_append : (us vs l : List ℕ) (i : ℕ) → sets (sets l i us) (i + length us) vs ≡ sets l i (us ++ vs)
sets_append [] vs l i = let e : i + 0 ≡ i = omega arith in rw e
sets_append (u ∷ us) vs l i =
    let e : i + suc (length us) ≡ suc i + length us = omega arith in rw e (sets_append us vs (set l i u) (suc i))
