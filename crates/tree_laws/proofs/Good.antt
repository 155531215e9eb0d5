-- The limits of a forest as facts, and the bridges to the test of specs/Forest.antt both ways. Assumes nothing.
use mathlib.Core.Path.{◌≡◌, refl}
use mathlib.Core.Bool.{true, ◌&&◌, false≢true}
use Prim.Native.Nat.{ℕ, zero, suc, ◌*◌, ◌^◌}
use borrow.Author.Tests.{lt-ltb, le-leb, ltb-true, leb-true}
use lib.Dec.{ltb, leb}
use Rattle.lists.proofs.Tests.{and_left, and_right, and_both}
use Rattle.tree.specs.Good.{Good}
use Rattle.tree.specs.Forest.{Forest, nil, leaf, node, size, within_limits}

pub good_of : (s r : ℕ) (f : Forest) (j : ℕ) → within_limits f s r j ≡ true → Good s r f j
unfolding within_limits
good_of s r nil j e = tt
good_of s r (leaf x f) zero e = good_of s r f zero e
good_of s r (leaf x f) (suc j) e = absurd (false≢true e)
good_of s r (node g f) zero e = absurd (false≢true e)
good_of s r (node g f) (suc j) e =
    let own = and_left (leb (r ^ suc j) (size g) && ltb (size g) (s * r ^ suc j)) (within_limits g s r j && within_limits f s r (suc j)) e in
    let below = and_right (leb (r ^ suc j) (size g) && ltb (size g) (s * r ^ suc j)) (within_limits g s r j && within_limits f s r (suc j)) e in (
      leb-true _ _ (and_left (leb (r ^ suc j) (size g)) (ltb (size g) (s * r ^ suc j)) own),
      ltb-true _ _ (and_right (leb (r ^ suc j) (size g)) (ltb (size g) (s * r ^ suc j)) own),
      good_of s r g j (and_left (within_limits g s r j) (within_limits f s r (suc j)) below),
      good_of s r f (suc j) (and_right (within_limits g s r j) (within_limits f s r (suc j)) below),
    )

pub test_of : (s r : ℕ) (f : Forest) (j : ℕ) → Good s r f j → within_limits f s r j ≡ true
unfolding within_limits
test_of s r nil j h = refl
test_of s r (leaf x f) zero h = test_of s r f zero h
test_of s r (leaf x f) (suc j) h = absurd h
test_of s r (node g f) zero h = absurd h
test_of s r (node g f) (suc j) h =
    and_both (and_both (le-leb _ _ h.0) (lt-ltb _ _ h.1)) (and_both (test_of s r g j h.2) (test_of s r f (suc j) h.3))
