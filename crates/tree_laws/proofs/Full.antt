-- The highest tree that a row of new tags brings to its limit, and what grows there (specs/Grown.antt): the equations at a node and
-- those at a book's root. Assumes nothing.
use mathlib.Core.Path.{◌≡◌, refl}
use mathlib.Core.Bool.{true, false}
use mathlib.Core.List.{List, append-nil}
use Prim.Native.Nat.{ℕ, zero, suc, pred, ◌+◌, ◌*◌, ◌-◌, ◌^◌, ◌≤◌, ◌<◌}
use native.Mathlib.Omega.{arith}
use borrow.Author.Tests.{lt-ltb, le-ltb, le-leb, lt-leb, eq-eqb, ne_eqb, ltb-true, ltb-false, leb-true, leb-false}
use lib.Dec.{ltb, leb}
use lib.ListN.{length}
use lib.Seq.{take-nil, drop-nil}
use Rattle.lists.proofs.Tests.{by_test}
use Rattle.tree.specs.Good.{Good}
use Rattle.tree.specs.Row.{insert_at}
use Rattle.tree.specs.Forest.{Forest, nil, leaf, node, leaves, size, joined, leaf_row}
use Rattle.tree.specs.Book.{Book, height, tags}
use Rattle.tree.specs.Grown.{grown_node, full_height, grown_in, grown_height, grown_split, grown}

-- where k tags behind p go at a node over l leaves whose limit is b: right of it, into it up to its limit, or below that
pub ways : {G : Type 0} (l p k b : ℕ) → (l < p → G) → (p ≤ l → b ≤ l + k → G) → (p ≤ l → l + k < b → G) → G
ways l p k b right here inside =
    by_test (ltb l p)
    (λ t. right (ltb-true l p t))
    (λ t. by_test (leb b (l + k)) (λ u. here (ltb-false l p t) (leb-true b (l + k) u)) (λ u. inside (ltb-false l p t) (leb-false b (l + k) u)))

-- the equations of `full_height` at a node
module _ (g f : Forest) (s r j k p : ℕ) where
  pub full_right : size g < p → full_height (node g f) s r j k p ≡ full_height f s r j k (p - size g)
  unfolding full_height
  full_right n = rw (lt-ltb _ _ n)

  pub full_here : p ≤ size g → s * r ^ j ≤ size g + k → full_height (node g f) s r j k p ≡ j
  unfolding full_height
  full_here n e = rw (le-ltb _ _ n, le-leb _ _ e)

  pub full_below : p ≤ size g → size g + k < s * r ^ j → full_height (node g f) s r j k p ≡ full_height g s r (pred j) k p
  unfolding full_height
  full_below n e = rw (le-ltb _ _ n, lt-leb _ _ e)

-- it is at most as high as the forest
pub full_at_most : (f : Forest) (s r j k p : ℕ) → Good s r f j → full_height f s r j k p ≤ j
unfolding full_height
full_at_most nil s r j k p good = omega arith
full_at_most (leaf z f) s r j k p good = omega arith
full_at_most (node g f) s r zero k p good = absurd good
full_at_most (node g f) s r (suc j) k p good =
    ways (size g) p k (s * r ^ suc j)
    (λ n. omega (arith, full_right g f s r (suc j) k p n, full_at_most f s r (suc j) k (p - size g) good.3))
    (λ n e. omega (arith, full_here g f s r (suc j) k p n e))
    (λ n e. omega (arith, full_below g f s r (suc j) k p n e, full_at_most g s r j k p good.2))

-- the equations of `grown_in` at a node
module _ (g f : Forest) (s r j h p : ℕ) (ns : List ℕ) where
  pub grown_right : size g < p → grown_in (node g f) s r j h p ns ≡ node g (grown_in f s r j h (p - size g) ns)
  unfolding grown_in
  grown_right n = rw (lt-ltb _ _ n)

  pub grown_here : p ≤ size g → j ≡ h → grown_in (node g f) s r j h p ns ≡ joined (grown_node s r j p ns (leaves g)) f
  unfolding grown_in
  grown_here n e = rw (le-ltb _ _ n, eq-eqb _ _ e)

  pub grown_inside : p ≤ size g → (j ≡ h → ⊥) → grown_in (node g f) s r j h p ns ≡ node (grown_in g s r (pred j) h p ns) f
  unfolding grown_in
  grown_inside n e = rw (le-ltb _ _ n, ne_eqb _ _ e)

-- and in a row of leaves
pub grown_row : (s r : ℕ) (ns : List ℕ) (f : Forest) (p : ℕ) → Good s r f 0 → grown_in f s r 0 0 p ns ≡ leaf_row (insert_at p ns (leaves f))
unfolding grown_in leaves insert_at
grown_row s r ns nil p good = rw (take-nil, drop-nil, append-nil)
grown_row s r ns (leaf z f) p good = refl
grown_row s r ns (node g f) p good = absurd good

-- IN A BOOK: whether the root is split, so that its height grows
module _ (k p : ℕ) (b : Book) where
  pub split_root : ltb (height b) (grown_height k b) ≡ true → grown_split k p b ≡ pred (grown_height k b)
  unfolding grown_split
  split_root t = rw t

  pub split_inner : ltb (height b) (grown_height k b) ≡ false → grown_split k p b ≡ full_height b.root b.s b.r b.under k p
  unfolding grown_split
  split_inner t = rw t

module _ (p : ℕ) (ns : List ℕ) (b : Book) where
  abbrev split : ℕ
  split = grown_split (length ns) p b

  pub grown_root : ltb (height b) (grown_height (length ns) b) ≡ true →
      grown p ns b ≡ record { s = b.s; r = b.r; under = split; root = grown_node b.s b.r split p ns (tags b) }
  unfolding grown
  grown_root t = rw t

  pub grown_inner : ltb (height b) (grown_height (length ns) b) ≡ false →
      grown p ns b ≡ record { s = b.s; r = b.r; under = b.under; root = grown_in b.root b.s b.r b.under split p ns }
  unfolding grown
  grown_inner t = rw t
