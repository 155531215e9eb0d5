-- The split of a row of tags, found by the sizes of the ancestors of a place: of the highest that comes to its limit with them.
-- Assumes nothing.
use mathlib.Core.Path.{◌≡◌, refl}
use mathlib.Core.List.{List}
use Prim.Native.Nat.{ℕ, zero, suc, ◌+◌, ◌*◌, ◌-◌, ◌^◌, ◌≤◌, ◌<◌}
use native.Mathlib.Omega.{arith}
use borrow.Author.Tests.{ltb-true, ltb-false, leb-true, leb-false}
use lib.Dec.{ltb, leb}
use Rattle.lists.proofs.Tests.{by_test}
use Rattle.powers.specs.Tables.{entry}
use Rattle.tree.specs.Good.{Good}
use Rattle.tree.specs.Forest.{Forest, nil, leaf, node, leaves, size}
use Rattle.tree.specs.Reach.{size_in}
use Rattle.tree.specs.Grown.{full_height}
use Rattle.tree_laws.proofs.Spread.{some_power}
use Rattle.tree_laws.proofs.Insertion.{size_node}
use Rattle.tree_laws.proofs.Ancestors.{at_right, at_here, at_inside}
use Rattle.tree_laws.proofs.Full.{ways, full_right, full_here, full_below}
use Rattle.edit_model.specs.Split.{highest_full}

-- THE HIGHEST number from 1 up to top of which P holds; 0 if there is none
pub record Highest (P : ℕ → Type 0) (top h : ℕ) : Type 0 where
  pub most : h ≤ top
  pub holds : 1 ≤ h → P h
  pub none : (i : ℕ) → h < i → i ≤ top → P i → ⊥

module _ {P : ℕ → Type 0} where
  pub highest_one : {top h i : ℕ} → Highest P top h → Highest P top i → h ≡ i
  highest_one {top} {h} {i} a b =
      by_test (ltb h i)
      (λ t. let l = ltb-true h i t in absurd (a.none i l b.most (b.holds (omega arith))))
      (λ t.
      by_test (ltb i h)
      (λ u. let l = ltb-true i h u in absurd (b.none h l a.most (a.holds (omega arith))))
      (λ u. omega (arith, ltb-false h i t, ltb-false i h u)))

  highest_same : {Q : ℕ → Type 0} {top h : ℕ} → ((i : ℕ) → i ≤ top → P i → Q i) → ((i : ℕ) → i ≤ top → Q i → P i) → Highest P top h → Highest Q top h
  highest_same {h = h} to from a =
      record { most = a.most; holds = λ l. to h a.most (a.holds l); none = λ i l t q. a.none i l t (from i t q) }

  highest_zero : Highest P 0 0
  highest_zero = record { most = omega arith; holds = λ l. absurd (omega arith); none = λ i l t q. omega arith }

  highest_here : {top : ℕ} → P top → Highest P top top
  highest_here e = record { most = omega arith; holds = λ l. e; none = λ i l t q. omega arith }

  highest_below : {top h : ℕ} → (P (suc top) → ⊥) → Highest P top h → Highest P (suc top) h
  highest_below {top} {h} n a =
      record {
        most = omega (arith, a.most);
        holds = a.holds;
        none = λ i l t q. by_test (ltb top i)
            (λ u. let e : i ≡ suc top = omega (arith, ltb-true top i u) in n (rw e at q))
            (λ u. a.none i l (ltb-false top i u) q);
      }

-- whether the ancestor of height h comes to its limit with k leaves more
abbrev pub Fills : (s r : ℕ) → Forest → (j p k h : ℕ) → Type 0
Fills s r f j p k h = s * r ^ h ≤ size_in f j h p + k

-- at a node: right of it, itself, under it
module _ (s r : ℕ) (g f : Forest) (p k : ℕ) where
  fills_right : (j : ℕ) {h : ℕ} → size g < p → Highest (Fills s r f j (p - size g) k) j h → Highest (Fills s r (node g f) j p k) j h
  fills_right j l =
      highest_same (λ i t e. omega (arith, (at_right g f (λ v. 0) j i p 0 l).2)) (λ i t e. omega (arith, (at_right g f (λ v. 0) j i p 0 l).2))

  fills_here : (j : ℕ) → p ≤ size g → s * r ^ j ≤ size g + k → Highest (Fills s r (node g f) j p k) j j
  fills_here j l e = highest_here (omega (arith, (at_here g f (λ v. 0) j j p 0 l refl).2))

  fills_inside : (j : ℕ) {h : ℕ} → p ≤ size g → size g + k < s * r ^ suc j → Highest (Fills s r g j p k) j h → Highest (Fills s r (node g f) (suc j) p k) (suc j) h
  fills_inside j l n a =
      highest_below (λ e. omega (arith, (at_here g f (λ v. 0) (suc j) (suc j) p 0 l refl).2))
      (highest_same (λ i t e. omega (arith, (at_inside g f (λ v. 0) (suc j) i p 0 l (omega arith)).2)) (λ i t e. omega (arith, (at_inside g f (λ v. 0) (suc j) i p 0 l (omega arith)).2)) a)

-- THE SPLIT OF k TAGS is that of the highest ancestor that comes to its limit with them
pub full_highest : (s r : ℕ) → 2 ≤ r → (f : Forest) (j k p : ℕ) → Good s r f j → p ≤ size f → (size f ≡ 0 → j ≡ 0) → Highest (Fills s r f j p k) j (full_height f s r j k p)
unfolding full_height leaves
full_highest s r r_least nil j k p good fits low = let j' : j ≡ 0 = low refl in rw j' highest_zero
full_highest s r r_least (leaf z f) zero k p good fits low = highest_zero
full_highest s r r_least (leaf z f) (suc j) k p good fits low = absurd good
full_highest s r r_least (node g f) zero k p good fits low = absurd good
full_highest s r r_least (node g f) (suc j) k p good fits low =
    let both = size_node g f in
    ways (size g) p k (s * r ^ suc j)
    (λ l.
    let onward = full_highest s r r_least f (suc j) k (p - size g) good.3 (omega arith) (λ e. absurd (omega arith)) in
    rw (full_right g f s r (suc j) k p l) (fills_right s r g f p k (suc j) l onward))
    (λ l e. rw (full_here g f s r (suc j) k p l e) (fills_here s r g f p k (suc j) l e))
    (λ l n.
    let inside = full_highest s r r_least g j k p good.2 l (λ e. absurd (omega (arith, good.0, some_power r (suc j) r_least))) in
    rw (full_below g f s r (suc j) k p l n) (fills_inside s r g f p k j l n inside))

-- THE HEIGHT FOUND by the sizes of the ancestors of a place p
module _ (s r : ℕ) (f : Forest) (u p : ℕ) (hi sz : List ℕ) (limits : (h : ℕ) → h ≤ u → entry hi h ≡ s * r ^ h)
    (sizes : (h : ℕ) → 1 ≤ h → h ≤ u → entry sz h ≡ size_in f u h p) (k : ℕ) where
  -- from height to height, with the highest below it
  full_from : (m h g : ℕ) → m + h ≡ u → Highest (Fills s r f u p k) h g → Highest (Fills s r f u p k) u (highest_full hi sz k m (suc h) g)
  unfolding highest_full
  full_from zero h g e found = let top : h ≡ u = omega arith in rw top at found
  full_from (suc m) h g e found =
      let sized = sizes (suc h) (omega arith) (omega arith) in
      let limit = limits (suc h) (omega arith) in
      by_test (leb (s * r ^ suc h) (size_in f u (suc h) p + k))
      (λ t. rw (sized, limit, t) (full_from m (suc h) (suc h) (omega arith) (highest_here (leb-true _ _ t))))
      (λ t. let n = leb-false (s * r ^ suc h) (size_in f u (suc h) p + k) t in rw (sized, limit, t) (full_from m (suc h) g (omega arith) (highest_below (λ e. omega arith) found)))

  -- it is the highest whose ancestor comes to its limit with k leaves more
  pub full_found : Highest (Fills s r f u p k) u (highest_full hi sz k u 1 0)
  full_found = full_from u 0 0 (omega arith) highest_zero
