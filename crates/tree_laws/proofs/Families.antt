-- An insertion that splits no node puts the new leaf beside the tag at its place, under the same parent. Assumes nothing.
use mathlib.Core.Path.{◌≡◌, refl, ap, sym, ◌∙◌}
use mathlib.Core.List.{List, [], ◌∷◌, ◌++◌, append_assoc, append-nil, flatten}
use Prim.Native.Nat.{ℕ, zero, suc, ◌+◌, ◌*◌, ◌-◌, ◌^◌, ◌≤◌}
use native.Mathlib.Omega.{arith}
use borrow.Author.Tests.{ne_eqb}
use lib.ListN.{length, take, drop, length-append, take-append-drop, length-take}
use Rattle.lists.proofs.Tests.{by_test}
use Rattle.tree.specs.Good.{Good}
use Rattle.tree.specs.Row.{insert_at}
use Rattle.tree.specs.Forest.{Forest, nil, leaf, node, leaves, size, put, split_height}
use Rattle.tree.specs.Book.{root_full, put_inside}
use Rattle.tree.specs.Families.{families, families_of, Joins}
use Rattle.tree.specs.Promise.{InsertionFamily}
use Rattle.tree_laws.proofs.Spread.{some_power}
use Rattle.tree_laws.proofs.Insertion.{Turn, right, split, below, turn, put_right, put_below, height_right, height_split, height_below, size_node, leaves_put, inserted_inside, split_of_split, split_of_inside, Rooted, rooted}

-- ALL LEAVES, family by family
flatten_append : (xss yss : List (List ℕ)) → flatten (xss ++ yss) ≡ flatten xss ++ flatten yss
unfolding flatten
flatten_append [] yss = refl
flatten_append (xs ∷ xss) yss = ap (λ (v : List ℕ). xs ++ v) (flatten_append xss yss) ∙ sym (append_assoc xs (flatten xss) (flatten yss))

-- the families below one node of height j + 1
abbrev own : Forest → (j : ℕ) → List (List ℕ)
own g zero = leaves g ∷ []
own g (suc j) = families g (suc j)

node_families : (g f : Forest) (j : ℕ) → families (node g f) (suc j) ≡ own g j ++ families f (suc j)
unfolding families
node_families g f zero = refl
node_families g f (suc j) = rw (ne_eqb (suc (suc j)) 1 (λ e. omega arith))

module _ (s r : ℕ) where
  flatten_families : (f : Forest) (j : ℕ) → Good s r f (suc j) → flatten (families f (suc j)) ≡ leaves f
  unfolding families flatten leaves
  flatten_families nil j h = refl
  flatten_families (leaf x f) j h = absurd h
  flatten_families (node g f) zero h = ap (λ (v : List ℕ). leaves g ++ v) (flatten_families f zero h.3)
  flatten_families (node g f) (suc j) h =
      ap flatten (node_families g f (suc j))
      ∙ (flatten_append (families g (suc j)) (families f (suc (suc j)))
      ∙ rw (flatten_families g j h.2, flatten_families f (suc j) h.3))

  flatten_own : (g : Forest) (j : ℕ) → Good s r g j → flatten (own g j) ≡ leaves g
  unfolding flatten
  flatten_own g zero h = append-nil (leaves g)
  flatten_own g (suc j) h = flatten_families g j h

-- A FAMILY that is joined, with others before and behind it
joins_behind : {p x : ℕ} {old new : List (List ℕ)} (yss : List (List ℕ)) → Joins p x old new → Joins p x (old ++ yss) (new ++ yss)
joins_behind yss h =
    record {
      before = h.before;
      front = h.front;
      back = h.back;
      after = h.after ++ yss;
      was = ap (λ (v : List (List ℕ)). v ++ yss) h.was ∙ append_assoc h.before _ yss;
      is = ap (λ (v : List (List ℕ)). v ++ yss) h.is ∙ append_assoc h.before _ yss;
      place = h.place;
      sibling = h.sibling;
      first = h.first;
    }

joins_before : {p q x : ℕ} {old new : List (List ℕ)} (yss : List (List ℕ)) → length (flatten yss) + q ≡ p → 1 ≤ q → Joins q x old new →
    Joins p x (yss ++ old) (yss ++ new)
joins_before yss e some h =
    record {
      before = yss ++ h.before;
      front = h.front;
      back = h.back;
      after = h.after;
      was = ap (λ (v : List (List ℕ)). yss ++ v) h.was ∙ sym (append_assoc yss h.before _);
      is = ap (λ (v : List (List ℕ)). yss ++ v) h.is ∙ sym (append_assoc yss h.before _);
      place = omega (arith, h.place, ap length (flatten_append yss h.before), length-append (flatten yss) (flatten h.before));
      sibling = λ _. h.sibling some;
      first = λ z. absurd (omega arith);
    }

-- one family alone
joins_one : (p x : ℕ) (xs ys : List ℕ) → p ≤ length xs → ys ≡ insert_at p (x ∷ []) xs → Joins p x (xs ∷ []) (ys ∷ [])
unfolding insert_at flatten
joins_one p x xs ys l e =
    let taken : length (take p xs) ≡ p = length-take p xs ∙ omega arith in
    record {
      before = [];
      front = take p xs;
      back = drop p xs;
      after = [];
      was = ap (λ (v : List ℕ). v ∷ []) (sym (take-append-drop p xs));
      is = ap (λ (v : List ℕ). v ∷ []) e;
      place = omega arith;
      sibling = λ some. omega arith;
      first = λ _. refl;
    }

module _ (s r x : ℕ) (r_least : 2 ≤ r) where
  -- a node, by where the leaf goes
  joins_node : (g f : Forest) (j p : ℕ) → Good s r (node g f) (suc j) → p ≤ size (node g f) → split_height (node g f) s r (suc j) p ≡ 0 →
      (1 ≤ p - size g → p - size g ≤ size f → split_height f s r (suc j) (p - size g) ≡ 0 → Joins (p - size g) x (families f (suc j)) (families (put f s r (suc j) (p - size g) x) (suc j))) →
      (p ≤ size g → split_height g s r j p ≡ 0 → Joins p x (own g j) (own (put g s r j p x) j)) →
      Joins p x (families (node g f) (suc j)) (families (put (node g f) s r (suc j) p x) (suc j))
  joins_node g f j p good l none onward inside = go (turn (size g) p (s * r ^ suc j))
    where
      go : Turn (size g) p (s * r ^ suc j) → Joins p x (families (node g f) (suc j)) (families (put (node g f) s r (suc j) p x) (suc j))
      go (right h) =
          let some : 1 ≤ p - size g = omega arith in
          let rest = onward some (omega (arith, size_node g f)) (sym (height_right g f s r (suc j) p h) ∙ none) in
          let long : length (flatten (own g j)) ≡ size g = ap length (flatten_own s r g j good.2) in
          rw (put_right g f s r (suc j) p x h, node_families g f j, node_families g (put f s r (suc j) (p - size g) x) j)
          (joins_before (own g j) (omega arith) some rest)
      go (split h e) = absurd (let z = sym (height_split g f s r (suc j) p h e) ∙ none in omega arith)
      go (below h n) =
          rw (put_below g f s r (suc j) p x h n, node_families g f j, node_families (put g s r j p x) f j)
          (joins_behind (families f (suc j)) (inside h (sym (height_below g f s r (suc j) p h n) ∙ none)))

  joins_put : (f : Forest) (j p : ℕ) → Good s r f (suc j) → 1 ≤ size f → p ≤ size f → split_height f s r (suc j) p ≡ 0 →
      Joins p x (families f (suc j)) (families (put f s r (suc j) p x) (suc j))
  unfolding leaves
  joins_put nil j p good some l none = absurd (omega arith)
  joins_put (leaf z f) j p good some l none = absurd good
  joins_put (node g f) zero p good some l none =
      joins_node g f zero p good l none (λ more fits z. joins_put f zero (p - size g) good.3 (omega arith) fits z)
      (λ fits z. joins_one p x (leaves g) (leaves (put g s r zero p x)) fits (leaves_put s r g zero p x r_least good.2 fits))
  joins_put (node g f) (suc j) p good some l none =
      joins_node g f (suc j) p good l none (λ more fits z. joins_put f (suc j) (p - size g) good.3 (omega arith) fits z)
      (λ fits z. joins_put g j p good.2 (omega (arith, good.0, some_power r (suc (suc j)) r_least)) fits z)

pub insertion_family : InsertionFamily
unfolding InsertionFamily families_of put_inside
insertion_family p x k h l none =
    by_test (root_full k) (λ e. absurd (let z = sym (split_of_split p k e) ∙ none in omega arith))
    (λ e. rw (inserted_inside p k x e) (inside k.under refl (sym (split_of_inside p k e) ∙ none)))
  where
    root : Rooted k
    root = rooted k h

    inside : (u : ℕ) → k.under ≡ u → split_height k.root k.s k.r k.under p ≡ 0 → Joins p x (families_of k) (families_of (put_inside p x k))
    inside zero e z =
        let good = rw e at root.good in
        rw e (joins_one p x (leaves k.root) (leaves (put k.root k.s k.r 0 p x)) l (leaves_put k.s k.r k.root 0 p x h.r_least good l))
    inside (suc u) e z =
        let high : k.under ≡ 0 → ⊥ = λ q. omega arith in
        let some : 1 ≤ size k.root = omega (arith, root.low high, some_power k.r k.under h.r_least) in
        rw (e, ne_eqb (suc u) 0 (λ q. omega arith)) (joins_put k.s k.r x h.r_least k.root u p (rw e at root.good) some l (rw e at z))
