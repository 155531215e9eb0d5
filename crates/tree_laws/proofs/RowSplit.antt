-- The greatest height of the splits that a row of tags put into a good forest makes: that of the highest tree that all of them bring
-- to its limit. Assumes nothing.
use mathlib.Core.Path.{◌≡◌, refl, sym, ◌∙◌}
use Prim.Native.Nat.{ℕ, zero, suc, ◌+◌, ◌*◌, ◌-◌, ◌^◌, ◌≤◌, ◌<◌, max}
use native.Mathlib.Nat.{max-le, le-max_left, le-max_right}
use native.Mathlib.Omega.{arith}
use borrow.Author.Tests.{eqb-true, eqb-false}
use lib.Dec.{eqb}
use Rattle.lists.proofs.Tests.{by_test}
use Rattle.tree.specs.Good.{Good}
use Rattle.tree.specs.Forest.{Forest, nil, leaf, node, leaves, size, put, split_height}
use Rattle.tree.specs.Grown.{full_height}
use Rattle.tree_laws.proofs.Spread.{some_power}
use Rattle.tree_laws.proofs.Insertion.{put_right, put_below, height_right, height_split, height_below, size_node, size_put, good_put}
use Rattle.tree_laws.proofs.Flat.{split_at_most}
use Rattle.tree_laws.proofs.Full.{ways, full_right, full_here, full_below}

-- the greatest height of the splits of a row, 0 where nothing is split
unfoldable pub split_row : (count : ℕ) → Forest → (s r j p x : ℕ) → ℕ
split_row zero f s r j p x = 0
split_row (suc m) f s r j p x = max (split_height f s r j p) (split_row m (put f s r j p x) s r j (suc p) (suc x))

module _ {s r : ℕ} (s_least : 2 ≤ s) (r_least : 2 ≤ r) where
  split_right : (m : ℕ) (g f : Forest) (j p x : ℕ) → size g < p → split_row m (node g f) s r (suc j) p x ≡ split_row m f s r (suc j) (p - size g) x
  unfolding split_row
  split_right zero g f j p x l = refl
  split_right (suc m) g f j p x l =
      let next : suc p - size g ≡ suc (p - size g) = omega arith in
      rw (put_right g f s r (suc j) p x l, height_right g f s r (suc j) p l, split_right m g (put f s r (suc j) (p - size g) x) j (suc p) (suc x) (omega arith), next)

  split_inside : (m : ℕ) (g f : Forest) (j p x : ℕ) → Good s r g j → (size g ≡ 0 → j ≡ 0) → p ≤ size g → size g + m < s * r ^ suc j →
      split_row m (node g f) s r (suc j) p x ≡ split_row m g s r j p x
  unfolding split_row
  split_inside zero g f j p x h n l room = refl
  split_inside (suc m) g f j p x h n l room =
      let sized = size_put s r g j p x r_least h l in
      let rest = split_inside m (put g s r j p x) f j (suc p) (suc x) (good_put s r g j p x s_least r_least h l n) (omega arith) (omega arith) (omega arith) in
      rw (put_below g f s r (suc j) p x l (omega arith), height_below g f s r (suc j) p l (omega arith), rest)

  -- no split is higher than the forest
  split_most : (m : ℕ) (f : Forest) (j p x : ℕ) → Good s r f j → p ≤ size f → (size f ≡ 0 → j ≡ 0) → split_row m f s r j p x ≤ j
  unfolding split_row
  split_most zero f j p x h l n = omega arith
  split_most (suc m) f j p x h l n =
      let sized = size_put s r f j p x r_least h l in
      max-le (split_at_most f s r j p h) (split_most m (put f s r j p x) j (suc p) (suc x) (good_put s r f j p x s_least r_least h l n) (omega arith) (omega arith))

  -- a node that comes to its limit is split
  split_full : (m : ℕ) (g f : Forest) (j p x : ℕ) → Good s r g j → (size g ≡ 0 → j ≡ 0) → p ≤ size g → size g < s * r ^ suc j → s * r ^ suc j ≤ size g + m →
      suc j ≤ split_row m (node g f) s r (suc j) p x
  unfolding split_row
  split_full zero g f j p x h n l low high = absurd (omega arith)
  split_full (suc m) g f j p x h n l low high =
      let sized = size_put s r g j p x r_least h l in
      by_test (eqb (suc (size g)) (s * r ^ suc j))
      (λ t. let limit = eqb-true _ _ t in omega (arith, height_split g f s r (suc j) p l limit, le-max_left (split_height (node g f) s r (suc j) p) (split_row m (put (node g f) s r (suc j) p x) s r (suc j) (suc p) (suc x))))
      (λ t.
      let room = eqb-false _ _ t in
      let rest = split_full m (put g s r j p x) f j (suc p) (suc x) (good_put s r g j p x s_least r_least h l n) (omega arith) (omega arith) (omega arith) (omega arith) in
      rw (put_below g f s r (suc j) p x l room)
      (omega (arith, le-max_right (split_height (node g f) s r (suc j) p) (split_row m (node (put g s r j p x) f) s r (suc j) (suc p) (suc x)))))

  pub split_grows : (m : ℕ) (f : Forest) (j p x : ℕ) → Good s r f j → p ≤ size f → (size f ≡ 0 → j ≡ 0) → split_row m f s r j p x ≡ full_height f s r j m p
  unfolding full_height leaves
  split_grows m nil j p x h l n = omega (arith, n refl, split_most m nil j p x h l n)
  split_grows m (leaf z f) zero p x h l n = omega (arith, split_most m (leaf z f) 0 p x h l n)
  split_grows m (leaf z f) (suc j) p x h l n = absurd h
  split_grows m (node g f) zero p x h l n = absurd h
  split_grows m (node g f) (suc j) p x h l n =
      let some : size g ≡ 0 → j ≡ 0 = λ e. absurd (omega (arith, h.0, some_power r (suc j) r_least)) in
      let both = size_node g f in
      ways (size g) p m (s * r ^ suc j)
      (λ k. split_right m g f j p x k ∙ (split_grows m f (suc j) (p - size g) x h.3 (omega arith) (omega arith) ∙ sym (full_right g f s r (suc j) m p k)))
      (λ k full. omega (arith, full_here g f s r (suc j) m p k full, split_full m g f j p x h.2 some k h.1 full, split_most m (node g f) (suc j) p x h l n))
      (λ k room. split_inside m g f j p x h.2 some k room ∙ (split_grows m g j p x h.2 k some ∙ sym (full_below g f s r (suc j) m p k room)))
