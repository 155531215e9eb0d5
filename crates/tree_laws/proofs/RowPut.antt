-- A row of tags put into a forest one after the other: its leaves and limits, and where it goes at a node: past it, into it, or in
-- until the node comes to its limit. Assumes nothing.
use mathlib.Core.Path.{◌≡◌, refl, ap, sym, ◌∙◌}
use mathlib.Core.List.{List, [], ◌∷◌}
use Prim.Native.Nat.{ℕ, zero, suc, ◌+◌, ◌*◌, ◌-◌, ◌^◌, ◌≤◌, ◌<◌}
use native.Mathlib.Nat.{zero-add, add-zero, suc-add}
use native.Mathlib.Omega.{arith}
use lib.ListN.{length}
use Rattle.lists.specs.Lists.{numbers}
use Rattle.lists.proofs.Numbers.{length_numbers}
use Rattle.tree.specs.Good.{Good, Complete}
use Rattle.tree.specs.Row.{insert_at}
use Rattle.tree.specs.Forest.{Forest, nil, leaf, node, leaves, size, joined, spread, put}
use Rattle.tree_laws.proofs.Rows.{length_insert, insert_none, insert_next}
use Rattle.tree_laws.proofs.Insertion.{put_right, put_split, put_below, size_node, leaves_put, size_put, good_put}

-- count tags x, x + 1, .. behind the first p leaves, each right behind the one before
unfoldable pub put_row : (count : ℕ) → Forest → (s r j p x : ℕ) → Forest
put_row zero f s r j p x = f
put_row (suc m) f s r j p x = put_row m (put f s r j p x) s r j (suc p) (suc x)

-- one place further on
pub later : (p a : ℕ) → p + suc a ≡ suc p + a
later p a = omega arith

-- TWO ROWS, the second behind the first, are one
pub put_row_add : (a b : ℕ) (f : Forest) (s r j p x : ℕ) → put_row (a + b) f s r j p x ≡ put_row b (put_row a f s r j p x) s r j (p + a) (x + a)
unfolding put_row
put_row_add zero b f s r j p x = rw (zero-add, add-zero p, add-zero x)
put_row_add (suc a) b f s r j p x = rw (suc-add, later p a, later x a) (put_row_add a b (put f s r j p x) s r j (suc p) (suc x))

pub insert_more : (a b p x : ℕ) (xs : List ℕ) → p ≤ length xs → insert_at (p + a) (numbers (x + a) b) (insert_at p (numbers x a) xs) ≡ insert_at p (numbers x (a + b)) xs
unfolding numbers
insert_more zero b p x xs l = rw (insert_none, zero-add, add-zero p, add-zero x)
insert_more (suc a) b p x xs l =
    let ys = insert_at p (x ∷ []) xs in
    let rest = insert_more a b (suc p) (suc x) ys (omega (arith, length_insert p (x ∷ []) xs)) in
    rw (suc-add, later p a, later x a, ← insert_next p x (numbers (suc x) a) xs l, ← insert_next p x (numbers (suc x) (a + b)) xs l) rest

pub length_inserted : (p x m : ℕ) (xs : List ℕ) → length (insert_at p (numbers x m) xs) ≡ m + length xs
length_inserted p x m xs = length_insert p (numbers x m) xs ∙ ap (λ n. n + length xs) (length_numbers x m)

module _ {s r : ℕ} (s_least : 2 ≤ s) (r_least : 2 ≤ r) where
  -- THE TAGS ARE IN THEIR PLACES, and the limits are kept
  pub row_kept : (m : ℕ) (f : Forest) (j p x : ℕ) → Good s r f j → p ≤ size f → (size f ≡ 0 → j ≡ 0) →
      (leaves (put_row m f s r j p x) ≡ insert_at p (numbers x m) (leaves f)) × Good s r (put_row m f s r j p x) j
  unfolding put_row numbers
  row_kept zero f j p x h l n = (sym (insert_none p (leaves f)), h)
  row_kept (suc m) f j p x h l n =
      let sized = size_put s r f j p x r_least h l in
      let rest = row_kept m (put f s r j p x) j (suc p) (suc x) (good_put s r f j p x s_least r_least h l n) (omega arith) (omega arith) in
      (rest.0 ∙ (ap (insert_at (suc p) (numbers (suc x) m)) (leaves_put s r f j p x r_least h l) ∙ insert_next p x (numbers (suc x) m) (leaves f) l), rest.1)

  -- RIGHT OF A NODE
  pub row_right : (m : ℕ) (g f : Forest) (j p x : ℕ) → size g < p → put_row m (node g f) s r (suc j) p x ≡ node g (put_row m f s r (suc j) (p - size g) x)
  unfolding put_row
  row_right zero g f j p x l = refl
  row_right (suc m) g f j p x l =
      let next : suc p - size g ≡ suc (p - size g) = omega arith in
      rw (put_right g f s r (suc j) p x l) (row_right m g (put f s r (suc j) (p - size g) x) j (suc p) (suc x) (omega arith) ∙ rw next)

  -- right of complete trees
  pub row_past : (m : ℕ) (h f : Forest) (j i x : ℕ) → Complete r h (suc j) → 1 ≤ i → put_row m (joined h f) s r (suc j) (size h + i) x ≡ joined h (put_row m f s r (suc j) i x)
  unfolding joined leaves
  row_past m nil f j i x c l = rw zero-add
  row_past m (leaf z h) f j i x c l = absurd c
  row_past m (node g h) f j i x c l =
      let n = size_node g h in
      let next : size (node g h) + i - size g ≡ size h + i = omega arith in
      row_right m g (joined h f) j (size (node g h) + i) x (omega arith) ∙ rw next (ap (node g) (row_past m h f j i x c.2 l))

  -- INTO A NODE that stays below its limit
  pub row_inside : (m : ℕ) (g f : Forest) (j p x : ℕ) → Good s r g j → (size g ≡ 0 → j ≡ 0) → p ≤ size g → size g + m < s * r ^ suc j →
      put_row m (node g f) s r (suc j) p x ≡ node (put_row m g s r j p x) f
  unfolding put_row
  row_inside zero g f j p x h n l room = refl
  row_inside (suc m) g f j p x h n l room =
      let sized = size_put s r g j p x r_least h l in
      rw (put_below g f s r (suc j) p x l (omega arith))
      (row_inside m (put g s r j p x) f j (suc p) (suc x) (good_put s r g j p x s_least r_least h l n) (omega arith) (omega arith) (omega arith))

  -- and one that they bring to its limit: complete trees over all of its leaves
  pub row_fills : (m : ℕ) (g f : Forest) (j p x : ℕ) → Good s r g j → (size g ≡ 0 → j ≡ 0) → p ≤ size g → size g + suc m ≡ s * r ^ suc j →
      put_row (suc m) (node g f) s r (suc j) p x ≡ joined (spread (suc j) r (insert_at p (numbers x (suc m)) (leaves g))) f
  unfolding put_row numbers
  row_fills zero g f j p x h n l room = put_split g f s r (suc j) p x l (omega arith)
  row_fills (suc m) g f j p x h n l room =
      let sized = size_put s r g j p x r_least h l in
      let rest = row_fills m (put g s r j p x) f j (suc p) (suc x) (good_put s r g j p x s_least r_least h l n) (omega arith) (omega arith) (omega arith) in
      rw (put_below g f s r (suc j) p x l (omega arith))
      (rest ∙ rw (leaves_put s r g j p x r_least h l, insert_next p x (numbers (suc x) (suc m)) (leaves g) l))
