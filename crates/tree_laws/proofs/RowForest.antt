-- A row of tags put into a good forest leaves what specs/Grown.antt works out. Assumes nothing.
use mathlib.Core.Path.{◌≡◌, refl, ap, sym, ◌∙◌}
use mathlib.Core.List.{List}
use Prim.Native.Nat.{ℕ, zero, suc, ◌+◌, ◌*◌, ◌-◌, ◌^◌, ◌≤◌, ◌<◌}
use native.Mathlib.Nat.{add_assoc}
use native.Mathlib.Omega.{arith}
use lib.ListN.{length}
use Rattle.lists.specs.Lists.{numbers}
use Rattle.lists.proofs.Numbers.{length_numbers}
use Rattle.tree.specs.Good.{Good}
use Rattle.tree.specs.Row.{insert_at}
use Rattle.tree.specs.Forest.{Forest, nil, leaf, node, leaves, size, joined, leaf_row}
use Rattle.tree.specs.Grown.{in_splits, in_node, path, grown_node, full_height, grown_in}
use Rattle.tree_laws.proofs.Spread.{leaf_row_of, some_power}
use Rattle.tree_laws.proofs.Insertion.{size_node}
use Rattle.tree_laws.proofs.RowPut.{put_row, put_row_add, insert_more, length_inserted, row_kept, row_right, row_inside, row_fills}
use Rattle.tree_laws.proofs.RowPath.{follows, row_follows}
use Rattle.tree_laws.proofs.Full.{ways, full_right, full_here, full_below, full_at_most, grown_right, grown_here, grown_inside, grown_row}

-- A NODE THAT COMES TO ITS LIMIT with the first tags: the others go on from the complete trees
pub grown_node_is : (s r h p x first rest : ℕ) (xs : List ℕ) → p ≤ length xs → s * r ^ h - length xs ≡ first →
    path s r h (p + first + in_splits s r h rest) (rest - in_splits s r h rest) (insert_at (p + first) (numbers (x + first) rest) (insert_at p (numbers x first) xs))
    ≡ grown_node s r h p (numbers x (first + rest)) xs
unfolding grown_node in_node
grown_node_is s r h p x first rest xs l e =
    let left : first + rest - first ≡ rest = omega arith in
    let t = in_splits s r h rest in
    let lower : first + rest - (first + t) ≡ rest - t = omega arith in
    rw (length_numbers x (first + rest), e, left, lower, insert_more first rest p x xs l, add_assoc p first t)

module _ {s r : ℕ} (s_least : 2 ≤ s) (r_least : 2 ≤ r) where
  row_node : (m : ℕ) (g f : Forest) (j p x : ℕ) → Good s r g j → (size g ≡ 0 → j ≡ 0) → p ≤ size g → size g < s * r ^ suc j → s * r ^ suc j ≤ size g + m →
      put_row m (node g f) s r (suc j) p x ≡ joined (grown_node s r (suc j) p (numbers x m) (leaves g)) f
  row_node m g f j p x h n l low high =
      let limit = s * r ^ suc j in
      let b = limit - size g - 1 in
      let first = suc b in
      let rest = m - first in
      let whole : first + rest ≡ m = omega arith in
      let row = insert_at p (numbers x first) (leaves g) in
      let n_row = length_inserted p x first (leaves g) in
      let full = row_fills s_least r_least b g f j p x h n l (omega arith) in
      let on = row_follows s_least r_least j (follows s_least r_least j) s rest (p + first) (x + first) row f (omega arith) (omega arith) (omega arith) in
      let all = grown_node_is s r (suc j) p x first rest (leaves g) l (omega arith) in
      rw (← whole) (put_row_add first rest (node g f) s r (suc j) p x
      ∙ (ap (λ (t : Forest). put_row rest t s r (suc j) (p + first) (x + first)) full ∙ (on ∙ ap (λ (t : Forest). joined t f) all)))

module _ {s r : ℕ} (s_least : 2 ≤ s) (r_least : 2 ≤ r) where
  -- a row of leaves
  row_leaves : (m : ℕ) (f : Forest) (p x : ℕ) → Good s r f 0 → p ≤ size f → put_row m f s r 0 p x ≡ grown_in f s r 0 0 p (numbers x m)
  row_leaves m f p x h l =
      let kept = row_kept s_least r_least m f 0 p x h l (λ e. refl) in
      sym (leaf_row_of s r _ kept.1) ∙ (ap leaf_row kept.0 ∙ sym (grown_row s r (numbers x m) f p h))

  -- THE FOREST that a row leaves
  pub row_grows : (m : ℕ) (f : Forest) (j p x : ℕ) → Good s r f j → p ≤ size f → (size f ≡ 0 → j ≡ 0) →
      put_row m f s r j p x ≡ grown_in f s r j (full_height f s r j m p) p (numbers x m)
  unfolding full_height leaves
  row_grows m nil j p x h l n =
      let low : j ≡ 0 = n refl in
      rw low (row_leaves m nil p x tt l)
  row_grows m (leaf z f) zero p x h l n = row_leaves m (leaf z f) p x h l
  row_grows m (leaf z f) (suc j) p x h l n = absurd h
  row_grows m (node g f) zero p x h l n = absurd h
  row_grows m (node g f) (suc j) p x h l n =
      let ns = numbers x m in
      let some : size g ≡ 0 → j ≡ 0 = λ e. absurd (omega (arith, h.0, some_power r (suc j) r_least)) in
      let both = size_node g f in
      ways (size g) p m (s * r ^ suc j)
      (λ k.
      let onward = row_grows m f (suc j) (p - size g) x h.3 (omega arith) (omega arith) in
      row_right s_least r_least m g f j p x k ∙ rw (full_right g f s r (suc j) m p k, grown_right g f s r (suc j) (full_height f s r (suc j) m (p - size g)) p ns k, onward))
      (λ k full. row_node s_least r_least m g f j p x h.2 some k h.1 full ∙ rw (full_here g f s r (suc j) m p k full, grown_here g f s r (suc j) (suc j) p ns k refl))
      (λ k room.
      let lower : suc j ≡ full_height g s r j m p → ⊥ = λ e. omega (arith, full_at_most g s r j m p h.2) in
      row_inside s_least r_least m g f j p x h.2 some k room
      ∙ rw (full_below g f s r (suc j) m p k room, grown_inside g f s r (suc j) (full_height g s r j m p) p ns k lower, row_grows m g j p x h.2 k some))
