-- The potential of a forest: how many leaves its nodes have above the least. What an insertion, with its split, and a load
-- make of it. Assumes nothing.
use mathlib.Core.Path.{◌≡◌, refl, ap, ◌∙◌}
use mathlib.Core.List.{List, [], ◌∷◌}
use Prim.Native.Nat.{ℕ, zero, suc, pred, ◌+◌, ◌*◌, ◌-◌, ◌^◌, ◌≤◌, ◌<◌}
use native.Mathlib.Nat.{suc-mul, one-mul, pow-succ', pow-zero, mul-le-mul_right}
use native.Mathlib.Omega.{arith}
use lib.ListN.{length, take, drop}
use Rattle.tree.specs.Good.{Good, Complete}
use Rattle.tree.specs.Row.{insert_at}
use Rattle.tree.specs.Forest.{Forest, nil, leaf, node, leaves, size, joined, leaf_row, parts, spread, put, split_height}
use Rattle.tree_laws.proofs.Spread.{complete_leaf_row, parts_one, parts_more, front_cut, rest_cut, spread_zero, spread_suc, parts_in, some_power, lower_power, leaves_below, complete_spread}
use Rattle.tree_laws.proofs.Insertion.{Turn, right, split, below, turn, put_right, put_split, put_below, height_right, height_split, height_below, split_length, size_put}

-- the leaves that the nodes of a forest of height j have above the least, r^j for a node of height j
unfoldable pub excess : Forest → (r j : ℕ) → ℕ
excess nil r j = 0
excess (leaf x f) r j = excess f r j
excess (node g f) r j = (size g - r ^ j) + excess g r (pred j) + excess f r j

-- what the split of a node of height h frees
unfoldable pub freed : (s r h : ℕ) → ℕ
freed s r zero = 0
freed s r (suc h) = (s - 1) * r ^ suc h

-- complete trees have none
pub excess_complete : (r : ℕ) (f : Forest) (j : ℕ) → Complete r f j → excess f r j ≡ 0
unfolding excess
excess_complete r nil j h = refl
excess_complete r (leaf x f) zero h = excess_complete r f zero h
excess_complete r (leaf x f) (suc j) h = absurd h
excess_complete r (node g f) zero h = absurd h
excess_complete r (node g f) (suc j) h = omega (arith, h.0, excess_complete r g j h.1, excess_complete r f (suc j) h.2)

-- that of forests joined is the sum
pub excess_joined : (f g : Forest) (r j : ℕ) → excess (joined f g) r j ≡ excess f r j + excess g r j
unfolding excess joined
excess_joined nil g r j = omega arith
excess_joined (leaf x f) g r j = excess_joined f g r j
excess_joined (node h f) g r j = omega (arith, excess_joined f g r j)

-- INSERTION adds at most one for each node above the new leaf, less what its split frees

-- at a node, if so right of it and below it
module _ (s r : ℕ) (g f : Forest) (j p x : ℕ) where
  excess_put_node : 2 ≤ s → 2 ≤ r → Good s r (node g f) (suc j) →
      excess (put f s r (suc j) (p - size g) x) r (suc j) + freed s r (split_height f s r (suc j) (p - size g)) ≤ excess f r (suc j) + suc j →
      excess (put g s r j p x) r j + freed s r (split_height g s r j p) ≤ excess g r j + j →
      excess (put (node g f) s r (suc j) p x) r (suc j) + freed s r (split_height (node g f) s r (suc j) p) ≤ excess (node g f) r (suc j) + suc j
  unfolding excess freed
  excess_put_node t q good onward inside = go (turn (size g) p (s * r ^ suc j))
    where
      go : Turn (size g) p (s * r ^ suc j) →
          excess (put (node g f) s r (suc j) p x) r (suc j) + freed s r (split_height (node g f) s r (suc j) p) ≤ excess (node g f) r (suc j) + suc j
      go (right h) = rw (put_right g f s r (suc j) p x h, height_right g f s r (suc j) p h) omega arith
      go (split h e) =
          let row = insert_at p (x ∷ []) (leaves g) in
          let none = excess_complete r (spread (suc j) r row) (suc j) (complete_spread (suc j) r s row q (split_length p x g ∙ e)) in
          let s' : s ≡ suc (s - 1) = omega arith in
          let limit : s * r ^ suc j ≡ (s - 1) * r ^ suc j + r ^ suc j = ap (λ (k : ℕ). k * r ^ suc j) s' ∙ suc-mul (s - 1) (r ^ suc j) in
          rw (put_split g f s r (suc j) p x h e, height_split g f s r (suc j) p h e, excess_joined (spread (suc j) r row) f r (suc j)) omega (arith, good.0)
      go (below h n) =
          rw (put_below g f s r (suc j) p x h n, height_below g f s r (suc j) p h n) omega (arith, good.0, size_put s r g j p x q good.2 h)

pub excess_put : (s r : ℕ) (f : Forest) (j p x : ℕ) → 2 ≤ s → 2 ≤ r → Good s r f j →
    excess (put f s r j p x) r j + freed s r (split_height f s r j p) ≤ excess f r j + j
unfolding excess freed put split_height
excess_put s r nil j p x t q h = omega arith
excess_put s r (leaf z f) zero zero x t q h = omega arith
excess_put s r (leaf z f) zero (suc p) x t q h = omega (arith, excess_put s r f zero p x t q h)
excess_put s r (leaf z f) (suc j) p x t q h = absurd h
excess_put s r (node g f) zero p x t q h = absurd h
excess_put s r (node g f) (suc j) p x t q h =
    excess_put_node s r g f j p x t q h (excess_put s r f (suc j) (p - size g) x t q h.3) (excess_put s r g j p x t q h.2)

-- A LOAD: all trees but the last are complete, and the last has fewer than r^j leaves above the least

-- nodes over parts of a row, the last over m leaves more, where each has at most so much below it
module _ (r j most : ℕ) (g : List ℕ → Forest) (whole : (ys : List ℕ) → r ^ suc j ≤ length ys → leaves (g ys) ≡ ys)
    (exact : (ys : List ℕ) → length ys ≡ r ^ suc j → Complete r (g ys) j) (bound : (ys : List ℕ) → r ^ suc j ≤ length ys → excess (g ys) r j ≤ most) where
  excess_parts : (c m : ℕ) (xs : List ℕ) → length xs ≡ suc c * r ^ suc j + m → excess (parts (suc c) (r ^ suc j) g xs) r (suc j) ≤ m + most
  unfolding excess
  excess_parts zero m xs n =
      let one = one-mul (r ^ suc j) in
      rw parts_one omega (arith, ap length (whole xs (omega arith)), bound xs (omega arith))
  excess_parts (suc c) m xs n =
      let e = r ^ suc j in
      let front : length (take e xs) ≡ e = front_cut (suc c) e xs (omega arith) in
      let rest : length (drop e xs) ≡ suc c * e + m = omega (arith, rest_cut (suc c) e xs (omega arith), suc-mul (suc c) e) in
      let none = excess_complete r (g (take e xs)) j (exact (take e xs) front) in
      rw parts_more omega (arith, ap length (whole (take e xs) (omega arith)), excess_parts c m (drop e xs) rest)

pub excess_spread_zero : (r : ℕ) (xs : List ℕ) → excess (spread 0 r xs) r 0 ≡ 0
excess_spread_zero r xs = rw spread_zero (excess_complete r (leaf_row xs) 0 (complete_leaf_row r xs))

pub excess_spread : (j r : ℕ) (xs : List ℕ) → 2 ≤ r → r ^ j ≤ length xs → excess (spread j r xs) r j + 2 ≤ 2 * r ^ j
excess_spread zero r xs q h = omega (arith, excess_spread_zero r xs, pow-zero r)
excess_spread (suc j) r xs q h =
    let n = parts_in (length xs) (r ^ suc j) (some_power r (suc j) q) h in
    let m = length xs - suc n.more * r ^ suc j in
    let small : m < r ^ suc j = omega (arith, n.high, suc-mul (suc n.more) (r ^ suc j)) in
    let exact : (ys : List ℕ) → length ys ≡ r ^ suc j → Complete r (spread j r ys) j = λ ys l. complete_spread j r r ys q (l ∙ pow-succ' r j) in
    let bound : (ys : List ℕ) → r ^ suc j ≤ length ys → excess (spread j r ys) r j ≤ 2 * r ^ j - 2 = λ ys l. omega (arith, excess_spread j r ys q (lower_power r j (length ys) q l)) in
    let all = excess_parts r j (2 * r ^ j - 2) (λ ys. spread j r ys) (leaves_below j r q) exact bound n.more m xs (omega (arith, n.low)) in
    rw (spread_suc j r _ xs n.count) omega (arith, pow-succ' r j, mul-le-mul_right (r ^ j) q)
