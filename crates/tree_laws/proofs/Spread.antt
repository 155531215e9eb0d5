-- Forests joined, rows of leaves, and the trees that `spread` builds over a row: their leaves and their limits. Assumes nothing.
use mathlib.Core.Path.{◌≡◌, refl, ap, ◌∙◌}
use mathlib.Core.List.{List, [], ◌∷◌, ◌++◌, append-nil, append_assoc}
use Prim.Native.Nat.{ℕ, zero, suc, ◌+◌, ◌*◌, ◌/◌, ◌^◌, ◌≤◌, ◌<◌}
use native.Mathlib.Nat.{suc-mul, one-mul, pow-succ', one-le-pow, mul-le-mul, mul-le-mul_right, div-mul-le_self, lt-div-mul-add, le-div_iff_mul-le, div-eq_of_eq-mul_left}
use native.Mathlib.Omega.{arith}
use lib.ListN.{length, take, drop, length-drop, take-append-drop}
use lib.Seq.{length-take-le}
use Rattle.tree.specs.Good.{Good, Complete}
use Rattle.tree.specs.Forest.{Forest, nil, leaf, node, leaves, size, joined, leaf_row, parts, spread, trees}

-- forests joined
pub leaves_joined : (f g : Forest) → leaves (joined f g) ≡ leaves f ++ leaves g
unfolding joined leaves
leaves_joined nil g = refl
leaves_joined (leaf x f) g = rw (leaves_joined f g)
leaves_joined (node h f) g = rw (leaves_joined f g, append_assoc)

pub joined_nil : (f : Forest) → joined f nil ≡ f
unfolding joined
joined_nil nil = refl
joined_nil (leaf x f) = ap (leaf x) (joined_nil f)
joined_nil (node g f) = ap (node g) (joined_nil f)

pub joined_assoc : (f g h : Forest) → joined (joined f g) h ≡ joined f (joined g h)
unfolding joined
joined_assoc nil g h = refl
joined_assoc (leaf x f) g h = ap (leaf x) (joined_assoc f g h)
joined_assoc (node e f) g h = ap (node e) (joined_assoc f g h)

pub trees_joined : (f g : Forest) → trees (joined f g) ≡ trees f + trees g
unfolding joined
trees_joined nil g = omega arith
trees_joined (leaf x f) g = omega (arith, trees_joined f g)
trees_joined (node e f) g = omega (arith, trees_joined f g)

pub good_joined : (s r : ℕ) (f g : Forest) (j : ℕ) → Good s r f j → Good s r g j → Good s r (joined f g) j
unfolding joined
good_joined s r nil g j p q = q
good_joined s r (leaf x f) g zero p q = good_joined s r f g zero p q
good_joined s r (leaf x f) g (suc j) p q = absurd p
good_joined s r (node h f) g zero p q = absurd p
good_joined s r (node h f) g (suc j) p q = (p.0, p.1, p.2, good_joined s r f g (suc j) p.3 q)

-- complete trees keep the limits
pub complete_good : (s r : ℕ) (f : Forest) (j : ℕ) → 2 ≤ s → 2 ≤ r → Complete r f j → Good s r f j
complete_good s r nil j p q c = tt
complete_good s r (leaf x f) zero p q c = complete_good s r f zero p q c
complete_good s r (leaf x f) (suc j) p q c = absurd c
complete_good s r (node g f) zero p q c = absurd c
complete_good s r (node g f) (suc j) p q c = (
  omega arith,
  omega (arith, c.0, one-le-pow (suc j) r (omega arith), mul-le-mul_right (r ^ suc j) p),
  complete_good s r g j p q c.1,
  complete_good s r f (suc j) p q c.2,
)

-- rows of leaves
pub leaves_leaf_row : (xs : List ℕ) → leaves (leaf_row xs) ≡ xs
unfolding leaf_row leaves
leaves_leaf_row [] = refl
leaves_leaf_row (x ∷ xs) = rw (leaves_leaf_row xs)

pub complete_leaf_row : (r : ℕ) (xs : List ℕ) → Complete r (leaf_row xs) 0
unfolding leaf_row
complete_leaf_row r [] = tt
complete_leaf_row r (x ∷ xs) = complete_leaf_row r xs

pub good_leaf_row : (s r : ℕ) (xs : List ℕ) → Good s r (leaf_row xs) 0
unfolding leaf_row
good_leaf_row s r [] = tt
good_leaf_row s r (x ∷ xs) = good_leaf_row s r xs

pub trees_leaf_row : (xs : List ℕ) → trees (leaf_row xs) ≡ length xs
unfolding leaf_row
trees_leaf_row [] = refl
trees_leaf_row (x ∷ xs) = ap suc (trees_leaf_row xs)

-- one is known by its tags
pub leaf_row_of : (s r : ℕ) (f : Forest) → Good s r f 0 → leaf_row (leaves f) ≡ f
unfolding leaf_row leaves
leaf_row_of s r nil h = refl
leaf_row_of s r (leaf x f) h = ap (leaf x) (leaf_row_of s r f h)
leaf_row_of s r (node g f) h = absurd h

-- the clauses of `parts`
pub parts_none : (e : ℕ) (g : List ℕ → Forest) (xs : List ℕ) → parts 0 e g xs ≡ nil
unfolding parts
parts_none e g xs = refl

pub parts_one : (e : ℕ) (g : List ℕ → Forest) (xs : List ℕ) → parts 1 e g xs ≡ node (g xs) nil
unfolding parts
parts_one e g xs = refl

pub parts_more : (c e : ℕ) (g : List ℕ → Forest) (xs : List ℕ) → parts (suc (suc c)) e g xs ≡ node (g (take e xs)) (parts (suc c) e g (drop e xs))
unfolding parts
parts_more c e g xs = refl

-- a row of at least suc c times e tags, cut behind the first e
pub front_cut : (c e : ℕ) (xs : List ℕ) → suc c * e ≤ length xs → length (take e xs) ≡ e
front_cut c e xs h = length-take-le e xs (omega (arith, suc-mul c e))

pub rest_cut : (c e : ℕ) (xs : List ℕ) → suc c * e ≤ length xs → length (drop e xs) + e ≡ length xs
rest_cut c e xs h = omega (arith, suc-mul c e, length-drop e xs)

-- nodes over a row, where the forests under them hold the leaves that they are given
module _ (e : ℕ) (g : List ℕ → Forest) (whole : (ys : List ℕ) → e ≤ length ys → leaves (g ys) ≡ ys) where
  leaves_parts : (c : ℕ) (xs : List ℕ) → suc c * e ≤ length xs → leaves (parts (suc c) e g xs) ≡ xs
  unfolding leaves
  leaves_parts zero xs h = rw (parts_one, append-nil) (whole xs (omega (arith, one-mul e)))
  leaves_parts (suc c) xs h =
      let front = whole (take e xs) (omega (arith, front_cut (suc c) e xs h)) in
      let rest = leaves_parts c (drop e xs) (omega (arith, rest_cut (suc c) e xs h, suc-mul (suc c) e)) in
      rw (parts_more, front, rest) (take-append-drop e xs)

-- and keep limits there
module _ (s r j : ℕ) (g : List ℕ → Forest) (whole : (ys : List ℕ) → r ^ suc j ≤ length ys → leaves (g ys) ≡ ys)
    (s_least : 2 ≤ s) (good : (ys : List ℕ) → r ^ suc j ≤ length ys → Good s r (g ys) j) (some : 1 ≤ r ^ suc j) where
  good_part : (ys : List ℕ) (f : Forest) → r ^ suc j ≤ length ys → length ys < 2 * r ^ suc j → Good s r f (suc j) →
      Good s r (node (g ys) f) (suc j)
  good_part ys f low high h =
      let sized : size (g ys) ≡ length ys = ap length (whole ys low) in
      (omega arith, omega (arith, mul-le-mul_right (r ^ suc j) s_least), good ys low, h)

  good_parts : (c : ℕ) (xs : List ℕ) → suc c * r ^ suc j ≤ length xs → length xs < suc (suc c) * r ^ suc j →
      Good s r (parts (suc c) (r ^ suc j) g xs) (suc j)
  good_parts zero xs low high = rw parts_one (good_part xs nil (omega (arith, one-mul (r ^ suc j))) high tt)
  good_parts (suc c) xs low high =
      let e = r ^ suc j in
      let front = front_cut (suc c) e xs low in
      let rest = rest_cut (suc c) e xs low in
      let below = suc-mul (suc c) e in
      let above = suc-mul (suc (suc c)) e in
      let more = good_parts c (drop e xs) (omega arith) (omega arith) in
      rw parts_more (good_part (take e xs) (parts (suc c) e g (drop e xs)) (omega arith) (omega arith) more)

-- and are complete over a whole number of parts
complete_parts : (r j : ℕ) (g : List ℕ → Forest) (c : ℕ) (xs : List ℕ) →
    ((ys : List ℕ) → r ^ suc j ≤ length ys → leaves (g ys) ≡ ys) → ((ys : List ℕ) → length ys ≡ r ^ suc j → Complete r (g ys) j) →
    length xs ≡ c * r ^ suc j → Complete r (parts c (r ^ suc j) g xs) (suc j)
complete_parts r j g zero xs whole complete n = rw parts_none tt
complete_parts r j g (suc zero) xs whole complete n =
    let all : length xs ≡ r ^ suc j = omega (arith, one-mul (r ^ suc j)) in
    rw parts_one (rw (whole xs (omega arith)) all, complete xs all, tt)
complete_parts r j g (suc (suc c)) xs whole complete n =
    let e = r ^ suc j in
    let front = front_cut (suc c) e xs (omega arith) in
    let rest = complete_parts r j g (suc c) (drop e xs) whole complete (omega (arith, rest_cut (suc c) e xs (omega arith), suc-mul (suc c) e)) in
    rw parts_more (rw (whole (take e xs) (omega arith)) front, complete (take e xs) front, rest)

-- the clauses of `spread`, by the number of its parts
pub spread_zero : (r : ℕ) (xs : List ℕ) → spread 0 r xs ≡ leaf_row xs
unfolding spread
spread_zero r xs = refl

pub spread_suc : (j r c : ℕ) (xs : List ℕ) → length xs / r ^ suc j ≡ c → spread (suc j) r xs ≡ parts c (r ^ suc j) (λ ys. spread j r ys) xs
unfolding spread
spread_suc j r c xs q = rw q

-- the number of parts of e in l
pub record Parts (l e : ℕ) : Type 0 where
  pub more : ℕ
  pub count : l / e ≡ suc more
  pub low : suc more * e ≤ l
  pub high : l < suc (suc more) * e

pub parts_in : (l e : ℕ) → 1 ≤ e → e ≤ l → Parts l e
parts_in l e some h = go (l / e) refl
  where
    go : (q : ℕ) → l / e ≡ q → Parts l e
    go zero n = absurd (omega (arith, (le-div_iff_mul-le {x = 1} {y = l} some).1 (omega (arith, one-mul e))))
    go (suc c) n = record {
      more = c;
      count = n;
      low = rw n at (div-mul-le_self l e);
      high = omega (arith, suc-mul (suc c) e, rw n at (lt-div-mul-add {a = l} some));
    }

-- powers of r
pub some_power : (r j : ℕ) → 2 ≤ r → 1 ≤ r ^ j
some_power r j h = one-le-pow j r (omega arith)

pub lower_power : (r j l : ℕ) → 2 ≤ r → r ^ suc j ≤ l → r ^ j ≤ l
lower_power r j l h p = omega (arith, pow-succ' r j, mul-le-mul_right (r ^ j) h)

-- a node with its least leaves is two or more short of its limit
pub far_from_limit : (s r j : ℕ) → 2 ≤ s → 2 ≤ r → r ^ suc j + 2 ≤ s * r ^ suc j
far_from_limit s r j t q = omega (arith, mul-le-mul_right (r ^ suc j) t, pow-succ' r j, mul-le-mul q (some_power r j q))

-- `spread` keeps the row
pub leaves_spread_zero : (r : ℕ) (xs : List ℕ) → leaves (spread 0 r xs) ≡ xs
leaves_spread_zero r xs = rw spread_zero (leaves_leaf_row xs)

pub leaves_spread : (j r : ℕ) (xs : List ℕ) → 2 ≤ r → r ^ j ≤ length xs → leaves (spread j r xs) ≡ xs
leaves_spread zero r xs p h = leaves_spread_zero r xs
leaves_spread (suc j) r xs p h =
    let n = parts_in (length xs) (r ^ suc j) (some_power r (suc j) p) h in
    let below : (ys : List ℕ) → r ^ suc j ≤ length ys → leaves (spread j r ys) ≡ ys = λ ys l. leaves_spread j r ys p (lower_power r j (length ys) p l) in
    rw (spread_suc j r _ xs n.count) (leaves_parts (r ^ suc j) (λ ys. spread j r ys) below n.more xs n.low)

pub leaves_below : (j r : ℕ) → 2 ≤ r → (ys : List ℕ) → r ^ suc j ≤ length ys → leaves (spread j r ys) ≡ ys
leaves_below j r p ys l = leaves_spread j r ys p (lower_power r j (length ys) p l)

-- and keeps the limits
pub good_spread_zero : (s r : ℕ) (xs : List ℕ) → Good s r (spread 0 r xs) 0
good_spread_zero s r xs = rw spread_zero (good_leaf_row s r xs)

pub good_spread : (s j r : ℕ) (xs : List ℕ) → 2 ≤ s → 2 ≤ r → r ^ j ≤ length xs → Good s r (spread j r xs) j
good_spread s zero r xs t p h = good_spread_zero s r xs
good_spread s (suc j) r xs t p h =
    let some = some_power r (suc j) p in
    let n = parts_in (length xs) (r ^ suc j) some h in
    let below : (ys : List ℕ) → r ^ suc j ≤ length ys → Good s r (spread j r ys) j = λ ys l. good_spread s j r ys t p (lower_power r j (length ys) p l) in
    rw (spread_suc j r _ xs n.count) (good_parts s r j (λ ys. spread j r ys) (leaves_below j r p) t below some n.more xs n.low n.high)

-- over k times r^j leaves the trees are complete
pub complete_spread : (j r k : ℕ) (xs : List ℕ) → 2 ≤ r → length xs ≡ k * r ^ j → Complete r (spread j r xs) j
complete_spread zero r k xs p n = rw spread_zero (complete_leaf_row r xs)
complete_spread (suc j) r k xs p n =
    let below : (ys : List ℕ) → length ys ≡ r ^ suc j → Complete r (spread j r ys) j = λ ys l. complete_spread j r r ys p (l ∙ pow-succ' r j) in
    rw (spread_suc j r k xs (div-eq_of_eq-mul_left (some_power r (suc j) p) n)) (complete_parts r j (λ ys. spread j r ys) k xs (leaves_below j r p) below n)
