-- The labels of a good forest: how many, where they lie, that they rise strictly, and how they shift and join.
-- Assumes nothing.
use mathlib.Core.Path.{◌≡◌, refl, ap, sym}
use mathlib.Core.Bool.{Bool, true, false}
use mathlib.Core.List.{List, [], ◌∷◌, ◌++◌, map, append_assoc, map-append}
use Prim.Native.Nat.{ℕ, zero, suc, pred, ◌+◌, ◌*◌, ◌-◌, ◌^◌, ◌≤◌, ◌<◌}
use native.Mathlib.Nat.{suc-mul, mul_assoc, pow-succ', pow-zero, mul-le-mul, mul-le-mul_right, lt_of_mul-lt-mul_right, le_refl, le_of_eq, zero-add, suc-add, add_right_comm}
use native.Mathlib.Omega.{arith}
use borrow.Author.Tests.{lt-ltb, le-ltb, ltb-true, ltb-false}
use lib.Dec.{ltb}
use lib.ListN.{length, get_or, length-append, get_or-append}
use lib.Seq.{get_or-append-add}
use Rattle.lists.proofs.Tests.{and_left, and_right, and_both, by_test}
use Rattle.tree.specs.Good.{Good}
use Rattle.tree.specs.Row.{rises}
use Rattle.tree.specs.Forest.{Forest, nil, leaf, node, leaves, size, labels, joined, within_limits}
use Rattle.tree.specs.Book.{height, labels_of, base, power_width, root_within, book_within}
use Rattle.tree.specs.Promise.{Widths, LabelsRise}
use Rattle.tree_laws.proofs.Good.{good_of}
pub use Rattle.tree.specs.Forest.{trees}

-- the end of the first of suc n trees and n more is the end of them all
pub next_end : (a v n : ℕ) → a + v + n * v ≡ a + suc n * v
next_end a v n = omega (arith, suc-mul n v)

-- a label for each leaf
pub length_labels : (f : Forest) (w : ℕ → ℕ) (j a : ℕ) → length (labels f w j a) ≡ size f
unfolding labels leaves
length_labels nil w j a = refl
length_labels (leaf x f) w j a = ap suc (length_labels f w j (a + w j))
length_labels (node g f) w j a = simp (length-append, length_labels g w (pred j) a, length_labels f w j (a + w j))

-- a tree of height j has at least r^j leaves
pub trees_size : (s r : ℕ) (f : Forest) (j : ℕ) → Good s r f j → trees f * r ^ j ≤ size f
unfolding leaves
trees_size s r nil j h = omega arith
trees_size s r (leaf x f) zero h = omega (arith, trees_size s r f zero h, suc-mul (trees f) (r ^ zero), pow-zero r)
trees_size s r (leaf x f) (suc j) h = absurd h
trees_size s r (node g f) zero h = absurd h
trees_size s r (node g f) (suc j) h =
    rw length-append (omega (arith, h.0, trees_size s r f (suc j) h.3, suc-mul (trees f) (r ^ suc j)))

-- so a node has at most b children
pub trees_base : (s r : ℕ) (g : Forest) (j : ℕ) → Good s r g j → size g < s * r ^ suc j → trees g ≤ base s r
unfolding base
trees_base s r g j h l =
    let e : s * r ^ suc j ≡ s * r * r ^ j = rw (pow-succ', mul_assoc) in
    let b : trees g < s * r = lt_of_mul-lt-mul_right (r ^ j) (omega (arith, e, trees_size s r g j h)) in
    omega arith

-- RISING: each number of a list is at least low, above the one before, and below high
abbrev pub Rising : (low high : ℕ) → List ℕ → Type 0
Rising a b [] = a ≤ b
Rising a b (l ∷ ls) = (a ≤ l) × Rising (suc l) b ls

pub rising_lower : (a a' b : ℕ) (ls : List ℕ) → a' ≤ a → Rising a b ls → Rising a' b ls
rising_lower a a' b [] h r = omega arith
rising_lower a a' b (l ∷ ls) h r = (omega (arith, r.0), r.1)

pub rising_higher : (a b b' : ℕ) (ls : List ℕ) → b ≤ b' → Rising a b ls → Rising a b' ls
rising_higher a b b' [] h r = omega arith
rising_higher a b b' (l ∷ ls) h r = (r.0, rising_higher (suc l) b b' ls h r.1)

pub rising_order : (a b : ℕ) (ls : List ℕ) → Rising a b ls → a ≤ b
rising_order a b [] r = r
rising_order a b (l ∷ ls) r = omega (arith, r.0, rising_order (suc l) b ls r.1)

pub rising_append : (a m b : ℕ) (xs ys : List ℕ) → Rising a m xs → Rising m b ys → Rising a b (xs ++ ys)
rising_append a m b [] ys r q = rising_lower m a b ys r q
rising_append a m b (x ∷ xs) ys r q = (r.0, rising_append (suc x) m b xs ys r.1 q)

-- the test of specs/Row.antt, both ways
pub rises_of : (a b : ℕ) (ls : List ℕ) → Rising a b ls → rises b ls ≡ true
unfolding rises
rises_of a b [] r = refl
rises_of a b (l ∷ []) r = lt-ltb l b r.1
rises_of a b (l ∷ k ∷ ls) r = and_both (lt-ltb l k r.1.0) (rises_of (suc l) b (k ∷ ls) r.1)

rising_behind : (b l : ℕ) (ls : List ℕ) → rises b (l ∷ ls) ≡ true → Rising (suc l) b ls
unfolding rises
rising_behind b l [] e = ltb-true l b e
rising_behind b l (k ∷ ls) e =
    (ltb-true l k (and_left (ltb l k) (rises b (k ∷ ls)) e), rising_behind b k ls (and_right (ltb l k) (rises b (k ∷ ls)) e))

pub rising_of : (b : ℕ) (ls : List ℕ) → rises b ls ≡ true → Rising 0 b ls
rising_of b [] e = omega arith
rising_of b (l ∷ ls) e = (omega arith, rising_behind b l ls e)

-- by index: where the numbers lie, and that comparing them is comparing their indices
pub rising_from : (a b : ℕ) (ls : List ℕ) → Rising a b ls → (i : ℕ) → i < length ls → a ≤ get_or ls i 0
rising_from a b [] r i h = omega arith
rising_from a b (l ∷ ls) r zero h = r.0
rising_from a b (l ∷ ls) r (suc i) h = omega (arith, r.0, rising_from (suc l) b ls r.1 i (omega arith))

pub rising_below : (a b : ℕ) (ls : List ℕ) → Rising a b ls → (i : ℕ) → i < length ls → get_or ls i 0 < b
rising_below a b [] r i h = omega arith
rising_below a b (l ∷ ls) r zero h = rising_order (suc l) b ls r.1
rising_below a b (l ∷ ls) r (suc i) h = rising_below (suc l) b ls r.1 i (omega arith)

pub rising_index : (a b : ℕ) (ls : List ℕ) → Rising a b ls → (i k : ℕ) → i < k → k < length ls → get_or ls i 0 < get_or ls k 0
rising_index a b [] r i k h n = omega arith
rising_index a b (l ∷ ls) r i zero h n = omega arith
rising_index a b (l ∷ ls) r zero (suc k) h n = rising_from (suc l) b ls r.1 k (omega arith)
rising_index a b (l ∷ ls) r (suc i) (suc k) h n = rising_index (suc l) b ls r.1 i k (omega arith) (omega arith)

pub rising_compare : (a b : ℕ) (ls : List ℕ) → Rising a b ls → (i k : ℕ) → i < length ls → k < length ls → ltb (get_or ls i 0) (get_or ls k 0) ≡ ltb i k
rising_compare a b ls r i k i_fits k_fits = go (ltb i k) (ltb k i) refl refl
  where
    go : (t u : Bool) → ltb i k ≡ t → ltb k i ≡ u → ltb (get_or ls i 0) (get_or ls k 0) ≡ ltb i k
    go true u p q = rw p (lt-ltb (get_or ls i 0) (get_or ls k 0) (rising_index a b ls r i k (ltb-true i k p) k_fits))
    go false true p q =
        rw p (le-ltb (get_or ls i 0) (get_or ls k 0) (omega (arith, rising_index a b ls r k i (ltb-true k i q) i_fits)))
    go false false p q =
        let e : i ≡ k = omega (arith, ltb-false i k p, ltb-false k i q) in rw (p, e) (le-ltb (get_or ls k 0) (get_or ls k 0) (le_refl _))

-- THE LABELS OF A GOOD FOREST rise strictly from its first number up to the end of its last tree
module _ {s r : ℕ} {w : ℕ → ℕ} (s_least : 2 ≤ s) (r_least : 2 ≤ r) (widths : Widths s r w) where
  base_least : 1 ≤ base s r
  unfolding base
  base_least = omega (arith, mul-le-mul s_least r_least)

  -- each width is at least 1
  pub width_least : (j : ℕ) → 1 ≤ w j
  width_least zero = widths.first
  width_least (suc j) = omega (arith, mul-le-mul base_least (width_least j), widths.grows j)

  -- no width is more than a higher one
  pub width_rises : (d j : ℕ) → w j ≤ w (d + j)
  width_rises zero j = rw zero-add (le_refl (w j))
  width_rises (suc d) j = rw suc-add (omega (arith, width_rises d j, mul-le-mul_right (w (d + j)) base_least, widths.grows (d + j)))

  -- a node's children fit into its width
  pub children_fit : (g : Forest) (j : ℕ) → Good s r g j → size g < s * r ^ suc j → trees g * w j ≤ w (suc j)
  children_fit g j h l = omega (arith, mul-le-mul_right (w j) (trees_base s r g j h l), widths.grows j)

  node_end : (g : Forest) (j a : ℕ) → Good s r g j → size g < s * r ^ suc j → (ls : List ℕ) → Rising a (a + trees g * w j) ls → Rising a (a + w (suc j)) ls
  node_end g j a h l ls = rising_higher a (a + trees g * w j) (a + w (suc j)) ls (omega (arith, children_fit g j h l))

  pub good_rising : (f : Forest) (j a : ℕ) → Good s r f j → Rising a (a + trees f * w j) (labels f w j a)
  unfolding labels
  good_rising nil j a h = omega arith
  good_rising (leaf x f) zero a h =
      (le_refl a, rising_lower (a + w 0) (suc a) _ (labels f w 0 (a + w 0)) (omega (arith, widths.first)) (rw next_end at (good_rising f zero (a + w 0) h)))
  good_rising (leaf x f) (suc j) a h = absurd h
  good_rising (node g f) zero a h = absurd h
  good_rising (node g f) (suc j) a h =
      rising_append a (a + w (suc j)) _ (labels g w j a) (labels f w (suc j) (a + w (suc j)))
      (node_end g j a h.2 h.1 (labels g w j a) (good_rising g j a h.2))
      (rw next_end at (good_rising f (suc j) (a + w (suc j)) h.3))

  -- those under a node of number a stay within its width
  pub node_rising : (g : Forest) (j a : ℕ) → Good s r g j → size g < s * r ^ suc j → Rising a (a + w (suc j)) (labels g w j a)
  node_rising g j a h l = node_end g j a h l (labels g w j a) (good_rising g j a h)

  pub label_from : (f : Forest) (j a : ℕ) → Good s r f j → (i : ℕ) → i < size f → a ≤ get_or (labels f w j a) i 0
  label_from f j a h i n = rising_from a _ (labels f w j a) (good_rising f j a h) i (omega (arith, length_labels f w j a))

  pub label_below : (f : Forest) (j a : ℕ) → Good s r f j → (i : ℕ) → i < size f → get_or (labels f w j a) i 0 < a + trees f * w j
  label_below f j a h i n = rising_below a _ (labels f w j a) (good_rising f j a h) i (omega (arith, length_labels f w j a))

  -- and a leaf more has room behind each
  pub label_room : (f : Forest) (j a : ℕ) → Good s r f j → (i : ℕ) → i < size f → get_or (labels f w j a) i 0 + w 0 ≤ a + trees f * w j
  unfolding labels leaves
  label_room nil j a h i n = absurd (omega arith)
  label_room (leaf x f) zero a h zero n = omega (arith, suc-mul (trees f) (w 0))
  label_room (leaf x f) zero a h (suc i) n = rw next_end at (label_room f zero (a + w 0) h i (omega arith))
  label_room (leaf x f) (suc j) a h i n = absurd h
  label_room (node g f) zero a h i n = absurd h
  label_room (node g f) (suc j) a h i n =
      let own = length_labels g w j a in
      by_test (ltb i (size g))
      (λ t.
      let inside = ltb-true i (size g) t in
      rw (get_or-append (labels g w j a) (labels f w (suc j) (a + w (suc j))) 0 i (omega arith))
      (omega (arith, label_room g j a h.2 i inside, children_fit g j h.2 h.1, suc-mul (trees f) (w (suc j)))))
      (λ t.
      let e : i ≡ length (labels g w j a) + (i - size g) = omega (arith, ltb-false i (size g) t) in
      rw (e, get_or-append-add (labels g w j a) (labels f w (suc j) (a + w (suc j))) _ 0)
      (rw next_end at (label_room f (suc j) (a + w (suc j)) h.3 (i - size g) (omega (arith, length-append (leaves g) (leaves f))))))

-- labels rise strictly below the width of H
pub labels_rise : LabelsRise
unfolding LabelsRise book_within root_within
labels_rise w k widths sane =
    let own = and_left (root_within k) (within_limits k.root k.s k.r k.under) sane.within in
    let good = good_of k.s k.r k.root k.under (and_right (root_within k) _ sane.within) in
    rises_of 0 (w (height k)) (labels_of w k) (
    rw zero-add at (node_rising sane.s_least sane.r_least widths k.root k.under 0 good
    (ltb-true (size k.root) (k.s * k.r ^ height k) (and_left _ _ own))))

-- labels shift with the number of the first tree
pub labels_shift : (f : Forest) (w : ℕ → ℕ) (j a d : ℕ) → labels f w j (a + d) ≡ map (λ l. l + d) (labels f w j a)
unfolding labels
labels_shift nil w j a d = refl
labels_shift (leaf x f) w j a d = rw (add_right_comm a d (w j), labels_shift f w j (a + w j) d)
labels_shift (node g f) w j a d =
    rw (add_right_comm a d (w j), labels_shift f w j (a + w j) d, labels_shift g w (pred j) a d, map-append)

-- the labels of joined forests
pub labels_joined : (f g : Forest) (w : ℕ → ℕ) (j a : ℕ) → labels (joined f g) w j a ≡ labels f w j a ++ labels g w j (a + trees f * w j)
unfolding labels joined
labels_joined nil g w j a = let e : a + 0 * w j ≡ a = omega arith in rw e
labels_joined (leaf x f) g w j a = rw (← next_end a (w j) (trees f), labels_joined f g w j (a + w j))
labels_joined (node h f) g w j a = rw (← next_end a (w j) (trees f), labels_joined f g w j (a + w j), append_assoc)

-- the powers of b are widths
pub power_widths : (s r : ℕ) → Widths s r (power_width s r)
unfolding power_width
power_widths s r = record { first = le_of_eq (sym (pow-zero (base s r))); grows = λ j. le_of_eq (sym (pow-succ' (base s r) j)) }
