-- Complete trees are the thinnest layout: no good forest of their height labels as many leaves lower. Assumes nothing.
use mathlib.Core.Path.{◌≡◌, refl, ap, ◌∙◌}
use mathlib.Core.Bool.{Bool, true, false}
use mathlib.Core.List.{◌++◌}
use Prim.Native.Nat.{ℕ, zero, suc, ◌+◌, ◌*◌, ◌-◌, ◌^◌, ◌≤◌, ◌<◌}
use native.Mathlib.Nat.{zero-add, suc-add}
use native.Mathlib.Omega.{arith}
use borrow.Author.Tests.{ltb-true, ltb-false}
use lib.Dec.{ltb}
use lib.ListN.{length, get_or, get_or-append}
use lib.Seq.{get_or-append-add}
use Rattle.tree.specs.Good.{Good, Complete}
use Rattle.tree.specs.Forest.{Forest, nil, leaf, node, leaves, size, labels}
use Rattle.tree.specs.Promise.{Widths}
use Rattle.tree_laws.proofs.Spread.{complete_good}
use Rattle.tree_laws.proofs.Insertion.{size_node}
use Rattle.tree_laws.proofs.Labels.{length_labels, children_fit, label_from, label_below}

-- the labels of a node and its right siblings: those under the node, then the others
module _ (g f : Forest) (w : ℕ → ℕ) (j a : ℕ) where
  pub label_inside : (q : ℕ) → q < size g → get_or (labels (node g f) w (suc j) a) q 0 ≡ get_or (labels g w j a) q 0
  unfolding labels
  label_inside q h = get_or-append (labels g w j a) (labels f w (suc j) (a + w (suc j))) 0 q (omega (arith, length_labels g w j a))

  pub label_beyond : (q : ℕ) → size g ≤ q → get_or (labels (node g f) w (suc j) a) q 0 ≡ get_or (labels f w (suc j) (a + w (suc j))) (q - size g) 0
  unfolding labels
  label_beyond q h =
      let e : q ≡ length (labels g w j a) + (q - size g) = omega (arith, length_labels g w j a) in
      ap (λ (i : ℕ). get_or (labels g w j a ++ labels f w (suc j) (a + w (suc j))) i 0) e
      ∙ get_or-append-add (labels g w j a) (labels f w (suc j) (a + w (suc j))) (q - size g) 0

-- a label of one forest is at most that of another which as many or more leaves stand before
abbrev pub Thinner : (w : ℕ → ℕ) (f c : Forest) (j : ℕ) → Type 0
Thinner w f c j =
    (q d a b : ℕ) → q < size f → q + d < size c → a ≤ b → get_or (labels f w j a) q 0 ≤ get_or (labels c w j b) (q + d) 0

module _ {s r : ℕ} {w : ℕ → ℕ} (s_least : 2 ≤ s) (r_least : 2 ≤ r) (widths : Widths s r w) where
  -- what stands behind a complete tree is labelled above what is under a good one of its height
  label_across : (g c : Forest) (j : ℕ) → Good s r g j → size g < s * r ^ suc j → Complete r c (suc j) → (q i a b : ℕ) → q < size g → i < size c → a ≤ b →
      get_or (labels g w j a) q 0 ≤ get_or (labels c w (suc j) (b + w (suc j))) i 0
  label_across g c j good limit complete q i a b l m n =
      omega (
        arith,
        label_below s_least r_least widths g j a good q l,
        children_fit s_least r_least widths g j good limit,
        label_from s_least r_least widths c (suc j) (b + w (suc j)) (complete_good s r c (suc j) s_least r_least complete) i m,
      )

  -- at a node of each: if so under them, and right of them
  thinner_node : (g f h c : Forest) (j : ℕ) → Good s r (node g f) (suc j) → Complete r (node h c) (suc j) → Thinner w g h j → Thinner w f c (suc j) →
      Thinner w (node g f) (node h c) (suc j)
  thinner_node g f h c j good complete inside onward q d a b l m n = go (ltb q (size g)) (ltb (q + d) (size h)) refl refl
    where
      sizes : (size (node g f) ≡ size g + size f) × (size (node h c) ≡ size h + size c)
      sizes = (size_node g f, size_node h c)

      go : (t u : Bool) → ltb q (size g) ≡ t → ltb (q + d) (size h) ≡ u →
          get_or (labels (node g f) w (suc j) a) q 0 ≤ get_or (labels (node h c) w (suc j) b) (q + d) 0
      go true true e v =
          let under = ltb-true q (size g) e in
          let under' = ltb-true (q + d) (size h) v in
          rw (label_inside g f w j a q under, label_inside h c w j b (q + d) under') (inside q d a b under under' n)
      go true false e v =
          let under = ltb-true q (size g) e in
          let past = ltb-false (q + d) (size h) v in
          rw (label_inside g f w j a q under, label_beyond h c w j b (q + d) past) (label_across g c j good.2 good.1 complete.2 q (q + d - size h) a b under (omega (arith, sizes)) n)
      go false u e v =
          let past = ltb-false q (size g) e in
          let d' = d + size g - size h in
          let k : q + d - size h ≡ (q - size g) + d' = omega arith in
          rw (label_beyond g f w j a q past, label_beyond h c w j b (q + d) (omega arith), k) (onward (q - size g) d' (a + w (suc j)) (b + w (suc j)) (omega (arith, sizes)) (omega (arith, sizes)) (omega arith))

  -- a good forest's labels are at most those of complete trees, leaf for leaf and further on
  pub thinnest : (f c : Forest) (j : ℕ) → Good s r f j → Complete r c j → Thinner w f c j
  unfolding leaves labels
  thinnest nil c j good complete q d a b l m n = absurd (omega arith)
  thinnest (leaf x f) nil zero good complete q d a b l m n = absurd (omega arith)
  thinnest (leaf x f) (leaf y c) zero good complete zero zero a b l m n = n
  thinnest (leaf x f) (leaf y c) zero good complete zero (suc d) a b l m n =
      rw zero-add omega (arith, label_from s_least r_least widths c 0 (b + w 0) (complete_good s r c 0 s_least r_least complete) d (omega arith))
  thinnest (leaf x f) (leaf y c) zero good complete (suc q) d a b l m n =
      rw suc-add (thinnest f c zero good complete q d (a + w 0) (b + w 0) (omega arith) (omega arith) (omega arith))
  thinnest (leaf x f) (node h c) zero good complete q d a b l m n = absurd complete
  thinnest (leaf x f) c (suc j) good complete q d a b l m n = absurd good
  thinnest (node g f) c zero good complete q d a b l m n = absurd good
  thinnest (node g f) nil (suc j) good complete q d a b l m n = absurd (omega arith)
  thinnest (node g f) (leaf y c) (suc j) good complete q d a b l m n = absurd complete
  thinnest (node g f) (node h c) (suc j) good complete q d a b l m n =
      thinner_node g f h c j good complete (thinnest g h j good.2 complete.1) (thinnest f c (suc j) good.3 complete.2) q d a b l m n
