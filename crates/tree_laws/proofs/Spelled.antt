-- A good forest is the one that its tags and labels spell, and so is determined by them.
-- Assumes nothing.
use mathlib.Core.Path.{◌≡◌, refl, ap, ap₂, sym, ◌∙◌}
use mathlib.Core.List.{List, [], ◌∷◌, ◌++◌}
use Prim.Native.Nat.{ℕ, zero, suc, ◌+◌, ◌≤◌}
use native.Mathlib.Nat.{one-le-pow, le_refl}
use native.Mathlib.Omega.{arith}
use borrow.Author.Tests.{lt-ltb, le-ltb}
use lib.ListN.{length, length-append}
use lib.Seq.{take_at, drop_at, take-append_seam, drop-append_seam}
use Rattle.tree.specs.Good.{Good}
use Rattle.tree.specs.Forest.{Forest, nil, leaf, node, leaves, size, labels}
use Rattle.tree.specs.Spelling.{front_below, spelled_nodes, spelled}
use Rattle.tree.specs.Promise.{Widths}
use Rattle.tree_laws.proofs.Spread.{leaf_row_of}
use Rattle.tree_laws.proofs.Labels.{Rising, rising_order, good_rising, node_rising, length_labels}

-- the numbers below a bound that stand before numbers from that bound on
front_below_none : (b c : ℕ) (ls : List ℕ) → Rising b c ls → front_below b ls ≡ 0
unfolding front_below
front_below_none b c [] h = refl
front_below_none b c (l ∷ ls) h = rw (le-ltb l b h.0)

front_below_first : (a b c : ℕ) (xs ys : List ℕ) → Rising a b xs → Rising b c ys → front_below b (xs ++ ys) ≡ length xs
unfolding front_below
front_below_first a b c [] ys h q = front_below_none b c ys q
front_below_first a b c (x ∷ xs) ys h q =
    rw (lt-ltb x b (rising_order (suc x) b xs h.1)) (ap suc (front_below_first (suc x) b c xs ys h.1 q))

-- one step of reading nodes: the first is over the tags xs where just their labels ls lie below its end
spelled_step : (k w : ℕ) (under : ℕ → List ℕ → List ℕ → Forest) (a : ℕ) (xs ys ls ms : List ℕ) → 1 ≤ length xs → length ls ≡ length xs →
    front_below (a + w) (ls ++ ms) ≡ length ls →
    spelled_nodes (suc k) w under a (xs ++ ys) (ls ++ ms) ≡ node (under a xs ls) (spelled_nodes k w under (a + w) ys ms)
unfolding spelled_nodes
spelled_step k w g a [] ys ls ms h n e = absurd (omega arith)
spelled_step k w g a (x ∷ xs) ys ls ms h n e =
    rw (e, take_at (x ∷ xs) ys (length ls) (sym n), drop_at (x ∷ xs) ys (length ls) (sym n), take-append_seam ls ms, drop-append_seam ls ms)

module _ {s r : ℕ} {w : ℕ → ℕ} (s_least : 2 ≤ s) (r_least : 2 ≤ r) (widths : Widths s r w) where
  nodes_good : (j : ℕ) → ((g : Forest) (b : ℕ) → Good s r g j → spelled j w b (leaves g) (labels g w j b) ≡ g) →
      (most : ℕ) (f : Forest) (a : ℕ) → Good s r f (suc j) → size f ≤ most →
      spelled_nodes most (w (suc j)) (λ b ys ms. spelled j w b ys ms) a (leaves f) (labels f w (suc j) a) ≡ f
  unfolding leaves labels spelled_nodes
  nodes_good j below zero nil a h m = refl
  nodes_good j below (suc k) nil a h m = refl
  nodes_good j below zero (leaf x f) a h m = absurd h
  nodes_good j below (suc k) (leaf x f) a h m = absurd h
  nodes_good j below zero (node g f) a h m =
      absurd (omega (arith, length-append (leaves g) (leaves f), h.0, one-le-pow (suc j) r (omega arith)))
  nodes_good j below (suc k) (node g f) a h m =
      let many : 1 ≤ size g = omega (arith, h.0, one-le-pow (suc j) r (omega arith)) in
      let fewer : size f ≤ k = omega (arith, length-append (leaves g) (leaves f)) in
      let first =
      front_below_first a (a + w (suc j)) _ (labels g w j a) (labels f w (suc j) (a + w (suc j)))
      (node_rising s_least r_least widths g j a h.2 h.1) (good_rising s_least r_least widths f (suc j) (a + w (suc j)) h.3) in
      spelled_step k (w (suc j)) (λ b ys ms. spelled j w b ys ms) a (leaves g) (leaves f) (labels g w j a) (labels f w (suc j) (a + w (suc j)))
      many (length_labels g w j a) first
      ∙ ap₂ node (below g a h.2) (nodes_good j below k f (a + w (suc j)) h.3 fewer)

  -- a good forest is the one that its tags and labels spell
  pub spelled_good : (j : ℕ) (f : Forest) (a : ℕ) → Good s r f j → spelled j w a (leaves f) (labels f w j a) ≡ f
  unfolding spelled
  spelled_good zero f a h = leaf_row_of s r f h
  spelled_good (suc j) f a h = nodes_good j (λ g b k. spelled_good j g b k) (size f) f a h (le_refl (size f))

  -- so two good forests of one height with the same tags and labels are equal
  pub same_labels : (j : ℕ) (f g : Forest) (a : ℕ) → Good s r f j → Good s r g j →
      leaves f ≡ leaves g → labels f w j a ≡ labels g w j a → f ≡ g
  same_labels j f g a h k e d = sym (spelled_good j f a h) ∙ rw (e, d) (spelled_good j g a k)
