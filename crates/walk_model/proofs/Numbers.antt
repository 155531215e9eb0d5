-- The numbers of the ancestors of a place, found from one label and the widths from the top down. Assumes nothing.
use mathlib.Core.Path.{◌≡◌, refl, sym, ◌∙◌}
use mathlib.Core.List.{List}
use Prim.Native.Nat.{ℕ, zero, suc, ◌+◌, ◌*◌, ◌-◌, ◌/◌, ◌≤◌, ◌<◌}
use native.Mathlib.Omega.{arith}
use borrow.Author.Tests.{eqb-true, eqb-false}
use lib.Dec.{eqb}
use lib.ListN.{get_or, length, set, replicate, length-set}
use lib.Seq.{get_or-set_same, get_or-set_other}
use Rattle.lists.proofs.Tests.{by_test}
use Rattle.powers.specs.Tables.{entry, table_length}
use Rattle.tree.specs.Good.{Good}
use Rattle.tree.specs.Forest.{Forest, nil, size, labels}
use Rattle.tree.specs.Book.{Book, height, labels_of}
use Rattle.tree.specs.Promise.{Widths, Sane}
use Rattle.tree_laws.proofs.Spread.{some_power}
use Rattle.tree_laws.proofs.Insertion.{rooted}
use Rattle.tree_laws.proofs.Ancestors.{node_number, number_top, number_next, at_here, at_inside, found, number_by_quotient}
use Rattle.tree_laws.proofs.Root.{whole}
use Rattle.walk_model.specs.Watch.{ancestor_numbers}

zero_entry : (n i : ℕ) → entry (replicate n 0) i ≡ 0
zero_entry zero i = refl
zero_entry (suc n) zero = refl
zero_entry (suc n) (suc i) = zero_entry n i

-- what stands above the heights that are left is kept
entry_kept : (t : List ℕ) (h l a : ℕ) (ns : List ℕ) (i : ℕ) → h < i → entry (ancestor_numbers t h l a ns) i ≡ entry ns i
unfolding ancestor_numbers
entry_kept t zero l a ns i above = refl
entry_kept t (suc h) l a ns i above =
    let b = a + (l - a) / entry t (suc h) * entry t (suc h) in
    entry_kept t h l b (set ns (suc h) b) i (omega arith) ∙ get_or-set_other ns (suc h) i b 0 (omega arith)

-- above the trees of the forest every number is 0, the root's too
number_above : (t : List ℕ) (n u l i : ℕ) → u < i → entry (ancestor_numbers t u l 0 (replicate n 0)) i ≡ 0
number_above t n u l i above = entry_kept t u l 0 (replicate n 0) i above ∙ zero_entry n i

-- THE NUMBERS in a good forest, by the label before the place p (the first, where p is 0)
module _ {s r : ℕ} {w : ℕ → ℕ} (s_least : 2 ≤ s) (r_least : 2 ≤ r) (widths : Widths s r w)
    (t : List ℕ) (f : Forest) (u p : ℕ) (good : Good s r f u) (fits : p ≤ size f) (some : 1 ≤ size f)
    (wide : (h : ℕ) → h ≤ u → entry t h ≡ w h) where
  -- from a number that the next one down is a multiple of its width behind
  numbers_from : (h a : ℕ) (ns : List ℕ) → h ≤ u → u < length ns → (k : ℕ) × (node_number f w u h p 0 ≡ a + k * w h) →
      (i : ℕ) → 1 ≤ i → i ≤ h → entry (ancestor_numbers t h (get_or (labels f w u 0) (p - 1) 0) a ns) i ≡ node_number f w u i p 0
  unfolding ancestor_numbers
  numbers_from zero a ns low long k i least most = absurd (omega arith)
  numbers_from (suc h) a ns low long k i least most =
      let l = get_or (labels f w u 0) (p - 1) 0 in
      let b = a + (l - a) / entry t (suc h) * entry t (suc h) in
      let same : node_number f w u (suc h) p 0 ≡ b =
      rw (wide (suc h) (omega arith)) (number_by_quotient s_least r_least widths (found s_least r_least widths f u h p 0 good low fits some) a k) in
      let below = number_next f w u h p 0 low in
      by_test (eqb i (suc h))
      (λ e.
      rw (eqb-true i (suc h) e)
      (entry_kept t h l b (set ns (suc h) b) (suc h) (omega arith) ∙ get_or-set_same ns (suc h) b 0 (omega arith) ∙ sym same))
      (λ e.
      numbers_from h b (set ns (suc h) b) (omega arith) (rw length-set long) (below.0, omega (arith, below.1)) i least (omega (arith, eqb-false i (suc h) e)))

  pub numbers_below : suc u < table_length → (i : ℕ) → 1 ≤ i → i ≤ u →
      entry (ancestor_numbers t u (get_or (labels f w u 0) (p - 1) 0) 0 (replicate table_length 0)) i ≡ node_number f w u i p 0
  numbers_below small = numbers_from u 0 (replicate table_length 0) (omega arith) (omega arith) (number_top f w u p 0)

-- IN A BOOK, the root's too
pub numbers_whole : {w : ℕ → ℕ} (k : Book) → Widths k.s k.r w → Sane k → (t : List ℕ) (p : ℕ) → p ≤ size k.root → ((h : ℕ) → h ≤ k.under → entry t h ≡ w h) → height k < table_length →
    (i : ℕ) → 1 ≤ i → i ≤ height k → entry (ancestor_numbers t k.under (get_or (labels_of w k) (p - 1) 0) 0 (replicate table_length 0)) i ≡ node_number (whole k) w (height k) i p 0
numbers_whole {w} k widths sane t p fits wide small i least most =
    let own = rooted k sane in
    let l = get_or (labels_of w k) (p - 1) 0 in
    by_test (eqb i (height k))
    (λ e.
    let top = eqb-true i (height k) e in
    number_above t table_length k.under l i (omega arith) ∙ sym (at_here k.root nil w (height k) i p 0 fits (sym top)).0)
    (λ e.
    let other = eqb-false i (height k) e in
    let some : 1 ≤ size k.root = omega (arith, own.low (λ z. omega arith), some_power k.r k.under sane.r_least) in
    numbers_below sane.s_least sane.r_least widths t k.root k.under p own.good fits some wide small i least (omega arith)
    ∙ sym (at_inside k.root nil w (height k) i p 0 fits (λ z. other (sym z))).0)
