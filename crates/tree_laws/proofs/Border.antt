-- The border of an insertion in labels: what stands before it is labelled below the end of the parent's width, what stands
-- behind it from there on, so that a loop along the row finds it. Assumes nothing.
use mathlib.Core.Path.{◌≡◌, refl, ap, sym, ◌∙◌}
use mathlib.Core.List.{List, [], ◌++◌, append_assoc, append-nil}
use Prim.Native.Nat.{ℕ, suc, ◌+◌, ◌≤◌, ◌<◌}
use native.Mathlib.Nat.{le_refl, zero-add}
use native.Mathlib.Omega.{arith}
use borrow.Author.Tests.{eqb-true, eqb-false}
use lib.Dec.{eqb}
use lib.ListN.{length, take, drop, get_or, length-append}
use lib.Seq.{take_at, drop_at}
use Rattle.lists.proofs.Tests.{by_test}
use Rattle.tree.specs.Forest.{nil, size, labels}
use Rattle.tree.specs.Book.{Book, height, labels_of}
use Rattle.tree.specs.Reach.{left_in, size_in}
use Rattle.tree.specs.Promise.{Widths, Sane}
use Rattle.tree_laws.proofs.Insertion.{rooted, empty_low}
use Rattle.tree_laws.proofs.Labels.{Rising, rising_higher, rising_append, node_rising, children_fit, length_labels, label_room}
use Rattle.tree_laws.proofs.Ancestors.{node_number, found, at_here, at_inside}
use Rattle.tree_laws.proofs.Root.{whole}

-- two lists cut alike are alike in both parts
same_front : (xs ys us vs : List ℕ) → xs ++ ys ≡ us ++ vs → length xs ≡ length us → xs ≡ us
same_front xs ys us vs e n = sym (take_at xs ys (length us) n) ∙ ap (take (length us)) e ∙ take_at us vs (length us) refl

same_back : (xs ys us vs : List ℕ) → xs ++ ys ≡ us ++ vs → length xs ≡ length us → ys ≡ vs
same_back xs ys us vs e n = sym (drop_at xs ys (length us) n) ∙ ap (drop (length us)) e ∙ drop_at us vs (length us) refl

-- labels that are cut at the border, those before it below c and those behind it from c on
abbrev pub Cut : (a c e : ℕ) (front back : List ℕ) → Type 0
Cut a c e front back = Rising a c front × Rising c e back

cut_alike : (a c e : ℕ) (xs ys us vs : List ℕ) → xs ++ ys ≡ us ++ vs → length xs ≡ length us → Cut a c e us vs → Cut a c e xs ys
cut_alike a c e xs ys us vs q n cut = rw (same_front xs ys us vs q n, same_back xs ys us vs q n) cut

-- A LEAF MORE has room behind each of a book's labels
pub label_within : {w : ℕ → ℕ} {k : Book} → Widths k.s k.r w → Sane k → (i : ℕ) → i < size k.root → get_or (labels_of w k) i 0 + w 0 ≤ w (height k)
label_within {w} {k} widths sane i inside =
    let own = rooted k sane in
    omega (
      arith,
      label_room sane.s_least sane.r_least widths k.root k.under 0 own.good i inside,
      children_fit sane.s_least sane.r_least widths k.root k.under own.good own.high,
    )

-- ANY CUT of a book's labels, by how many stand before it
module _ {w : ℕ → ℕ} (p : ℕ) {k : Book} (widths : Widths k.s k.r w) (sane : Sane k) (fits : p ≤ size k.root)
    (front back : List ℕ) (all : labels_of w k ≡ front ++ back) where
  -- where all do, the end of all
  cut_all : length front ≡ size k.root → Cut 0 (w (height k)) (w (height k)) front back
  cut_all n =
      let own = rooted k sane in
      let rises = node_rising sane.s_least sane.r_least widths k.root k.under 0 own.good own.high in
      cut_alike 0 (w (height k)) (w (height k)) front back (labels k.root w k.under 0) [] (sym all ∙ sym (append-nil _)) (n ∙ sym (length_labels k.root w k.under 0))
      (rw zero-add at rises, le_refl (w (height k)))

  -- where those do that stand left of and under a tree below the root, the end of that tree
  cut_ancestor : (h : ℕ) → h < k.under → length front ≡ left_in k.root k.under (suc h) p + size_in k.root k.under (suc h) p →
      Cut 0 (node_number k.root w k.under (suc h) p 0 + w (suc h)) (w (height k)) front back
  cut_ancestor h l n =
      let own = rooted k sane in
      let some : 1 ≤ size k.root = by_test (eqb (size k.root) 0) (λ t. absurd (omega (arith, empty_low k sane (eqb-true _ _ t)))) (λ t. let n = eqb-false (size k.root) 0 t in omega arith) in
      let c = found sane.s_least sane.r_least widths k.root k.under h p 0 own.good l fits some in
      let mine = labels c.under w h c.number in
      let end = c.number + w (suc h) in
      let rises = rising_append 0 c.number end c.before mine c.low (node_rising sane.s_least sane.r_least widths c.under h c.number c.good c.most) in
      let room = children_fit sane.s_least sane.r_least widths k.root k.under own.good own.high in
      rw c.number_is (cut_alike 0 end (w (height k)) front back (c.before ++ mine) c.after (sym all ∙ c.whole ∙ sym (append_assoc c.before mine c.after))
      (rw length-append (omega (arith, c.left_is, c.size_is, length_labels c.under w h c.number)))
      (rises, rising_higher end _ (w (height k)) c.after (omega arith) c.high))

  -- both at once, in the book as a forest of one tree
  pub cut_whole : (h : ℕ) → h < height k → length front ≡ left_in (whole k) (height k) (suc h) p + size_in (whole k) (height k) (suc h) p →
      Cut 0 (node_number (whole k) w (height k) (suc h) p 0 + w (suc h)) (w (height k)) front back
  cut_whole h low n =
      by_test (eqb h k.under)
      (λ t.
      let top = eqb-true h k.under t in
      let u = at_here k.root nil w (height k) (suc h) p 0 fits (ap suc (sym top)) in
      let bound : node_number (whole k) w (height k) (suc h) p 0 + w (suc h) ≡ w (height k) = rw (u.0, top) (omega arith) in
      rw bound (cut_all (omega (arith, u.1, u.2))))
      (λ t.
      let below : h < k.under = omega (arith, eqb-false h k.under t) in
      let u = at_inside k.root nil w (height k) (suc h) p 0 fits (λ e. omega arith) in
      rw u.0 (cut_ancestor h below (omega (arith, u.1, u.2))))
