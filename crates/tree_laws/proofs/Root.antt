-- A book as a forest of one tree: an insertion into the book is one into that forest, and so has its flat view.
-- Assumes nothing.
use mathlib.Core.Path.{◌≡◌, ap, sym, ◌∙◌}
use mathlib.Core.List.{append-nil}
use Prim.Native.Nat.{ℕ, suc, ◌+◌, ◌≤◌, ◌<◌}
use native.Mathlib.Omega.{arith}
use borrow.Author.Tests.{lt-ltb, ltb-true, ltb-false}
use lib.Dec.{ltb}
use lib.ListN.{length, length-append}
use Rattle.lists.proofs.Tests.{by_test}
use Rattle.tree.specs.Forest.{Forest, nil, node, size, labels, put, split_height}
use Rattle.tree.specs.Book.{Book, height, labels_of, root_full, root_split, put_inside, inserted, split_of}
use Rattle.tree.specs.Reach.{left_in, size_in, left_of, size_of, border}
use Rattle.tree.specs.Promise.{Sane}
use Rattle.tree_laws.proofs.Insertion.{put_split, put_below, height_split, height_below, inserted_split, inserted_inside, split_of_split, split_of_inside, root_at_limit, root_below_limit, rooted, empty_low}
use Rattle.tree_laws.proofs.Labels.{length_labels, labels_joined}
use Rattle.tree_laws.proofs.Ancestors.{at_here, at_inside}
use Rattle.tree_laws.proofs.Flat.{Flat, flat, flat_split, flat_below}

-- the tree
abbrev pub whole : Book → Forest
whole k = node k.root nil

pub labels_whole : (w : ℕ → ℕ) (k : Book) → labels_of w k ≡ labels (whole k) w (height k) 0
unfolding labels
labels_whole w k = rw append-nil

module _ (p : ℕ) (k : Book) (fits : p ≤ size k.root) where
  -- an insertion into it
  pub labels_put_whole : (w : ℕ → ℕ) (x : ℕ) → labels_of w (inserted p x k) ≡ labels (put (whole k) k.s k.r (height k) p x) w (height k) 0
  unfolding labels root_split put_inside
  labels_put_whole w x =
      by_test (root_full k)
      (λ t. rw (inserted_split p k x t, put_split k.root nil k.s k.r (height k) p x fits (root_at_limit k t), labels_joined _ nil w (height k) 0, append-nil))
      (λ t. rw (inserted_inside p k x t, put_below k.root nil k.s k.r (height k) p x fits (root_below_limit k t), append-nil))

  pub split_of_whole : split_of p k ≡ split_height (whole k) k.s k.r (height k) p
  split_of_whole =
      by_test (root_full k)
      (λ t. split_of_split p k t ∙ sym (height_split k.root nil k.s k.r (height k) p fits (root_at_limit k t)))
      (λ t. split_of_inside p k t ∙ sym (height_below k.root nil k.s k.r (height k) p fits (root_below_limit k t)))

  pub flat_whole : (w : ℕ → ℕ) (x : ℕ) → Sane k → Flat k.s k.r w (whole k) (height k) p x 0
  flat_whole w x sane =
      let own = rooted k sane in
      by_test (root_full k)
      (λ t. flat_split k.s k.r w k.root nil k.under p x 0 sane.s_least sane.r_least own.good fits (root_at_limit k t))
      (λ t. flat_below k.s k.r w k.root nil k.under p x 0 fits own.high (root_below_limit k t)
      (flat w sane.s_least sane.r_least k.root k.under p x 0 own.good fits (empty_low k sane)))

  -- its ancestors of a place
  pub left_whole : (h : ℕ) → h ≤ height k → left_of h p k ≡ left_in (whole k) (height k) h p
  unfolding left_of
  left_whole h l =
      by_test (ltb k.under h)
      (λ t. rw t (sym (at_here k.root nil (λ i. 0) (height k) h p 0 fits (omega (arith, ltb-true k.under h t))).1))
      (λ t. rw t (sym (at_inside k.root nil (λ i. 0) (height k) h p 0 fits (omega (arith, ltb-false k.under h t))).1))

  pub size_whole : (h : ℕ) → h ≤ height k → size_of h p k ≡ size_in (whole k) (height k) h p
  unfolding size_of
  size_whole h l =
      by_test (ltb k.under h)
      (λ t. rw t (sym (at_here k.root nil (λ i. 0) (height k) h p 0 fits (omega (arith, ltb-true k.under h t))).2))
      (λ t. rw t (sym (at_inside k.root nil (λ i. 0) (height k) h p 0 fits (omega (arith, ltb-false k.under h t))).2))

  -- the border
  pub border_whole : split_of p k < height k → border p k ≡ left_in (whole k) (height k) (suc (split_of p k)) p + size_in (whole k) (height k) (suc (split_of p k)) p
  unfolding border
  border_whole l = omega (arith, left_whole (suc (split_of p k)) l, size_whole (suc (split_of p k)) l)

pub border_root : (p : ℕ) (k : Book) → split_of p k ≡ height k → border p k ≡ size k.root
unfolding border left_of size_of
border_root p k e = rw (e, lt-ltb k.under (suc (height k)) (omega arith)) (omega arith)

-- the piece that an insertion numbers anew begins where the split node does, and what it shifts ends at the border
module _ {w : ℕ → ℕ} {p x : ℕ} {k : Book} (fits : p ≤ size k.root) (d : Flat k.s k.r w (whole k) (height k) p x 0) where
  pub split_flat : split_of p k ≡ d.height
  split_flat = split_of_whole p k fits ∙ d.height_is

  pub left_flat : left_of (split_of p k) p k ≡ length d.before
  left_flat = rw split_flat (left_whole p k fits d.height d.most ∙ d.left_is)

  pub border_flat : border p k ≡ length d.before + (length d.old + length d.beside)
  border_flat =
      let e = split_flat in
      by_test (ltb d.height (height k))
      (λ t.
      let l = ltb-true d.height (height k) t in
      rw e at (border_whole p k fits (rw e l)) ∙ (d.parent l).border_is)
      (λ t.
      let top : d.height ≡ height k = omega (arith, d.most, ltb-false d.height (height k) t) in
      let all = simp (length-append, d.outer top, append-nil) at (ap length (labels_whole w k ∙ d.was)) in
      omega (arith, border_root p k (e ∙ top), all, length_labels k.root w k.under 0))
