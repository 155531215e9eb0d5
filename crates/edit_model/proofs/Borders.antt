-- Walking left from a place along the row of a sound store, down to a label: it ends left of an ancestor of that place, with
-- as many steps as the place is behind it.
-- Assumes nothing.
use mathlib.Core.Path.{◌≡◌, ◌∙◌}
use mathlib.Core.Bool.{true, ◌||◌, or-true}
use mathlib.Core.List.{List, ◌++◌}
use Prim.Native.Nat.{ℕ, zero, suc, ◌+◌, ◌-◌, ◌≤◌, ◌<◌}
use native.Mathlib.Omega.{arith}
use borrow.Author.Tests.{lt-ltb, le-ltb, le-leb, lt-leb, eqb-true, eqb-false}
use lib.Dec.{leb, ltb, eqb}
use lib.ListN.{length, get_or, get_or-append}
use Rattle.store_types.specs.Limits.{no_tag}
use Rattle.lists.proofs.Tests.{by_test}
use Rattle.store_types.specs.Layout.{at_prior, field, label_at}
use Rattle.tree.specs.Good.{Good}
use Rattle.tree.specs.Forest.{Forest, size, labels}
use Rattle.tree.specs.Reach.{left_in}
use Rattle.tree.specs.Promise.{Widths}
use Rattle.tree_laws.proofs.Labels.{length_labels, rising_from, rising_below, node_rising}
use Rattle.tree_laws.proofs.Ancestors.{node_number, getD_middle, Found, found}
use Rattle.edit_model.specs.Image.{Image, image_words}
use Rattle.edit_model.specs.Split.{Border, left_border}
use Rattle.edit_model.proofs.Image.{Proper, tag_below}
use Rattle.edit_model.proofs.Along.{label_of_place, prior_at}
use Rattle.edit_model.proofs.Behind.{tag_before}

-- the end of a walk
abbrev pub ended : (tag steps : ℕ) → Border
ended x k = record { tag = x; steps = k }

-- the equations of the walk: it stops at no tag or at a lower label, and else goes on
module _ (k n : ℕ) (ws : List ℕ) (low x : ℕ) where
  left_stops : (leb n x || ltb (label_at ws x) low) ≡ true → left_border (suc k) n ws low x ≡ ended x 0
  unfolding left_border
  left_stops e = rw e

  left_goes : (y steps : ℕ) → left_border k n ws low (field ws x at_prior) ≡ ended y steps → x < n → low ≤ label_at ws x → left_border (suc k) n ws low x ≡ ended y (suc steps)
  unfolding left_border
  left_goes y steps e tag inside = rw (lt-leb n x tag, le-ltb (label_at ws x) low inside, e)

-- ALONG THE ROW OF AN IMAGE, from the place behind its first i tags down to the least place with labels of at least low
-- from there up to i
module _ {v : Image} (h : Proper v) (few : length v.facts ≤ no_tag) (rest : List ℕ) where
  pub left_along : (low k i to : ℕ) → i ≤ k → i ≤ length v.tags → to ≤ i → ((q : ℕ) → to ≤ q → q < i → low ≤ get_or v.labels q 0) →
      ((q : ℕ) → to ≡ suc q → get_or v.labels q 0 < low) → left_border k (length v.facts) (image_words v ++ rest) low (tag_before v i) ≡ ended (tag_before v to) (i - to)
  unfolding left_border
  left_along low zero i to steps fits order inside outside = let e : i ≡ to = omega arith in let none : to - to ≡ 0 = omega arith in rw (e, none)
  left_along low (suc k) zero to steps fits order inside outside =
      let e : to ≡ 0 = omega arith in
      left_stops k (length v.facts) (image_words v ++ rest) low no_tag (rw (le-leb (length v.facts) no_tag few)) ∙ rw e
  left_along low (suc k) (suc i) to steps fits order inside outside =
      let n = length v.facts in
      let ws = image_words v ++ rest in
      let x = get_or v.tags i no_tag in
      let label = label_of_place h rest i no_tag fits in
      by_test (eqb to (suc i))
      (λ t.
      let e = eqb-true to (suc i) t in
      left_stops k n ws low x (rw (label, lt-ltb (get_or v.labels i 0) low (outside i e)) (or-true (leb n x))) ∙ (let none : suc i - suc i ≡ 0 = omega arith in rw (e, none)))
      (λ t.
      let further : to ≤ i = omega (arith, eqb-false to (suc i) t) in
      let one : suc i - to ≡ suc (i - to) = omega arith in
      rw one (left_goes k n ws low x (tag_before v to) (i - to)
      (rw (prior_at h rest i no_tag fits) (left_along low k i to (omega arith) (omega arith) further (λ q l b. inside q l (omega arith)) outside))
      (tag_below h i no_tag fits) (rw label (inside i further (omega arith)))))

  -- to the front, where no label is too low
  pub left_front : (i : ℕ) → i ≤ length v.facts → i ≤ length v.tags → left_border (length v.facts) (length v.facts) (image_words v ++ rest) 0 (tag_before v i) ≡ ended no_tag i
  left_front i steps fits =
      left_along 0 (length v.facts) i 0 steps fits (omega arith) (λ q l u. omega arith) (λ q e. absurd (omega arith)) ∙ (let all : i - 0 ≡ i = omega arith in rw all)

module _ {s r : ℕ} {w : ℕ → ℕ} (s_least : 2 ≤ s) (r_least : 2 ≤ r) (widths : Widths s r w) where
  -- the labels left of an ancestor and under it, by its number
  module _ {f : Forest} {j h p a : ℕ} (d : Found s r w f j h p a) where
    label_left : (q : ℕ) → q < left_in f j (suc h) p → get_or (labels f w j a) q 0 < node_number f w j (suc h) p a
    label_left q l =
        let short : q < length d.before = omega (arith, d.left_is) in
        rw (d.whole, d.number_is, get_or-append d.before (labels d.under w h d.number ++ d.after) 0 q short) (rising_below a d.number d.before d.low q short)

    label_under : (q : ℕ) → left_in f j (suc h) p ≤ q → q < p → node_number f w j (suc h) p a ≤ get_or (labels f w j a) q 0
    label_under q l u =
        let n = d.number in
        let mine = labels d.under w h n in
        let i = q - length d.before in
        let short : i < length mine = omega (arith, length_labels d.under w h n, d.left_is, d.to) in
        rw (d.whole, d.number_is, getD_middle d.before mine d.after i q (omega (arith, d.left_is)) short)
        (rising_from n (n + w (suc h)) mine (node_rising s_least r_least widths d.under h n d.good d.most) i short)

  -- TO THE TAG LEFT OF AN ANCESTOR, down to its number
  pub left_ancestor : {v : Image} → Proper v → length v.facts ≤ no_tag → (rest : List ℕ) (f : Forest) (u p h : ℕ) → Good s r f u → p ≤ size f → 1 ≤ size f →
      length v.tags ≡ size f → v.labels ≡ labels f w u 0 → 1 ≤ h → h ≤ u →
      left_border (length v.facts) (length v.facts) (image_words v ++ rest) (node_number f w u h p 0) (tag_before v p) ≡ ended (tag_before v (left_in f u h p)) (p - left_in f u h p)
  left_ancestor proper few rest f u p zero good fits some many labels_are least most = absurd (omega arith)
  left_ancestor {v} proper few rest f u p (suc h) good fits some many labels_are least most =
      let d = found s_least r_least widths f u h p 0 good most fits some in
      left_along proper few rest (node_number f w u (suc h) p 0) (length v.facts) p (left_in f u (suc h) p)
      (omega (arith, proper.as_many)) (omega arith) (omega (arith, d.left_is, d.from))
      (λ q l b. rw labels_are (label_under d q l b)) (λ q e. rw labels_are (label_left d q (omega arith)))
