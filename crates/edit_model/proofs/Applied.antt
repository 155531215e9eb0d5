-- A renumbering on the words of an image: they are those of the image with the new labels, and it says how many labels
-- are others. And labels by widths of another table. Assumes nothing.
use mathlib.Core.Path.{◌≡◌, refl, ap, ◌∙◌}
use mathlib.Core.List.{List, ◌++◌, map, append_assoc}
use Prim.Native.Nat.{ℕ, pred, ◌+◌, ◌-◌, ◌≤◌, ◌<◌}
use native.Mathlib.Omega.{arith}
use lib.ListN.{length, get_or, take, drop, length-append}
use lib.Seq.{take_at, drop_at, get_or-append-add}
use Rattle.store_types.specs.Limits.{no_tag, word_limit, most_tags}
use Rattle.powers.specs.Tables.{entry}
use Rattle.tree.specs.Forest.{Forest, nil, leaf, node, labels}
use Rattle.tree.specs.Grown.{path}
use Rattle.tree_laws.proofs.Ancestors.{getD_middle}
use Rattle.edit_model.specs.Image.{Image, image_words, with_labels}
use Rattle.edit_model.specs.Relabel.{relabel, shift}
use Rattle.edit_model.specs.Insert.{Plan, applied}
use Rattle.edit_model.proofs.Image.{Proper}
use Rattle.edit_model.proofs.Along.{unmarked_row, follow_at, along_at}
use Rattle.edit_model.proofs.Differ.{differ}
use Rattle.shape.proofs.Sums.{cut_all}
use Rattle.edit_model.proofs.Relabels.{relabel_words, relabel_proper, relabel_moved, Stretch, shift_words, shift_moved}
use Rattle.edit_model.proofs.Behind.{tag_before, behind_place}

-- LABELS BY HEIGHTS: widths of greater heights do not matter
pub labels_widths : (f : Forest) (w w' : ℕ → ℕ) (j a : ℕ) → ((h : ℕ) → h ≤ j → w h ≡ w' h) → labels f w j a ≡ labels f w' j a
unfolding labels
labels_widths nil w w' j a same = refl
labels_widths (leaf x f) w w' j a same = rw (same j (omega arith), labels_widths f w w' j (a + w' j) same)
labels_widths (node g f) w w' j a same =
    rw (same j (omega arith), labels_widths g w w' (pred j) a (λ h l. same h (omega arith)), labels_widths f w w' j (a + w' j) same)

-- WHERE A PLAN APPLIES: along the row stand labels that are kept, then those that are numbered anew, those that are
-- shifted, which are below the bound, and those behind it
pub record Applies (v : Image) (widths : List ℕ) (s r : ℕ) (q : Plan) (before old new beside after : List ℕ) : Type 0 where
  pub was : v.labels ≡ before ++ (old ++ (beside ++ after))
  pub left : q.left ≡ tag_before v (length before)
  pub count : q.count ≡ length old
  pub new_is : labels (path s r q.height q.cursor q.rest (take (length old) (drop (length before) v.tags))) (entry widths) q.height q.number ≡ new
  pub as_many : length new ≡ length old
  pub small : (i : ℕ) → i < length new → get_or new i 0 < word_limit
  pub low : (i : ℕ) → i < length beside → get_or beside i 0 < q.bound
  pub fit : (i : ℕ) → i < length beside → get_or beside i 0 + q.by < word_limit
  pub stop : 1 ≤ length after → q.bound ≤ get_or after 0 0

-- a list of three parts, the first two of m things together
module _ (xs ys zs : List ℕ) where
  two_front : (m : ℕ) → length xs + length ys ≡ m → take m (xs ++ (ys ++ zs)) ≡ xs ++ ys
  two_front m e = rw (← append_assoc xs ys zs) (take_at (xs ++ ys) zs m (length-append xs ys ∙ e))

  two_back : (m : ℕ) → length xs + length ys ≡ m → drop m (xs ++ (ys ++ zs)) ≡ zs
  two_back m e = rw (← append_assoc xs ys zs) (drop_at (xs ++ ys) zs m (length-append xs ys ∙ e))

module _ {v : Image} (h : Proper v) (few : length v.facts ≤ most_tags) (rest w : List ℕ) (s r : ℕ) (q : Plan)
    (before old new beside after : List ℕ) (a : Applies v w s r q before old new beside after) where
  -- how many labels there are
  all : length before + (length old + (length beside + length after)) ≡ length v.tags
  all = omega (arith, simp length-append at (ap length a.was), h.labelled)

  abbrev i : ℕ
  i = length before

  abbrev j : ℕ
  j = length before + length old

  abbrev ws : List ℕ
  ws = image_words v ++ rest

  abbrev relabelled : List ℕ
  relabelled = before ++ (new ++ (beside ++ after))

  -- the steps
  steps : applied ws w s r (length v.facts) q
      ≡ record {
        words = (shift (length v.facts) (length v.facts) (relabel (take (length old) (drop i v.tags)) new ws).words (get_or v.tags j no_tag) q.bound q.by).words;
        moved = (relabel (take (length old) (drop i v.tags)) new ws).moved
            + (shift (length v.facts) (length v.facts) (relabel (take (length old) (drop i v.tags)) new ws).words (get_or v.tags j no_tag) q.bound q.by).moved;
      }
  unfolding applied
  steps =
      rw (
        a.left,
        a.count,
        behind_place h few rest (length before) (omega (arith, all)),
        follow_at h rest (length old) (length before) (omega (arith, all)),
        along_at h rest (length old) (length before) (omega (arith, all)),
        a.new_is,
        cut_all new a.small,
      )

  -- first the new labels
  relabelled_words : (relabel (take (length old) (drop i v.tags)) new ws).words ≡ image_words (with_labels relabelled v) ++ rest
  relabelled_words =
      relabel_words h rest new i (length old) a.as_many (omega (arith, all))
      ∙ rw (a.was, take_at before _ i refl, two_back before old (beside ++ after) j refl)

  relabelled_proper : Proper (with_labels relabelled v)
  unfolding with_labels
  relabelled_proper =
      rw (a.was, take_at before _ i refl, two_back before old (beside ++ after) j refl)
      at (relabel_proper h rest new i (length old) a.as_many (omega (arith, all)))

  relabelled_moved : (relabel (take (length old) (drop i v.tags)) new ws).moved ≡ differ (take (length old) (drop i (unmarked_row v))) old new
  relabelled_moved =
      relabel_moved h rest new i (length old) a.as_many (omega (arith, all))
      ∙ rw (a.was, drop_at before _ i refl, take_at old _ (length old) refl)

  -- then the shift
  beside_at : (k : ℕ) → j ≤ k → k < j + length beside → get_or relabelled k 0 ≡ get_or beside (k - j) 0
  beside_at k l u =
      rw (← append_assoc before new (beside ++ after)) (getD_middle (before ++ new) beside after (k - j) k (rw length-append (omega (arith, a.as_many))) (omega arith))

  after_at : get_or relabelled (j + length beside) 0 ≡ get_or after 0 0
  after_at =
      let at : j + length beside ≡ length (before ++ new) + (length beside + 0) = rw length-append (omega (arith, a.as_many)) in
      rw (← append_assoc before new (beside ++ after), at, get_or-append-add (before ++ new) (beside ++ after), get_or-append-add beside after)

  stretch : Stretch relabelled j (j + length beside) q.bound q.by
  stretch =
      let many : length relabelled ≡ length before + (length new + (length beside + length after)) = simp length-append in
      record {
        order = omega arith;
        last = omega (arith, a.as_many);
        low = λ k l u. rw (beside_at k l u) (a.low (k - j) (omega arith));
        fit = λ k l u. rw (beside_at k l u) (a.fit (k - j) (omega arith));
        stop = λ l. rw after_at (a.stop (omega (arith, a.as_many)));
      }

  pub applied_words : (applied ws w s r (length v.facts) q).words ≡ image_words (with_labels (before ++ (new ++ (map (λ l. l + q.by) beside ++ after))) v) ++ rest
  unfolding with_labels
  applied_words =
      let front : length before + length new ≡ j = omega (arith, a.as_many) in
      let count : j + length beside - j ≡ length beside = omega arith in
      let all_fit : j + length beside - j ≤ length v.facts = omega (arith, all, h.as_many) in
      let behind : drop (j + length beside) relabelled ≡ after = rw (← append_assoc before new (beside ++ after)) (two_back (before ++ new) beside after (j + length beside) (rw length-append (omega arith))) in
      rw (steps, relabelled_words)
      (shift_words relabelled_proper rest (length v.facts) j (j + length beside) q.bound q.by few stretch all_fit
      ∙ rw (two_front before new (beside ++ after) j front, two_back before new (beside ++ after) j front, count, take_at beside after (length beside) refl, behind, append_assoc))

  pub applied_moved : (applied ws w s r (length v.facts) q).moved
      ≡ differ (take (length old) (drop i (unmarked_row v))) old new + differ (take (length beside) (drop j (unmarked_row v))) beside (map (λ l. l + q.by) beside)
  unfolding with_labels
  applied_moved =
      let front : length before + length new ≡ j = omega (arith, a.as_many) in
      let count : j + length beside - j ≡ length beside = omega arith in
      let all_fit : j + length beside - j ≤ length v.facts = omega (arith, all, h.as_many) in
      rw (steps, relabelled_words, relabelled_moved)
      (rw (shift_moved relabelled_proper rest (length v.facts) j (j + length beside) q.bound q.by few stretch all_fit, two_back before new (beside ++ after) j front, count, take_at beside after (length beside) refl))
