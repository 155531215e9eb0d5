-- Labels never fall in one insertion: what becomes of the label at each place of a forest, and of a book. Assumes nothing.
use mathlib.Core.Path.{◌≡◌, refl, ap, sym, ◌∙◌}
use mathlib.Core.Bool.{true}
use mathlib.Core.List.{List, [], ◌∷◌, ◌++◌, map, append-nil}
use Prim.Native.Nat.{ℕ, zero, suc, ◌+◌, ◌*◌, ◌-◌, ◌^◌, ◌≤◌, ◌<◌}
use native.Mathlib.Nat.{add-zero, one-le-mul, le_of_eq}
use native.Mathlib.Omega.{arith}
use borrow.Author.Tests.{ltb-true, ltb-false}
use lib.Dec.{ltb}
use lib.ListN.{length, get_or, length-map, get_or-append}
use lib.Seq.{get_or-append-add}
use Rattle.lists.proofs.Tests.{by_test}
use Rattle.tree.specs.Good.{Good, Complete}
use Rattle.tree.specs.Row.{member, place, insert_at}
use Rattle.tree.specs.Forest.{Forest, nil, node, leaves, size, labels, spread, put}
use Rattle.tree.specs.Book.{Book, height, tags, label_of, inserted, split_of}
use Rattle.tree.specs.Reach.{left_of, border}
use Rattle.tree.specs.Promise.{Widths, Step, NeverFalls}
use Rattle.tree_laws.proofs.Rows.{member_nil, member_other, differs, place_before, place_behind}
use Rattle.tree_laws.proofs.Spread.{leaves_spread, complete_spread, complete_good, far_from_limit}
use Rattle.tree_laws.proofs.Insertion.{split_length, tags_inserted}
use Rattle.tree_laws.proofs.Labels.{length_labels, width_least, good_rising, rising_index}
use Rattle.tree_laws.proofs.Ancestors.{getD_middle}
use Rattle.tree_laws.proofs.Thinnest.{label_inside, thinnest}
use Rattle.tree_laws.proofs.Flat.{Parted, Piece, Flat}
use Rattle.tree_laws.proofs.Root.{whole, labels_whole, labels_put_whole, flat_whole, left_flat, border_flat}

-- what stands behind the first of two lists joined, and the first two of three, and in a shifted list
getD_second : (xs ys : List ℕ) (i k : ℕ) → k ≡ length xs + i → get_or (xs ++ ys) k 0 ≡ get_or ys i 0
getD_second xs ys i k e = rw e (get_or-append-add xs ys i 0)

getD_third : (xs ys zs : List ℕ) (i k : ℕ) → k ≡ length xs + (length ys + i) → get_or (xs ++ (ys ++ zs)) k 0 ≡ get_or zs i 0
getD_third xs ys zs i k e = getD_second xs (ys ++ zs) (length ys + i) k e ∙ get_or-append-add ys zs i 0

getD_shift : (d : ℕ) (ls : List ℕ) (i : ℕ) → i < length ls → get_or (map (λ l. l + d) ls) i 0 ≡ get_or ls i 0 + d
getD_shift d [] i h = absurd (omega arith)
getD_shift d (l ∷ ls) zero h = refl
getD_shift d (l ∷ ls) (suc i) h = getD_shift d ls i (omega arith)

-- Numbers and those that take their place, one more of them: none is lower, and each is below the next in place; what is
-- shifted rises
record Upward (offset : ℕ) (old new : List ℕ) (shift : ℕ) : Type 0 where
  longer : length new ≡ suc (length old)
  offset_fits : offset ≤ length old
  rise : (i : ℕ) → i < length old → get_or old i 0 ≤ get_or new i 0
  climb : (i : ℕ) → i < length old → get_or old i 0 < get_or new (suc i) 0
  shifts : 1 ≤ shift

module _ {s r : ℕ} {w : ℕ → ℕ} (s_least : 2 ≤ s) (r_least : 2 ≤ r) (widths : Widths s r w) where
  -- A SPLIT is over one leaf more than before, and numbers none of them lower: complete trees are the thinnest layout
  module _ {x h q n d : ℕ} {old new : List ℕ} (c : Parted s r w x h q n old new d) where
    abbrev over : Forest
    over = spread (suc h) r (insert_at q (x ∷ []) (leaves c.under))

    length_row : length (insert_at q (x ∷ []) (leaves c.under)) ≡ s * r ^ suc h
    length_row = split_length q x c.under ∙ c.limit

    size_over : size over ≡ suc (size c.under)
    size_over =
        ap length (leaves_spread (suc h) r _ r_least (omega (arith, length_row, far_from_limit s r h s_least r_least))) ∙ split_length q x c.under

    complete : Complete r over (suc h)
    complete = complete_spread (suc h) r s _ r_least length_row

    lone : Good s r (node c.under nil) (suc h)
    lone = (omega (arith, c.limit, far_from_limit s r h s_least r_least), omega (arith, c.limit), c.good, tt)

    parted_length : length new ≡ suc (length old)
    parted_length = rw (c.new_is, c.old_is, length_labels over w (suc h) n, length_labels c.under w h n) size_over

    inside : (i : ℕ) → i < length old → i < size c.under
    inside i l = omega (arith, rw c.old_is at l, length_labels c.under w h n)

    parted_rise : (i : ℕ) → i < length old → get_or old i 0 ≤ get_or new i 0
    unfolding leaves
    parted_rise i l =
        let l' = inside i l in
        let same = label_inside c.under nil w h n i l' in
        let thin = thinnest s_least r_least widths (node c.under nil) over (suc h) lone complete i 0 n n (rw append-nil l') (rw add-zero (omega (arith, size_over))) (omega arith) in
        rw (c.new_is, c.old_is) (rw (same, add-zero) at thin)

    parted_climb : (i : ℕ) → i < length old → get_or old i 0 < get_or new (suc i) 0
    parted_climb i l =
        let l' = inside i l in
        let rises = good_rising s_least r_least widths over (suc h) n (complete_good s r over (suc h) s_least r_least complete) in
        let next = rising_index n _ (labels over w (suc h) n) rises i (suc i) (omega arith) (omega (arith, size_over, length_labels over w (suc h) n)) in
        let low = rw c.new_is at (parted_rise i l) in
        rw c.new_is (omega arith)

  -- so with every piece that an insertion numbers anew
  upward : (x h q n : ℕ) (old new : List ℕ) (d : ℕ) → Piece s r w x h q n old new d → Upward q old new d
  upward x zero q n old new d c =
      let none = ap length c.1 in
      record {
        longer = rw (c.1, c.2);
        offset_fits = omega (arith, c.0);
        rise = λ i l. absurd (omega arith);
        climb = λ i l. absurd (omega arith);
        shifts = omega (arith, c.3, widths.first);
      }
  upward x (suc h) q n old new d c = record {
    longer = parted_length c;
    offset_fits = rw c.old_is (omega (arith, c.fits, length_labels c.under w h n));
    rise = parted_rise c;
    climb = parted_climb c;
    shifts = omega (arith, c.shift_is, one-le-mul {a = s - 1} (omega arith) (width_least s_least r_least widths (suc h)));
  }

  -- WHAT BECOMES OF THE LABEL at place q, which is place q or q + 1 afterwards: before the piece it stays
  module _ {f : Forest} {j p x a : ℕ} (d : Flat s r w f j p x a) where
    up : Upward d.offset d.old d.new d.shift
    up = upward x d.height d.offset d.number d.old d.new d.shift d.piece

    pub stays_before : (q : ℕ) → q < length d.before → get_or (labels f w j a) q 0 ≡ get_or (labels (put f s r j p x) w j a) q 0
    stays_before q l = rw (d.was, d.now) (get_or-append d.before _ 0 q l ∙ sym (get_or-append d.before _ 0 q l))

    -- in the piece, left of the new tag, it does not fall
    pub rises_left : (q : ℕ) → length d.before ≤ q → q < p → get_or (labels f w j a) q 0 ≤ get_or (labels (put f s r j p x) w j a) q 0
    rises_left q from to =
        let i = q - length d.before in
        let l : i < length d.old = omega (arith, d.place_is, up.offset_fits) in
        rw (d.was, d.now, getD_middle d.before d.old _ i q (omega arith) l, getD_middle d.before d.new _ i q (omega arith) (omega (arith, up.longer))) (up.rise i l)

    -- right of the new tag, up to the border, it rises
    pub climbs_right : (q : ℕ) → p ≤ q → q < length d.before + (length d.old + length d.beside) →
        get_or (labels f w j a) q 0 < get_or (labels (put f s r j p x) w j a) (suc q) 0
    climbs_right q from to =
        let i = q - length d.before in
        let k = i - length d.old in
        rw (d.was, d.now) (by_test (ltb i (length d.old))
        (λ t.
        let l = ltb-true i (length d.old) t in
        rw (getD_middle d.before d.old _ i q (omega (arith, d.place_is)) l, getD_middle d.before d.new _ (suc i) (suc q) (omega (arith, d.place_is)) (omega (arith, up.longer))) (up.climb i l))
        (λ t.
        let l = ltb-false i (length d.old) t in
        let short : k < length d.beside = omega (arith, d.place_is) in
        let shifted = map (λ l. l + d.shift) d.beside in
        let n = length-map d.beside (λ l. l + d.shift) in
        let moved = get_or-append shifted d.after 0 k (omega arith) ∙ getD_shift d.shift d.beside k short in
        rw (getD_third d.before d.old _ k q (omega (arith, d.place_is)), getD_third d.before d.new _ k (suc q) (omega (arith, d.place_is, up.longer)), moved, get_or-append d.beside d.after 0 k short)
        (omega (arith, up.shifts))))

    -- and beyond it stays
    pub stays_after : (q : ℕ) → length d.before + (length d.old + length d.beside) ≤ q →
        get_or (labels f w j a) q 0 ≡ get_or (labels (put f s r j p x) w j a) (suc q) 0
    stays_after q from =
        let k = q - length d.before - length d.old in
        let m = k - length d.beside in
        let shifted = map (λ l. l + d.shift) d.beside in
        let n = length-map d.beside (λ l. l + d.shift) in
        rw (d.was, d.now, getD_third d.before d.old _ k q (omega arith), getD_third d.before d.new _ k (suc q) (omega (arith, up.longer)))
        (getD_second d.beside d.after m k (omega arith) ∙ sym (getD_second shifted d.after m k (omega arith)))

    pub border_right : p ≤ length d.before + (length d.old + length d.beside)
    border_right = omega (arith, d.place_is, up.offset_fits)

-- AND IN A BOOK, of a tag t at place q: it keeps its label left of the split node (of the new tag, where none is split) and
-- from the border on
module _ {w : ℕ → ℕ} {p x : ℕ} {k : Book} (step : Step w p x k) where
  abbrev view : Flat k.s k.r w (whole k) (height k) p x 0
  view = flat_whole p k step.place_fits w x step.sane

  left_is : left_of (split_of p k) p k ≡ length view.before
  left_is = left_flat step.place_fits view

  border_is : border p k ≡ length view.before + (length view.old + length view.beside)
  border_is = border_flat step.place_fits view

  pub left_of_new : left_of (split_of p k) p k ≤ p
  left_of_new = omega (arith, left_is, view.place_is)

  pub border_of_new : p ≤ border p k
  border_of_new = omega (arith, border_is, border_right step.sane.s_least step.sane.r_least step.widths view)

  module _ (t : ℕ) (old : member t (tags k) ≡ true) where
    pub place_left : place t (tags k) < p → place t (tags (inserted p x k)) ≡ place t (tags k)
    place_left l = rw (tags_inserted p x k step.sane step.place_fits) (place_before t p (x ∷ []) (tags k) old l)

    pub place_right : p ≤ place t (tags k) → place t (tags (inserted p x k)) ≡ suc (place t (tags k))
    place_right l =
        let another = member_other t x [] (differs t x (tags k) old step.new) ∙ member_nil t in
        rw (tags_inserted p x k step.sane step.place_fits) (omega (arith, place_behind t p (x ∷ []) (tags k) old another l))

    label_was : label_of w k t ≡ get_or (labels (whole k) w (height k) 0) (place t (tags k)) 0
    unfolding label_of
    label_was = rw (labels_whole w k)

    label_now : (q : ℕ) → place t (tags (inserted p x k)) ≡ q → label_of w (inserted p x k) t ≡ get_or (labels (put (whole k) k.s k.r (height k) p x) w (height k) 0) q 0
    unfolding label_of
    label_now q e = rw (labels_put_whole p k step.place_fits w x, e)

    pub keeps_left : place t (tags k) < left_of (split_of p k) p k → label_of w k t ≡ label_of w (inserted p x k) t
    keeps_left l =
        rw (label_was, label_now _ (place_left (omega (arith, left_of_new)))) (stays_before step.sane.s_least step.sane.r_least step.widths view _ (omega (arith, left_is)))

    pub keeps_right : border p k ≤ place t (tags k) → label_of w k t ≡ label_of w (inserted p x k) t
    keeps_right l =
        rw (label_was, label_now _ (place_right (omega (arith, border_of_new)))) (stays_after step.sane.s_least step.sane.r_least step.widths view _ (omega (arith, border_is)))

    -- between them it does not fall, and right of the new tag it rises
    pub rises : left_of (split_of p k) p k ≤ place t (tags k) → place t (tags k) < p → label_of w k t ≤ label_of w (inserted p x k) t
    rises l n =
        rw (label_was, label_now _ (place_left n)) (rises_left step.sane.s_least step.sane.r_least step.widths view _ (omega (arith, left_is)) n)

    pub climbs : p ≤ place t (tags k) → place t (tags k) < border p k → label_of w k t < label_of w (inserted p x k) t
    climbs l n =
        rw (label_was, label_now _ (place_right l)) (climbs_right step.sane.s_least step.sane.r_least step.widths view _ l (omega (arith, border_is)))

    pub falls_not : label_of w k t ≤ label_of w (inserted p x k) t
    falls_not =
        let q = place t (tags k) in
        by_test (ltb q (left_of (split_of p k) p k))
        (λ a. le_of_eq (keeps_left (ltb-true _ _ a)))
        (λ a. by_test (ltb q p)
        (λ b. rises (ltb-false _ _ a) (ltb-true _ _ b))
        (λ b. by_test (ltb q (border p k))
        (λ c. omega (arith, climbs (ltb-false _ _ b) (ltb-true _ _ c)))
        (λ c. le_of_eq (keeps_right (ltb-false _ _ c)))))

-- labels never fall
pub never_falls : NeverFalls
unfolding NeverFalls
never_falls w p x t k step old = falls_not step t old
