-- A row of insertions into a sane book leaves the book that is worked out directly (specs/Grown.antt), and the greatest height of its
-- splits is the one said there. Assumes nothing.
use mathlib.Core.Path.{◌≡◌, refl, ap, sym, ◌∙◌}
use mathlib.Core.Bool.{true, false}
use mathlib.Core.List.{List, [], ◌∷◌}
use Prim.Native.Nat.{ℕ, zero, suc, pred, ◌+◌, ◌*◌, ◌-◌, ◌^◌, ◌≤◌, ◌<◌, max}
use native.Mathlib.Nat.{zero-add, add-zero, suc-add, max-le, le-max_left, le-max_right}
use native.Mathlib.Omega.{arith}
use borrow.Author.Tests.{ltb-true, ltb-false}
use lib.Dec.{ltb}
use Rattle.lists.specs.Lists.{numbers}
use Rattle.lists.proofs.Tests.{by_test, fails}
use Rattle.lists.proofs.Numbers.{length_numbers}
use Rattle.tree.specs.Row.{insert_at}
use Rattle.tree.specs.Forest.{Forest, size, spread, split_height}
use Rattle.tree.specs.Book.{Book, height, tags, root_full, root_split, put_inside, inserted, split_of, inserted_row, split_of_row}
use Rattle.tree.specs.Grown.{grown_node, grown_height, grown_split}
use Rattle.tree.specs.Promise.{Sane, RowGrows, RowsGrow}
use Rattle.tree_laws.proofs.Insertion.{inserted_split, inserted_inside, split_of_split, split_of_inside, root_at_limit, root_below_limit, rooted, empty_low, size_inserted, sane_inserted, inserted_s, inserted_r, sane_inserted_row, tags_inserted_row, size_inserted_row}
use Rattle.tree_laws.proofs.Flat.{split_at_most}
use Rattle.tree_laws.proofs.RowPut.{put_row, later, insert_more, length_inserted}
use Rattle.tree_laws.proofs.RowPath.{follows}
use Rattle.tree_laws.proofs.Full.{split_root, split_inner, grown_root, grown_inner}
use Rattle.tree_laws.proofs.RowForest.{grown_node_is, row_grows}
use Rattle.tree_laws.proofs.RowSplit.{split_row, split_grows}
use Rattle.tree_laws.proofs.RowHeight.{least_one, limits_grow, next_limit, height_least, height_grown, under_of}

-- two rows, the second behind the first, are one
inserted_row_add : (a b p x : ℕ) (k : Book) → inserted_row (a + b) p x k ≡ inserted_row b (p + a) (x + a) (inserted_row a p x k)
unfolding inserted_row
inserted_row_add zero b p x k = rw (zero-add, add-zero p, add-zero x)
inserted_row_add (suc a) b p x k = rw (suc-add, later p a, later x a) (inserted_row_add a b (suc p) (suc x) (inserted p x k))

-- s and r stay
row_s : (m p x : ℕ) (k : Book) → (inserted_row m p x k).s ≡ k.s
unfolding inserted_row
row_s zero p x k = refl
row_s (suc m) p x k = row_s m (suc p) (suc x) (inserted p x k) ∙ inserted_s p x k

row_r : (m p x : ℕ) (k : Book) → (inserted_row m p x k).r ≡ k.r
unfolding inserted_row
row_r zero p x k = refl
row_r (suc m) p x k = row_r m (suc p) (suc x) (inserted p x k) ∙ inserted_r p x k

-- BELOW THE ROOT'S LIMIT the row goes into the root's children
module _ (p x : ℕ) (k : Book) (sane : Sane k) (fits : p ≤ size k.root) (m : ℕ) (room : size k.root + suc m < k.s * k.r ^ height k) where
  open_root : root_full k ≡ false
  open_root = fails (root_full k) (λ e. omega (arith, root_at_limit k e))

  next_sane : Sane (put_inside p x k)
  next_sane = rw (inserted_inside p k x open_root) at (sane_inserted p x k sane fits)

  next_size : size (put_inside p x k).root ≡ suc (size k.root)
  next_size = rw (inserted_inside p k x open_root) at (size_inserted p x k sane fits)

row_book : (m p x : ℕ) (k : Book) → Sane k → p ≤ size k.root → size k.root + m < k.s * k.r ^ height k →
    inserted_row m p x k ≡ record { s = k.s; r = k.r; under = k.under; root = put_row m k.root k.s k.r k.under p x }
unfolding inserted_row put_row put_inside
row_book zero p x k h l room = refl
row_book (suc m) p x k h l room =
    let sized = next_size p x k h l m room in
    rw (inserted_inside p k x (open_root p x k h l m room))
    (row_book m (suc p) (suc x) (put_inside p x k) (next_sane p x k h l m room) (omega arith) (omega arith))

row_split : (m p x : ℕ) (k : Book) → Sane k → p ≤ size k.root → size k.root + m < k.s * k.r ^ height k →
    split_of_row m p x k ≡ split_row m k.root k.s k.r k.under p x
unfolding split_of_row split_row put_inside
row_split zero p x k h l room = refl
row_split (suc m) p x k h l room =
    let sized = next_size p x k h l m room in
    let shut = open_root p x k h l m room in
    rw (inserted_inside p k x shut, split_of_inside p k shut)
    (ap (max (split_height k.root k.s k.r k.under p)) (row_split m (suc p) (suc x) (put_inside p x k) (next_sane p x k h l m room) (omega arith) (omega arith)))

-- a book of complete trees
abbrev spread_over : (s r h : ℕ) → List ℕ → Book
spread_over s r h row = record { s = s; r = r; under = h; root = spread h r row }

spread_book : {s s' r r' h h' : ℕ} {row row' : List ℕ} → s ≡ s' → r ≡ r' → h ≡ h' → row ≡ row' → spread_over s r h row ≡ spread_over s' r' h' row'
spread_book a b c d = rw (a, b, c, d)

-- WHERE THE ROOT COMES TO ITS LIMIT AT HEIGHT h with the first tags: the book then has complete trees of that height
module _ (p x : ℕ) (k : Book) (sane : Sane k) (fits : p ≤ size k.root) (h b : ℕ) (low : height k ≤ h) (full : size k.root + suc b ≡ k.s * k.r ^ h) where
  -- one tag before
  height_before : height (inserted_row b p x k) ≡ h
  height_before = least_one sane.r_least (height_least b p x k sane fits) (record {
    low = low;
    fits = omega arith;
    least = λ l.
        let up : h ≡ suc (pred h) = omega arith in
        let next = rw (← up) at (next_limit k.s k.r (pred h) sane.s_least sane.r_least) in
        omega arith;
  })

  full_before : root_full (inserted_row b p x k) ≡ true
  full_before =
      let before = inserted_row b p x k in
      let limit : suc (size before.root) ≡ before.s * before.r ^ height before = rw (row_s b p x k, row_r b p x k, height_before) (omega (arith, size_inserted_row b p x k sane fits)) in
      by_test (root_full before) (λ t. t) (λ t. absurd (root_below_limit before t limit))

  split_once : inserted_row (suc b) p x k ≡ spread_over k.s k.r h (insert_at p (numbers x (suc b)) (tags k))
  unfolding inserted_row root_split numbers
  split_once =
      let before = inserted_row b p x k in
      let more : suc b ≡ b + 1 = omega arith in
      let row : insert_at (p + b) ((x + b) ∷ []) (tags before) ≡ insert_at p (numbers x (suc b)) (tags k) =
      ap (insert_at (p + b) ((x + b) ∷ [])) (tags_inserted_row b p x k sane fits)
      ∙ (insert_more b 1 p x (tags k) fits ∙ ap (λ (n : ℕ). insert_at p (numbers x n) (tags k)) (sym more)) in
      ap (λ (n : ℕ). inserted_row n p x k) more ∙ (inserted_row_add b 1 p x k
      ∙ (inserted_split (p + b) before (x + b) full_before ∙ spread_book (row_s b p x k) (row_r b p x k) height_before row))

  -- and the others go on from there
  split_many : (rest : ℕ) → size k.root + (suc b + rest) < k.s * k.r ^ suc h →
      inserted_row (suc b + rest) p x k ≡ record { s = k.s; r = k.r; under = h; root = grown_node k.s k.r h p (numbers x (suc b + rest)) (tags k) }
  split_many rest room =
      let row = insert_at p (numbers x (suc b)) (tags k) in
      let n_row = length_inserted p x (suc b) (tags k) in
      let book = spread_over k.s k.r h row in
      let sized = rw split_once at (size_inserted_row (suc b) p x k sane fits) in
      let sane' = rw split_once at (sane_inserted_row (suc b) p x k sane fits) in
      let on = follows sane.s_least sane.r_least h k.s rest (p + suc b) (x + suc b) row (omega arith) (omega arith) (omega arith) in
      let all = grown_node_is k.s k.r h p x (suc b) rest (tags k) fits (omega arith) in
      let own : Forest → Book = λ t. record { s = k.s; r = k.r; under = h; root = t } in
      inserted_row_add (suc b) rest p x k ∙ (ap (inserted_row rest (p + suc b) (x + suc b)) split_once
      ∙ (row_book rest (p + suc b) (x + suc b) book sane' (omega arith) (omega arith) ∙ ap own (on ∙ all)))

-- THE HEIGHTS OF THE SPLITS: below the height afterwards, and just below it where the root is split
split_one : (p x : ℕ) (k : Book) → Sane k → split_of p k ≤ (inserted p x k).under
split_one p x k sane =
    by_test (root_full k)
    (λ t. omega (arith, split_of_split p k t, under_of k p x true t))
    (λ t. omega (arith, split_of_inside p k t, under_of k p x false t, split_at_most k.root k.s k.r k.under p (rooted k sane).good))

module _ (m p x : ℕ) (k : Book) (sane : Sane k) (fits : p ≤ size k.root) where
  next_fits : suc p ≤ size (inserted p x k).root
  next_fits = omega (arith, size_inserted p x k sane fits)

  next_low : height (inserted p x k) ≤ height (inserted_row m (suc p) (suc x) (inserted p x k))
  next_low = (height_least m (suc p) (suc x) (inserted p x k) (sane_inserted p x k sane fits) next_fits).low

splits_below : (m p x : ℕ) (k : Book) → Sane k → p ≤ size k.root → split_of_row m p x k ≤ (inserted_row m p x k).under
unfolding split_of_row inserted_row
splits_below zero p x k h l = omega arith
splits_below (suc m) p x k h l =
    max-le (omega (arith, split_one p x k h, next_low m p x k h l))
    (splits_below m (suc p) (suc x) (inserted p x k) (sane_inserted p x k h l) (next_fits m p x k h l))

splits_reach : (m p x : ℕ) (k : Book) → Sane k → p ≤ size k.root → height k < height (inserted_row m p x k) → (inserted_row m p x k).under ≤ split_of_row m p x k
unfolding split_of_row inserted_row
splits_reach zero p x k h l up = absurd (omega arith)
splits_reach (suc m) p x k h l up =
    let next = inserted p x k in
    let own = le-max_left (split_of p k) (split_of_row m (suc p) (suc x) next) in
    let others = le-max_right (split_of p k) (split_of_row m (suc p) (suc x) next) in
    by_test (ltb (height next) (height (inserted_row m (suc p) (suc x) next)))
    (λ t. omega (arith, splits_reach m (suc p) (suc x) next (sane_inserted p x k h l) (next_fits m p x k h l) (ltb-true _ _ t)))
    (λ t.
    let last = ltb-false (height next) (height (inserted_row m (suc p) (suc x) next)) t in
    by_test (root_full k) (λ u. omega (arith, split_of_split p k u, under_of k p x true u)) (λ u. absurd (omega (arith, under_of k p x false u))))

-- what is promised of a whole row
module _ (m p x : ℕ) (k : Book) (sane : Sane k) (fits : p ≤ size k.root) where
  top : grown_height m k ≡ height (inserted_row m p x k)
  top = height_grown m p x k sane fits

  -- the root has room
  grows_inside : ltb (height k) (grown_height m k) ≡ false → RowGrows m p x k
  grows_inside t =
      let l = ltb-false (height k) (grown_height m k) t in
      let d = height_least m p x k sane fits in
      let good = (rooted k sane).good in
      let same : height (inserted_row m p x k) ≡ height k = omega (arith, top, d.low) in
      let room : size k.root + m < k.s * k.r ^ height k = rw (← same) d.fits in
      let none = empty_low k sane in
      let made = rw (length_numbers x m) at (grown_inner p (numbers x m) k) in
      record {
        book = row_book m p x k sane fits room ∙ (rw (row_grows sane.s_least sane.r_least m k.root k.under p x good fits none, ← split_inner m p k t) (sym (made t)));
        split = row_split m p x k sane fits room ∙ (split_grows sane.s_least sane.r_least m k.root k.under p x good fits none ∙ sym (split_inner m p k t));
      }

  -- it is split
  grows_up : ltb (height k) (grown_height m k) ≡ true → RowGrows m p x k
  grows_up t =
      let l = ltb-true (height k) (grown_height m k) t in
      let h = (inserted_row m p x k).under in
      let d = height_least m p x k sane fits in
      let limit = k.s * k.r ^ h in
      let up : height k < suc h = omega (arith, top) in
      let reached : limit ≤ size k.root + m = d.least up in
      let b = limit - size k.root - 1 in
      let rest = m - suc b in
      let full : size k.root + suc b ≡ limit = omega (arith, (rooted k sane).high, limits_grow k.s k.r (height k) h sane.r_least (omega arith)) in
      let whole : suc b + rest ≡ m = omega arith in
      let made = split_many p x k sane fits h b (omega arith) full rest (rw whole d.fits) in
      let highest : grown_split m p k ≡ h = split_root m p k t ∙ ap pred top in
      let raised = rw (length_numbers x m) at (grown_root p (numbers x m) k) in
      record {
        book = rw whole at made ∙ sym (rw highest at (raised t));
        split = omega (arith, splits_below m p x k sane fits, splits_reach m p x k sane fits up);
      }

pub rows_grow : RowsGrow
unfolding RowsGrow
rows_grow m p x k sane fits =
    by_test (ltb (height k) (grown_height m k))
    (grows_up m p x k sane fits) (grows_inside m p x k sane fits)
