-- How many tags an insertion moved, by the lists of labels before and afterwards, of those that pass a test. Assumes nothing.
use mathlib.Core.Path.{◌≡◌, refl, ap, sym, ◌∙◌}
use mathlib.Core.Bool.{Bool, true}
use mathlib.Core.List.{List, [], ◌∷◌, ◌++◌, map, map-append}
use Prim.Native.Nat.{ℕ, ◌+◌, ◌≤◌, ◌<◌}
use native.Mathlib.Omega.{arith}
use lib.Dec.{eqb}
use lib.ListN.{length, get_or, take, drop, replicate, length-map, length-drop, length-replicate, take-append-drop}
use lib.Seq.{length-take-le, get_or-take, get_or-drop, ext_get_or, take_at, drop_at, drop-drop}
use Rattle.lists.specs.Lists.{how_many}
use Rattle.lists.proofs.Tests.{by_test, either_way}
use Rattle.tree.specs.Row.{insert_at}
use Rattle.tree.specs.Book.{Book, tags, labels_of, label_of, moved_among}
use Rattle.tree_laws.proofs.Rows.{Distinct, Apart, place_getD, length_insert, distinct_insert}
use Rattle.tree_laws.proofs.Labels.{length_labels}
use Rattle.calls.specs.Store.{Store, Fact, unmarked, row, width}
use Rattle.calls_laws.proofs.Tests.{Sound}
use Rattle.calls_laws.proofs.Sections.{row_below}
use Rattle.calls_laws.proofs.Moved.{mark_kept, moved_same, moved_unmarked}
use Rattle.calls_laws.proofs.Reader.{get_d_map}
use Rattle.edit_model.proofs.Along.{unmarked_by}
use Rattle.edit_model.proofs.Differ.{differ, differ_all, differ_around}

-- the labels of a row's tags, tag by tag
labels_by_tag : (w : ℕ → ℕ) (k : Book) → Distinct (tags k) → map (label_of w k) (tags k) ≡ labels_of w k
unfolding label_of
labels_by_tag w k h =
    ext_get_or 0 _ (labels_of w k) (length-map (tags k) _ ∙ sym (length_labels k.root w k.under 0))
    (λ i l. let inside : i < length (tags k) = omega (arith, length-map (tags k) (label_of w k)) in
    get_d_map (label_of w k) (tags k) i 0 0 inside ∙ rw (place_getD (tags k) i 0 h inside))

-- the moved tags of a row that pass a test are where the labels in the two books differ
moved_differ : (f : ℕ → Bool) (w : ℕ → ℕ) (k m : Book) (xs : List ℕ) →
    how_many f (moved_among w xs k m) ≡ differ (map f xs) (map (label_of w k) xs) (map (label_of w m) xs)
unfolding moved_among how_many differ
moved_differ f w k m [] = refl
moved_differ f w k m (x ∷ xs) =
    by_test (eqb (label_of w k x) (label_of w m x))
    (λ e. rw (e, either_way {A = ℕ} (f x) 0) (omega (arith, moved_differ f w k m xs)))
    (λ e. rw e (omega (arith, moved_differ f w k m xs)))

-- A ROW WITH NEW TAGS behind the first p, and what goes with its tags: in front of the new ones, of these, and behind them
module _ {A : Type 0} (f : ℕ → A) (p : ℕ) (ns xs : List ℕ) (fits : p ≤ length xs) where
  abbrev front : List A
  front = map f (take p xs)

  front_long : length front ≡ p
  front_long = length-map (take p xs) f ∙ length-take-le p xs fits

  old_parts : map f xs ≡ front ++ map f (drop p xs)
  old_parts = ap (map f) (sym (take-append-drop p xs)) ∙ map-append f (take p xs) (drop p xs)

  new_parts : map f (insert_at p ns xs) ≡ front ++ (map f ns ++ map f (drop p xs))
  unfolding insert_at
  new_parts = rw (map-append, map-append)

  front_kept : take p (map f (insert_at p ns xs)) ≡ take p (map f xs)
  front_kept =
      rw (old_parts, new_parts, take_at front (map f ns ++ map f (drop p xs)) p front_long) (sym (take_at front (map f (drop p xs)) p front_long))

  middle_new : take (length ns) (drop p (map f (insert_at p ns xs))) ≡ map f ns
  middle_new = rw (new_parts, drop_at front _ p front_long) (take_at (map f ns) _ (length ns) (length-map ns f))

  back_kept : drop (p + length ns) (map f (insert_at p ns xs)) ≡ drop p (map f xs)
  back_kept =
      rw (old_parts, new_parts, ← drop-drop, drop_at front (map f ns ++ map f (drop p xs)) p front_long, drop_at front (map f (drop p xs)) p front_long)
      (drop_at (map f ns) (map f (drop p xs)) (length ns) (length-map ns f))

-- A BOOK AND ANOTHER with new tags behind the first p
module _ (w : ℕ → ℕ) (k m : Book) (p : ℕ) (ns : List ℕ) (h : Distinct (tags k)) (g : Distinct ns) (apart : Apart ns (tags k)) (fits : p ≤ length (tags k)) (e : tags m ≡ insert_at p ns (tags k)) where
  labels_after : labels_of w m ≡ map (label_of w m) (insert_at p ns (tags k))
  labels_after = sym (labels_by_tag w m (rw e (distinct_insert p ns (tags k) g h apart))) ∙ ap (map (label_of w m)) e

  -- the labels afterwards of the tags that were there
  labels_kept : map (label_of w m) (tags k) ≡ take p (labels_of w m) ++ drop (p + length ns) (labels_of w m)
  labels_kept =
      rw (labels_after, front_kept (label_of w m) p ns (tags k) fits, back_kept (label_of w m) p ns (tags k) fits)
      (sym (take-append-drop p (map (label_of w m) (tags k))))

  module _ (f : ℕ → Bool) where
    -- moved are the places at which the labels before differ from those
    moved_by_labels : how_many f (moved_among w (tags k) k m)
        ≡ differ (map f (tags k)) (labels_of w k) (take p (labels_of w m) ++ drop (p + length ns) (labels_of w m))
    moved_by_labels = moved_differ f w k m (tags k) ∙ rw (labels_by_tag w k h, labels_kept)

    -- and the new tags count too, where they pass the test, with a number put in for each that is no label
    pub moved_and_new : (none : ℕ) → ((i : ℕ) → i < length (labels_of w m) → get_or (labels_of w m) i 0 < none) → map f ns ≡ replicate (length ns) true →
        how_many f (moved_among w (tags k) k m) + length ns
        ≡ differ (map f (insert_at p ns (tags k))) (take p (labels_of w k) ++ (replicate (length ns) none ++ drop p (labels_of w k))) (labels_of w m)
    moved_and_new none small pass =
        let before = length_labels k.root w k.under 0 in
        let after = length_labels m.root w m.under 0 ∙ ap length e ∙ length_insert p ns (tags k) in
        let new = take (length ns) (drop p (labels_of w m)) in
        let many : length new ≡ length ns = length-take-le (length ns) (drop p (labels_of w m)) (rw length-drop (omega arith)) in
        let at : (i : ℕ) → i < length new → get_or new i 0 < none = λ i l. rw (get_or-take (length ns) (drop p (labels_of w m)) i 0 (omega arith), get_or-drop p (labels_of w m) i 0) (small (p + i) (omega arith)) in
        let all = rw many at (differ_all none new at) in
        let around =
        differ_around p (length ns) (map f (insert_at p ns (tags k))) (map f (tags k)) (labels_of w k) (labels_of w m) (replicate (length ns) none)
        (front_kept f p ns (tags k) fits) (back_kept f p ns (tags k) fits) (length-replicate (length ns) none) (omega arith) (omega arith) in
        omega (arith, moved_by_labels, all, rw (middle_new f p ns (tags k) fits, pass) at around)

-- A STORE'S OWN TAGS are marked as they were, with the facts of new tags behind theirs
pub moved_with_facts : {st : Store} → Sound st → (new : List Fact) (m : Book) →
    how_many (unmarked_by (st.facts ++ new)) (moved_among (width st) (row st) st.book m) ≡ moved_unmarked st m
moved_with_facts {st} own new m =
    moved_same (unmarked_by (st.facts ++ new)) (unmarked st) (width st) (row st) st.book m (λ x here. mark_kept st.facts new x (row_below own x here))
