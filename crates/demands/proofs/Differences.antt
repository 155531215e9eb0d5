-- Moved and marked are differences of words: how many tags with unmarked kind words have another label word, how many kind
-- words became marked ones. Assumes nothing.
use mathlib.Core.Path.{◌≡◌, refl, sym, ◌∙◌}
use mathlib.Core.Bool.{Bool, true, false, ◌&&◌, ◌||◌, not, cond, and_self}
use mathlib.Core.List.{List, [], ◌∷◌, map}
use Prim.Native.Nat.{ℕ, zero, suc, ◌+◌, ◌<◌}
use native.Mathlib.Nat.{zero-add}
use native.Mathlib.Omega.{arith}
use lib.Dec.{eqb}
use lib.ListN.{length, get_or, length-append}
use Rattle.lists.proofs.Replied.{replied_answer}
use Rattle.store_types.specs.declared.TagId.{TagId}
use Rattle.lists.proofs.Tests.{by_test}
use Rattle.lists.specs.Lists.{numbers, how_many}
use Rattle.lists.proofs.Numbers.{length_numbers}
use Rattle.lists.specs.Fronts.{replied, written}
use Rattle.tree.specs.Book.{Book, label_of, inserted_row, moved_among}
use Rattle.tree_laws.proofs.Rows.{member_numbers}
use Rattle.calls.specs.Kind.{Kind, kind_of}
use Rattle.calls.specs.Store.{Store, Fact, no_fact, fact, unmarked, count, row, width, label}
use Rattle.calls.specs.Nesting.{new_facts}
use Rattle.calls.specs.Insert.{insert_kinds, position, up_at, depth_at, book_after, insert_store, insert_moved, insert_sheet_store}
use Rattle.calls.specs.Mark.{within, mark_store, new_marks, mark_count, section_refusal}
use Rattle.calls.specs.Words.{words_of, Says}
use Rattle.calls.specs.Replies.{said, refusal_over, insert_refused, insert_reply, insert_words, insert_sheet_refused, insert_sheet_reply, insert_sheet_words, mark_reply, mark_words}
use Rattle.calls.specs.Changes.{Change, insert, sheet, mark, refusal, changed}
use Rattle.calls.specs.Promise.{MarksStay}
use Rattle.calls_laws.proofs.Reader.{kind_back}
use Rattle.calls_laws.proofs.Sections.{distinct_row, row_below}
use Rattle.calls_laws.proofs.Inserts.{row_degrees}
use Rattle.calls_laws.proofs.Moved.{marks_stay, moved_once}
use Rattle.calls_laws.proofs.Marks.{length_marked, mark_of}
use Rattle.calls_laws.proofs.Steps.{changed_sound}
use Rattle.calls_laws.proofs.WordSteps.{refusal_passed, header_said, says_in_front}
use Rattle.walk_model.proofs.Passes.{total}
use Rattle.walk_model.proofs.Counts.{total_same}
use Rattle.demands.specs.Words.{is_marked, count_below, unmarked_changed, became_marked}
use Rattle.demands.specs.Promise.{MovedRight, SheetMovedRight, MarkedRight}
use Rattle.demands.proofs.Said.{sound_said, tag_said}
use Rattle.std.specs.Prelude.{Ok, Err}
use Rattle.store_types.proofs.Replies.{same_insert}
use Rattle.store_types.specs.Replies.{insert_made}

-- COUNTING: numbers added up along a row of numbers are a count
total_count : (g : ℕ → ℕ) (p : ℕ → Bool) (x n : ℕ) → ((i : ℕ) → i < n → g (x + i) ≡ cond (p (x + i)) 1 0) → total g (numbers x n) ≡ how_many p (numbers x n)
unfolding numbers how_many
total_count g p x zero each = refl
total_count g p x (suc n) each =
    let first : x + 0 ≡ x = omega arith in
    let later : (i : ℕ) → i < n → g (suc x + i) ≡ cond (p (suc x + i)) 1 0 =
    λ i l. let same : suc x + i ≡ x + suc i = omega arith in rw same (each (suc i) (omega arith)) in
    rw (rw first at (each 0 (omega arith)), total_count g p (suc x) n later)

pub count_total : (g : ℕ → ℕ) (p : ℕ → Bool) (n : ℕ) → ((x : ℕ) → x < n → g x ≡ cond (p x) 1 0) → total g (numbers 0 n) ≡ count_below n p
count_total g p n each = total_count g p 0 n (λ i l. rw zero-add (each i l))

-- MOVED: of a row, tag by tag, those that pass a test
moved_total : (f : ℕ → Bool) (w : ℕ → ℕ) (k m : Book) (xs : List ℕ) →
    how_many f (moved_among w xs k m) ≡ total (λ x. cond (not (eqb (label_of w k x) (label_of w m x)) && f x) 1 0) xs
unfolding moved_among how_many
moved_total f w k m [] = refl
moved_total f w k m (x ∷ xs) =
    by_test (eqb (label_of w k x) (label_of w m x)) (λ e. rw e (omega (arith, moved_total f w k m xs))) (λ e. rw e (omega (arith, moved_total f w k m xs)))

-- whether a tag is marked, by its kind word
mark_said : (ws : List ℕ) (st : Store) → Says ws st → (x : ℕ) → x < count st → is_marked ws x ≡ (fact st x).marked
unfolding is_marked
mark_said ws st says x l = rw (tag_said ws st says x l).kind_is (kind_back (fact st x).kind (fact st x).marked).1

-- a reply that says so is that of an accepted insertion
pub inserted_said : (k : ℕ) (x y : TagId) (m h m' h' : ℕ) → replied Err k (Ok (insert_made x m h)) ≡ Ok (insert_made y m' h') → (k ≡ 0) × (m ≡ m') × (x ≡ y)
inserted_said k x y m h m' h' e =
    let (z, same) = replied_answer k (insert_made x m h) (insert_made y m' h') e in
    let parts = same_insert same in (z, parts.1, parts.0)

-- A ROW OF KINDS at a place: the store afterwards has the tags of the one before, marked or not as they were, and the book with
-- the new tags. The empty row leaves the store
still : (ks : List Kind) (y x : ℕ) (st : Store) → x < count st → x < count (insert_sheet_store ks y st)
unfolding insert_sheet_store insert_store
still [] y x st l = l
still (k ∷ ks) y x st l = omega (arith, length-append st.facts (new_facts (up_at y st) [] (depth_at y st) (count st) (k ∷ ks)))

mark_same : (ks : List Kind) (y x : ℕ) (st : Store) → x < count st → unmarked (insert_sheet_store ks y st) x ≡ unmarked st x
unfolding insert_sheet_store MarksStay
mark_same [] y x st l = refl
mark_same (k ∷ ks) y x st l = marks_stay (k ∷ ks) y x st l

same_book : (ks : List Kind) (y : ℕ) (st : Store) → (insert_sheet_store ks y st).book ≡ book_after ks y st
unfolding insert_sheet_store insert_store book_after inserted_row
same_book [] y st = refl
same_book (k ∷ ks) y st = refl

-- s and r stay, so the widths do
label_after : (ks : List Kind) (y x : ℕ) (st : Store) → label (insert_sheet_store ks y st) x ≡ label_of (width st) (book_after ks y st) x
unfolding book_after
label_after ks y x st =
    let d = row_degrees (length ks) (position y st) (count st) st.book in rw (same_book ks y st, d.0, d.1)

moved_words : (ks : List Kind) (y : ℕ) (ws vs : List ℕ) (st : Store) → Says ws st → Says vs (insert_sheet_store ks y st) →
    insert_moved ks y st ≡ unmarked_changed ws vs
unfolding unmarked_changed
moved_words ks y ws vs st says says_after =
    let after = book_after ks y st in
    let su = insert_sheet_store ks y st in
    let g : ℕ → ℕ = λ x. cond (not (eqb (label_of (width st) st.book x) (label_of (width st) after x)) && unmarked st x) 1 0 in
    let own = sound_said ws st says in
    moved_once ks y own ∙ (moved_total (unmarked st) (width st) st.book after (row st)
    ∙ (total_same g (row st) (numbers 0 (count st)) (distinct_row own)
    (λ v m. member_numbers v 0 (count st) (omega arith) (omega (arith, row_below own v m))) (omega (arith, length_numbers 0 (count st), own.as_many))
    ∙ rw (header_said ws st says).issued
    (count_total g _ (count st)
    (λ x l. rw (
      (tag_said ws st says x l).label_word,
      (tag_said vs su says_after x (still ks y x st l)).label_word,
      label_after ks y x st,
      mark_said ws st says x l,
      mark_said vs su says_after x (still ks y x st l),
      mark_same ks y x st l,
      and_self (unmarked st x),
    )))))

-- the words after an accepted call say the store after it
module _ (c : Change) (ws : List ℕ) (z : refusal_over ws (refusal (length ws) c) ≡ 0) where
  pub says_before : Says ws (said ws)
  says_before = (refusal_passed ws (refusal (length ws) c) z).0

  pub says_then : Says (written (refusal_over ws (refusal (length ws) c)) (words_of (changed c (said ws))) ws) (changed c (said ws))
  unfolding written replied Says
  says_then =
      rw z (says_in_front ws (changed c (said ws)) (changed_sound (length ws) c (said ws) says_before.0 (refusal_passed ws (refusal (length ws) c) z).1))

-- an insertion's row is never empty
pub insert_is_sheet : (c y : ℕ) (st : Store) → insert_store (insert_kinds c) y st ≡ insert_sheet_store (insert_kinds c) y st
unfolding insert_kinds insert_sheet_store
insert_is_sheet c y st = by_test (eqb c 1) (λ e. rw e) (λ e. rw e)

pub says_same : (vs : List ℕ) {st su : Store} → st ≡ su → Says vs st → Says vs su
says_same vs e h = rw e at h

pub moved_right : MovedRight
unfolding MovedRight insert_reply insert_words insert_refused refusal changed
moved_right c y x m h ws e =
    let (z, same, first) = inserted_said (insert_refused c y ws) _ (record { 0 = x }) _ _ m h e in
    sym same ∙ moved_words (insert_kinds c) y ws (insert_words c y ws) (said ws) (says_before (insert c y) ws z) (says_same (insert_words c y ws) (insert_is_sheet c y (said ws)) (says_then (insert c y) ws z))

pub sheet_moved_right : SheetMovedRight
unfolding SheetMovedRight insert_sheet_reply insert_sheet_words insert_sheet_refused refusal changed
sheet_moved_right cs y x m h ws e =
    let (z, same, first) = inserted_said (insert_sheet_refused cs y ws) _ (record { 0 = x }) _ _ m h e in
    sym same ∙ moved_words (map kind_of cs) y ws (insert_sheet_words cs y ws) (said ws) (says_before (sheet cs y) ws z) (says_then (sheet cs y) ws z)

-- MARKED
new_total : (st : Store) (x d : ℕ) (ts : List Fact) (g : ℕ → ℕ) →
    ((i : ℕ) → i < length ts → g (d + i) ≡ cond (not (get_or ts i no_fact).marked && within st x (d + i)) 1 0) → new_marks st x d ts ≡ total g (numbers d (length ts))
unfolding new_marks numbers
new_total st x d [] g each = refl
new_total st x d (t ∷ ts) g each =
    let first : d + 0 ≡ d = omega arith in
    let own : g d ≡ cond (not t.marked && within st x d) 1 0 = rw first at (each 0 (omega arith)) in
    rw (own, new_total st x (suc d) ts g (λ i l. let same : suc d + i ≡ d + suc i = omega arith in rw same (each (suc i) (omega arith))))

became : (a b : Bool) → (not a && (a || b)) ≡ (not a && b)
became true b = refl
became false b = refl

module _ (x : ℕ) (ws : List ℕ) (z : refusal_over ws (section_refusal x) ≡ 0) where
  abbrev before : Store
  before = said ws

  abbrev after : Store
  after = mark_store x before

  said_before : Says ws before
  unfolding refusal
  said_before = says_before (mark x) ws z

  said_after : Says (mark_words x ws) after
  unfolding mark_words refusal changed
  said_after = says_then (mark x) ws z

  marked_tag : (i : ℕ) → i < count before → (is_marked ws i ≡ (fact before i).marked) × (is_marked (mark_words x ws) i ≡ ((fact before i).marked || within before x i))
  unfolding mark_store
  marked_tag i l =
      let many : i < count after = omega (arith, length_marked before x 0 before.facts) in (
        mark_said ws before said_before i l,
        mark_said (mark_words x ws) after said_after i many ∙ rw zero-add at (mark_of before x 0 before.facts i l),
      )

  marked_words : mark_count x before ≡ became_marked ws (mark_words x ws)
  unfolding mark_count became_marked
  marked_words =
      let p : ℕ → Bool = λ i. not (is_marked ws i) && is_marked (mark_words x ws) i in
      let g : ℕ → ℕ = λ i. cond (p i) 1 0 in
      new_total before x 0 before.facts g
      (λ i l. rw (zero-add, (marked_tag i l).0, (marked_tag i l).1, became (fact before i).marked (within before x i)))
      ∙ rw (header_said ws before said_before).issued (count_total g p (count before) (λ i l. refl))

pub marked_right : MarkedRight
unfolding MarkedRight mark_reply
marked_right x n ws e = let (z, same) = replied_answer (refusal_over ws (section_refusal x)) _ n e in sym same ∙ marked_words x ws z
