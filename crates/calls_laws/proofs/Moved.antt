-- The moved number of an insertion (document 02, CR 4): marks stay, so that it counts the moved tags that are unmarked
-- before the call; and it is at most the number of all moved tags. Assumes nothing.
use mathlib.Core.Path.{◌≡◌, refl, ap}
use mathlib.Core.Bool.{Bool, true, ◌&&◌, not, and_self}
use mathlib.Core.List.{List, [], ◌∷◌, ◌++◌}
use Prim.Native.Nat.{ℕ, ◌≤◌, ◌<◌}
use borrow.Author.Tests.{eq-eqb}
use lib.Dec.{eqb}
use lib.ListN.{length, get_or-append}
use Rattle.lists.specs.Lists.{how_many}
use Rattle.lists.proofs.Tests.{by_test}
use Rattle.lists.proofs.HowMany.{how_many_most}
use Rattle.tree.specs.Row.{member}
use Rattle.tree.specs.Book.{Book, label_of, inserted_row, moved_among, moved}
use Rattle.tree_laws.proofs.Rows.{member_first, member_later}
use Rattle.calls.specs.Kind.{Kind}
use Rattle.calls.specs.Store.{Store, Fact, no_fact, fact_in, unmarked, count, row, width}
use Rattle.calls.specs.Nesting.{new_facts}
use Rattle.calls.specs.Insert.{up_at, depth_at, book_after, insert_store, insert_moved}
use Rattle.calls.specs.Promise.{MarksStay}
use Rattle.calls_laws.proofs.Tests.{Sound}
use Rattle.calls_laws.proofs.Sections.{row_below}

-- facts put behind others mark none of these
pub mark_kept : (ts new : List Fact) (x : ℕ) → x < length ts → not (fact_in (ts ++ new) x).marked ≡ not (fact_in ts x).marked
mark_kept ts new x old = ap (λ (t : Fact). not t.marked) (get_or-append ts new no_fact x old)

pub marks_stay : MarksStay
unfolding MarksStay insert_store
marks_stay ks y x st old = mark_kept st.facts (new_facts (up_at y st) [] (depth_at y st) (count st) ks) x old

-- two tests that agree on a row count the same of what moved in it
pub moved_same : (f g : ℕ → Bool) (w : ℕ → ℕ) (xs : List ℕ) (k m : Book) → ((x : ℕ) → member x xs ≡ true → f x ≡ g x) →
    how_many f (moved_among w xs k m) ≡ how_many g (moved_among w xs k m)
unfolding moved_among how_many
moved_same f g w [] k m same = refl
moved_same f g w (x ∷ xs) k m same =
    let rest = moved_same f g w xs k m (λ v n. same v (member_later v x xs n)) in
    by_test (eqb (label_of w k x) (label_of w m x)) (λ e. rw e rest) (λ e. rw (e, same x (member_first x xs), rest))

-- of a store's tags those that another book moved, where they are unmarked
abbrev pub moved_unmarked : Store → (after : Book) → ℕ
moved_unmarked st m = how_many (unmarked st) (moved_among (width st) (row st) st.book m)

-- one look at the mark suffices
pub moved_once : (ks : List Kind) (y : ℕ) {st : Store} → Sound st → insert_moved ks y st ≡ moved_unmarked st (book_after ks y st)
unfolding insert_moved insert_store MarksStay
moved_once ks y {st} own =
    moved_same (λ x. unmarked st x && unmarked (insert_store ks y st) x) (unmarked st) (width st) (row st) st.book (book_after ks y st)
    (λ x here. rw (marks_stay ks y x st (row_below own x here)) (and_self (unmarked st x)))

-- fewer than all that moved, or as many
pub moved_fewer : (ks : List Kind) (y : ℕ) (st : Store) → insert_moved ks y st ≤ moved (width st) st.book (book_after ks y st)
unfolding insert_moved insert_store moved
moved_fewer ks y st = how_many_most _ _

-- and none where no tag goes in
none_moved : (w : ℕ → ℕ) (xs : List ℕ) (k : Book) → moved_among w xs k k ≡ []
unfolding moved_among
none_moved w [] k = refl
none_moved w (x ∷ xs) k = rw (none_moved w xs k, eq-eqb (label_of w k x) (label_of w k x) refl)

pub moved_nothing : (y : ℕ) (st : Store) → insert_moved [] y st ≡ 0
unfolding insert_moved insert_store book_after inserted_row how_many
moved_nothing y st = rw (none_moved (width st) (row st) st.book)
