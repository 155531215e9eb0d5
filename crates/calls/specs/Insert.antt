-- Insertion (document 01, "The tree", "Calls and their replies"; document 02, CR 4, for the moved number, and CR 5 for sheets): of
-- a row of kinds, which one call takes as they come; a text and an element are the two rows that the other admits.
-- Assumes nothing: these are definitions.
use Rattle.std.specs.Prelude.{Bool, false, ◌&&◌, ◌||◌, not, cond, List, [], ◌∷◌, ◌++◌, map, ℕ, zero, suc, ◌+◌, ◌*◌, ◌^◌, ltb, leb, eqb, length}
use Rattle.lists.specs.Lists.{first, how_many}
use Rattle.store_types.specs.Limits.{no_tag, most_tags}
use Rattle.store_types.specs.Layout.{header_words, words_for}
use Rattle.tree.specs.Book.{Book, height, inserted_row, split_of_row, moved_among}
use Rattle.calls.specs.Kind.{Kind, begin, end, text, is_begin, kind_of, opens_after}
use Rattle.calls.specs.Store.{Store, fact, unmarked, count, row, place_of, width, height_fits}
use Rattle.calls.specs.Nesting.{new_facts}
use Rattle.calls.specs.Load.{kinds_tests}

-- kind 1: an element, its begin and then its end; kind 3: a text
unfoldable pub insert_kinds : (kind : ℕ) → List Kind
insert_kinds c = cond (eqb c 1) (begin ∷ end ∷ []) (text ∷ [])

-- how many tags stand before the new ones: none at the front, else those up to the place
unfoldable pub position : (place : ℕ) → Store → ℕ
position y st = cond (eqb y no_tag) 0 (suc (place_of st y))

-- the up of a new element or text: y if y is a begin, else y's up; at the front no tag
unfoldable pub up_at : (place : ℕ) → Store → ℕ
up_at y st = cond (eqb y no_tag) no_tag (cond (is_begin (fact st y).kind) y (fact st y).up)

-- how many elements are around it (document 02, CR 7): as many as around y, one more after a begin; at the front none
unfoldable pub depth_at : (place : ℕ) → Store → ℕ
depth_at y st = cond (eqb y no_tag) 0 (opens_after (fact st y).kind (fact st y).depth)

-- new tags take the next numbers
unfoldable pub book_after : (kinds : List Kind) → (place : ℕ) → Store → Book
book_after ks y st = inserted_row (length ks) (position y st) (count st) st.book

unfoldable pub insert_store : (kinds : List Kind) → (place : ℕ) → Store → Store
insert_store ks y st =
    record {
      book = book_after ks y st;
      number = st.number;
      stamp = suc st.stamp;
      facts = st.facts ++ new_facts (up_at y st) [] (depth_at y st) (count st) ks;
    }

-- what a session can lose (document 02, CR 4): the tags present before the whole call whose label differs after it, of
-- those that are unmarked before and after the call
unfoldable pub insert_moved : (kinds : List Kind) → (place : ℕ) → Store → ℕ
insert_moved ks y st =
    let after = insert_store ks y st in
    how_many (λ x. unmarked st x && unmarked after x) (moved_among (width st) (row st) st.book after.book)

-- the greatest split height of the single insertions
unfoldable pub insert_split : (kinds : List Kind) → (place : ℕ) → Store → ℕ
insert_split ks y st = split_of_row (length ks) (position y st) (count st) st.book

-- H rises by 1 where a tag brings the number of tags to s times r^H
unfoldable pub raised : (s r n height : ℕ) → ℕ
raised s r n h = cond (eqb n (s * r ^ h)) (suc h) h

-- REFUSAL 7 of k tags into n, where fits says which heights have labels: n + k ≥ s times r^H and b^(H + 1) > 2^32
unfoldable pub labels_end : (fits : (height : ℕ) → Bool) → (s r k n height : ℕ) → Bool
labels_end fits s r k n h = leb (s * r ^ h) (n + k) && not (fits (suc h))

-- of a row of any length, which goes in tag by tag: one of its single insertions meets it
-- (for k = 1 and 2 the same, in a sound store: RowsEnd in Promise)
unfoldable pub labels_run_out : (fits : (height : ℕ) → Bool) → (s r k n height : ℕ) → Bool
labels_run_out fits s r zero n h = false
labels_run_out fits s r (suc k) n h =
    (leb (s * r ^ h) (suc n) && not (fits (suc h))) || labels_run_out fits s r k (suc n) (raised s r (suc n) h)

-- REFUSALS, each with its test, in order; 0 where none is met (1 and 2 are the words'). Of the place; the front is allowed
unfoldable pub place_tests : (place : ℕ) → Store → List (Bool × ℕ)
place_tests y st =
    (not (eqb y no_tag) && leb (count st) y, 8)
    ∷ (not (eqb y no_tag) && (fact st y).marked, 9)
    ∷ []

-- of room for k tags; `lent` is how many words there are, and `no_labels` is whether labels do not suffice
unfoldable pub room_tests : (lent k : ℕ) → (no_labels : Bool) → Store → List (Bool × ℕ)
room_tests lent k e st =
    (ltb most_tags (count st + k) || ltb lent (words_for header_words (count st + k)), 6)
    ∷ (e, 7)
    ∷ []

-- of the call
unfoldable pub insert_refusal : (lent kind place : ℕ) → Store → ℕ
insert_refusal lent c y st =
    let k = length (insert_kinds c) in
    let no_labels = labels_end (height_fits st) st.book.s st.book.r k (count st) (height st.book) in
    first ((not (eqb c 1 || eqb c 3), 4) ∷ place_tests y st ++ room_tests lent k no_labels st) 0

-- of a row of kinds of any length
unfoldable pub row_refusal : (lent : ℕ) → (kinds : List Kind) → (place : ℕ) → Store → ℕ
row_refusal lent ks y st =
    let k = length ks in
    let no_labels = labels_run_out (height_fits st) st.book.s st.book.r k (count st) (height st.book) in
    first (place_tests y st ++ room_tests lent k no_labels st) 0

-- A SHEET is a list of kinds as the caller gives them (document 02, CR 5): 4 and 5 are as on load, before the place is looked at
unfoldable pub insert_sheet_refusal : (lent : ℕ) → (kinds : List ℕ) → (place : ℕ) → Store → ℕ
insert_sheet_refusal lent cs y st = first (kinds_tests 0 cs) (row_refusal lent (map kind_of cs) y st)

-- an empty one changes nothing, the stamp neither
unfoldable pub insert_sheet_store : (kinds : List Kind) → (place : ℕ) → Store → Store
insert_sheet_store [] y st = st
insert_sheet_store (k ∷ ks) y st = insert_store (k ∷ ks) y st
