-- Sheets (document 02, CR 5): when labels do not suffice for a row of any length, what the empty sheet does, and that a text and an
-- element are sheets. Assumes nothing.
use mathlib.Core.Path.{◌≡◌, refl, ap, ◌∙◌}
use mathlib.Core.Bool.{Bool, true, false, ◌&&◌, ◌||◌, not, or-true, and-false}
use mathlib.Core.List.{[], ◌∷◌}
use Prim.Native.Nat.{ℕ, zero, suc, ◌+◌, ◌*◌, ◌^◌, ◌≤◌, ◌<◌}
use native.Mathlib.Omega.{arith}
use borrow.Author.Tests.{eqb-true, eqb-false, lt-ltb, le-ltb, ltb-false, lt-leb, le-leb}
use lib.Dec.{ltb, eqb}
use lib.ListN.{length}
use Rattle.store_types.specs.Limits.{most_tags}
use Rattle.store_types.specs.Layout.{header_words, words_for}
use Rattle.lists.specs.Lists.{first}
use Rattle.lists.proofs.Tests.{by_test}
use Rattle.lists.specs.Fronts.{written, replied}
use Rattle.tree.specs.Book.{height, split_of_row}
use Rattle.tree.specs.Grown.{height_for}
use Rattle.tree_laws.proofs.RowHeight.{next_limit, search_least, least_one}
use Rattle.calls.specs.Kind.{is_kind, kind_of}
use Rattle.calls.specs.Store.{Store, count, height_fits}
use Rattle.calls.specs.Nesting.{nests}
use Rattle.calls.specs.Sound.{sound}
use Rattle.calls.specs.Load.{all_kinds, kinds_tests}
use Rattle.calls.specs.Insert.{insert_kinds, insert_split, raised, labels_run_out, place_tests, room_tests, insert_refusal, row_refusal, insert_sheet_refusal, insert_sheet_store}
use Rattle.calls.specs.Words.{words_of, Says}
use Rattle.calls.specs.Replies.{said, insert_refused, insert_reply, insert_words, insert_sheet_refused, insert_sheet_reply, insert_sheet_words}
use Rattle.calls.specs.Promise.{RowsEnd, least_height, SheetsRunOut, EmptySheet, SinglesAreSheets}
use Rattle.calls_laws.proofs.Widths.{fits_below}
use Rattle.calls_laws.proofs.Tests.{facts_of, root_limits}
use Rattle.calls_laws.proofs.Inserts.{rows_end}
use Rattle.calls_laws.proofs.Moved.{moved_nothing}
use Rattle.calls_laws.proofs.WordSteps.{words_fit, refusal_passed, refusal_same, front_same}

-- REFUSAL 7 of a row, by the least height with room for all tags: labels that fit at a height fit below it
module _ (fits : (height : ℕ) → Bool) (below : (i j : ℕ) → i ≤ j → fits j ≡ true → fits i ≡ true) (s r : ℕ) (s_least : 2 ≤ s) (r_least : 2 ≤ r) where
  no_tags : (n h : ℕ) → labels_run_out fits s r 0 n h ≡ false
  unfolding labels_run_out
  no_tags n h = refl

  -- the first tag brings the root to its limit, or leaves it below
  first_full : (k n h : ℕ) → eqb (suc n) (s * r ^ h) ≡ true →
      labels_run_out fits s r (suc k) n h ≡ (not (fits (suc h)) || labels_run_out fits s r k (suc n) (suc h))
  unfolding labels_run_out raised
  first_full k n h t = rw (t, le-leb (s * r ^ h) (suc n) (omega (arith, eqb-true (suc n) (s * r ^ h) t)))

  first_room : (k n h : ℕ) → suc n < s * r ^ h → eqb (suc n) (s * r ^ h) ≡ false → labels_run_out fits s r (suc k) n h ≡ labels_run_out fits s r k (suc n) h
  unfolding labels_run_out raised
  first_room k n h l t = rw (t, lt-leb (s * r ^ h) (suc n) l)

  -- a root that is split ends where the last height does not fit
  higher : (h top : ℕ) → suc h ≤ top → (not (fits (suc h)) || (ltb (suc h) top && not (fits top))) ≡ not (fits top)
  higher h top l =
      by_test (fits top)
      (λ u. rw (u, below (suc h) top l u, and-false (ltb (suc h) top)))
      (λ u. by_test (ltb (suc h) top)
      (λ t. rw (t, u, or-true (not (fits (suc h)))))
      (λ t. let same : top ≡ suc h = omega (arith, ltb-false (suc h) top t) in rw (t, u, rw same at u)))

  pub run_out_least : (k n h : ℕ) → n < s * r ^ h →
      labels_run_out fits s r k n h ≡ (ltb h (height_for k s r (n + k) h) && not (fits (height_for k s r (n + k) h)))
  unfolding height_for
  run_out_least zero n h l = no_tags n h ∙ rw (le-ltb h h (omega arith))
  run_out_least (suc k) n h l =
      let sum : suc n + k ≡ n + suc k = omega arith in
      by_test (eqb (suc n) (s * r ^ h))
      (λ t.
      let full = eqb-true (suc n) (s * r ^ h) t in
      let more = next_limit s r h s_least r_least in
      let top = height_for k s r (n + suc k) (suc h) in
      let above : suc h ≤ top = (search_least k s r (n + suc k) (suc h) s_least r_least (omega arith)).low in
      let rest = rw sum at (run_out_least k (suc n) (suc h) (omega arith)) in
      first_full k n h t ∙ rw (rest, le-ltb (n + suc k) (s * r ^ h) (omega arith), lt-ltb h top (omega arith)) (higher h top above))
      (λ t.
      let room : suc n < s * r ^ h = omega (arith, eqb-false (suc n) (s * r ^ h) t) in
      let rest = rw sum at (run_out_least k (suc n) h room) in
      let same : height_for k s r (n + suc k) h ≡ height_for (suc k) s r (n + suc k) h =
      least_one r_least (search_least k s r (n + suc k) h s_least r_least (omega arith)) (search_least (suc k) s r (n + suc k) h s_least r_least (omega arith)) in
      first_room k n h room t ∙ (rest ∙ ap (λ top. ltb h top && not (fits top)) same))

pub sheets_run_out : SheetsRunOut
unfolding SheetsRunOut least_height
sheets_run_out st k e =
    let h = facts_of st e in
    run_out_least (height_fits st) (λ i j. fits_below st i j h.degrees) st.book.s st.book.r h.degrees.s_least h.degrees.r_least k (count st) (height st.book) (root_limits h).0

-- THE EMPTY SHEET: of a sound store with room for its own words only the place is tested
empty_refusal : (w y : ℕ) (st : Store) → count st ≤ most_tags → words_for header_words (count st) ≤ w → insert_sheet_refusal w [] y st ≡ first (place_tests y st) 0
unfolding insert_sheet_refusal kinds_tests all_kinds nests row_refusal place_tests room_tests first labels_run_out
empty_refusal w y st few room =
    let own : count st + 0 ≡ count st = omega arith in
    rw (own, le-ltb most_tags (count st) few, le-ltb w (words_for header_words (count st)) room)

pub empty_sheet : EmptySheet
unfolding EmptySheet insert_sheet_refused insert_sheet_reply insert_sheet_words insert_sheet_store written replied insert_split split_of_row Says
empty_sheet y ws = record {
  refused = refusal_same ws (insert_sheet_refusal (length ws) [] y) _ (λ st h. empty_refusal (length ws) y st (facts_of st h.0).few (words_fit ws st h));
  words = go (insert_sheet_refused [] y ws) refl;
  reply = λ z. rw (z, moved_nothing y (said ws));
}
  where
    go : (k : ℕ) → insert_sheet_refused [] y ws ≡ k → written k (words_of (said ws)) ws ≡ ws
    go zero z = front_same ws (said ws) (refusal_passed ws (insert_sheet_refusal (length ws) [] y) z).0
    go (suc k) z = refl

-- A TEXT AND AN ELEMENT: the same refusals, on a sound store
text_refusal : (w y : ℕ) (st : Store) → sound st ≡ true → insert_refusal w 3 y st ≡ insert_sheet_refusal w (3 ∷ []) y st
unfolding insert_refusal insert_sheet_refusal row_refusal kinds_tests all_kinds is_kind nests kind_of insert_kinds first RowsEnd
text_refusal w y st e = rw (rows_end st 1 e (omega arith) (omega arith))

element_refusal : (w y : ℕ) (st : Store) → sound st ≡ true → insert_refusal w 1 y st ≡ insert_sheet_refusal w (1 ∷ 2 ∷ []) y st
unfolding insert_refusal insert_sheet_refusal row_refusal kinds_tests all_kinds is_kind nests kind_of insert_kinds first RowsEnd
element_refusal w y st e = rw (rows_end st 2 e (omega arith) (omega arith))

pub singles_are_sheets : SinglesAreSheets
unfolding SinglesAreSheets insert_refused insert_reply insert_words insert_sheet_refused insert_sheet_reply insert_sheet_words insert_sheet_store insert_kinds kind_of Says
singles_are_sheets y ws =
    let text = refusal_same ws (insert_refusal (length ws) 3 y) (insert_sheet_refusal (length ws) (3 ∷ []) y) (λ st h. text_refusal (length ws) y st h.0) in
    let element = refusal_same ws (insert_refusal (length ws) 1 y) (insert_sheet_refusal (length ws) (1 ∷ 2 ∷ []) y) (λ st h. element_refusal (length ws) y st h.0) in
    (record { reply = rw text; words = rw text }, record { reply = rw element; words = rw element })
