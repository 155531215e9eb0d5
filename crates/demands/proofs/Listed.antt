-- List over words: what it writes are the unmarked tags that next meets inside the section, with their label words.
-- Assumes nothing.
use mathlib.Core.Path.{◌≡◌, refl, ap, sym, ◌∙◌}
use mathlib.Core.Bool.{true, false, not, false≢true, and-false}
use mathlib.Core.List.{List, [], ◌∷◌, ◌++◌, map, append_assoc, append-nil}
use mathlib.Core.Logic.{inl, inr}
use Prim.Native.Nat.{ℕ, suc, ◌+◌, ◌<◌}
use native.Mathlib.Omega.{arith}
use borrow.Author.Tests.{lt-ltb, le-ltb, leb-false, not-false, eqb-true, eqb-false}
use lib.Dec.{leb, eqb}
use lib.ListN.{length, take, drop, length-append}
use Rattle.lists.proofs.Replied.{replied_answer}
use Rattle.lists.specs.Lists.{first, those}
use Rattle.store_types.specs.Limits.{no_tag}
use Rattle.lists.proofs.Tests.{by_test}
use Rattle.lists.proofs.Those.{those_append}
use Rattle.lists.specs.Fronts.{replied}
use Rattle.store_types.specs.Layout.{label_at}
use Rattle.tree.specs.Row.{member, place}
use Rattle.tree_laws.proofs.Rows.{member_first, member_later, member_append, member_of_drop}
use Rattle.calls.specs.Kind.{is_begin}
use Rattle.calls.specs.Store.{Store, fact, count, row, place_of, label}
use Rattle.calls.specs.Held.{encloses}
use Rattle.calls.specs.Listing.{is_listed, listed_tags, listed_labels, inside_tests, list_refusal}
use Rattle.calls.specs.Words.{Says}
use Rattle.calls.specs.Replies.{said, refusal_over, list_refused, list_reply, list_tags, list_labels}
use Rattle.calls_laws.proofs.Tests.{Sound, passes}
use Rattle.calls_laws.proofs.Nesting.{Step, begins, ends, stands, Closed}
use Rattle.calls_laws.proofs.Sections.{place_at, place_first_part, place_middle_part, place_last_part, distinct_row, row_below, row_at, At, pass_at, closed_at}
use Rattle.calls_laws.proofs.Around.{those_none}
use Rattle.calls_laws.proofs.WordSteps.{refusal_passed}
use Rattle.demands.specs.Words.{is_marked, unmarked_of, Inside}
use Rattle.demands.specs.Promise.{ListRight}
use Rattle.demands.proofs.Said.{sound_said, tag_said, book_row}
use Rattle.demands.proofs.EveryCall.{list_fronted}
use Rattle.demands.proofs.Asked.{marked_said, label_said}
use Rattle.std.specs.Prelude.{Ok, Err}

-- THE LISTED TAGS of a row, part by part
listed_unmarked : (st : Store) (ws : List ℕ) (x : ℕ) (xs : List ℕ) → ((d : ℕ) → member d xs ≡ true → is_listed st x d ≡ not (is_marked ws d)) →
    those (is_listed st x) xs ≡ unmarked_of ws xs
unfolding those unmarked_of
listed_unmarked st ws x [] told = refl
listed_unmarked st ws x (d ∷ ds) told =
    let rest = listed_unmarked st ws x ds (λ v m. told v (member_later v d ds m)) in
    by_test (is_marked ws d) (λ e. rw (told d (member_first d ds), e) rest)
    (λ e. rw (told d (member_first d ds), e) (ap (λ (v : List ℕ). d ∷ v) rest))

-- labels of tags, by their words
labels_same : (f g : ℕ → ℕ) (ws xs : List ℕ) → ((d : ℕ) → member d xs ≡ true → f d ≡ g d) → map f (unmarked_of ws xs) ≡ map g (unmarked_of ws xs)
unfolding unmarked_of those
labels_same f g ws [] same = refl
labels_same f g ws (d ∷ ds) same =
    let rest = labels_same f g ws ds (λ v m. same v (member_later v d ds m)) in
    by_test (is_marked ws d) (λ e. rw e rest) (λ e. rw (e, same d (member_first d ds), rest))

-- WHAT STANDS INSIDE a section, and is listed
record Found (ws : List ℕ) (st : Store) (x : ℕ) : Type 0 where
  inside : List ℕ
  met : Inside ws x inside
  tags : (d : ℕ) → member d inside ≡ true → d < count st
  listed : listed_tags x st ≡ unmarked_of ws inside

module _ (ws : List ℕ) (st : Store) (h : Says ws st) where
  own : Sound st
  own = sound_said ws st h

  -- from the front all
  all_found : (x : ℕ) → eqb x no_tag ≡ true → Found ws st x
  unfolding listed_tags is_listed Inside
  all_found x e =
      record {
        inside = row st;
        met = inl (eqb-true x no_tag e, (book_row ws st h).next);
        tags = row_below own;
        listed = listed_unmarked st ws x (row st) (λ d m. rw (e, marked_said ws st h d (row_below own d m)));
      }

  module _ (x : ℕ) (l : x < count st) (other : eqb x no_tag ≡ false) (c : Closed st.facts x x (drop (suc (place_of st x)) (row st))) where
    abbrev mate : ℕ
    mate = (fact st x).mate

    abbrev before : List ℕ
    before = take (place_of st x) (row st)

    abbrev front : List ℕ
    front = before ++ (x ∷ [])

    whole : row st ≡ before ++ (x ∷ (c.inside ++ (mate ∷ c.behind)))
    whole = row_at own x l ∙ ap (λ (zs : List ℕ). before ++ (x ∷ zs)) c.whole

    in_parts : row st ≡ front ++ (c.inside ++ (mate ∷ c.behind))
    in_parts = whole ∙ sym (append_assoc before (x ∷ []) (c.inside ++ (mate ∷ c.behind)))

    -- the places of the section's own two tags
    starts : suc (place_of st x) ≡ length front
    starts =
        let e = ap (place x) whole ∙ place_at before x _ (rw whole at (distinct_row own)) in
        omega (arith, length-append before (x ∷ []))

    stops : place_of st mate ≡ length front + length c.inside
    stops =
        let e : row st ≡ (front ++ c.inside) ++ (mate ∷ c.behind) = in_parts ∙ sym (append_assoc front c.inside (mate ∷ c.behind)) in
        ap (place mate) e ∙ (place_at (front ++ c.inside) mate c.behind (rw e at (distinct_row own)) ∙ length-append front c.inside)

    not_before : (d : ℕ) → member d front ≡ true → is_listed st x d ≡ false
    unfolding is_listed encloses
    not_before d m =
        let p = place_first_part (row st) front c.inside (mate ∷ c.behind) in_parts (distinct_row own) d m in
        rw (other, le-ltb (place_of st x) (place_of st d) (omega (arith, starts)))

    not_behind : (d : ℕ) → member d (mate ∷ c.behind) ≡ true → is_listed st x d ≡ false
    unfolding is_listed encloses
    not_behind d m =
        let p = place_last_part (row st) front c.inside (mate ∷ c.behind) in_parts (distinct_row own) d m in
        rw (other, le-ltb (place_of st d) (place_of st mate) (omega (arith, stops)), and-false)

    below : (d : ℕ) → member d c.inside ≡ true → d < count st
    below d m = row_below own d (member_of_drop d (suc (place_of st x)) (row st) (rw (c.whole, member_append d c.inside (mate ∷ c.behind), m)))

    inside_listed : (d : ℕ) → member d c.inside ≡ true → is_listed st x d ≡ not (is_marked ws d)
    unfolding is_listed encloses
    inside_listed d m =
        let p = place_middle_part (row st) front c.inside (mate ∷ c.behind) in_parts (distinct_row own) d m in
        rw (
          other,
          lt-ltb (place_of st x) (place_of st d) (omega (arith, starts)),
          lt-ltb (place_of st d) (place_of st mate) (omega (arith, stops)),
          marked_said ws st h d (below d m),
        )

    section_found : Found ws st x
    unfolding listed_tags Inside
    section_found =
        let parted = those_append (is_listed st x) front (c.inside ++ (mate ∷ c.behind)) in
        let later = those_append (is_listed st x) c.inside (mate ∷ c.behind) in
        let met = rw (whole ∙ sym (append_assoc before (x ∷ c.inside) (mate ∷ c.behind))) at (book_row ws st h).next in
        record {
          inside = c.inside;
          met = inr (eqb-false x no_tag other, (before, c.behind, rw (tag_said ws st h x l).mate_word met));
          tags = below;
          listed =
              ap (those (is_listed st x)) in_parts
              ∙ (parted
              ∙ rw (
                later,
                those_none (is_listed st x) front not_before,
                those_none (is_listed st x) (mate ∷ c.behind) not_behind,
                listed_unmarked st ws x c.inside inside_listed,
                append-nil (unmarked_of ws c.inside),
              ));
        }

  -- a begin has such a section
  closes : (x : ℕ) (l : x < count st) → is_begin (fact st x).kind ≡ true → (a : At st x) → Step st.facts no_tag a.before x a.behind →
      Closed st.facts x x (drop (suc (place_of st x)) (row st))
  unfolding is_begin
  closes x l e a (begins s) = closed_at own x l a s
  closes x l e a (ends shut s) = absurd (false≢true (rw s.kind at e))
  closes x l e a (stands s) = absurd (false≢true (rw s.kind at e))

  found : (t u x : ℕ) → list_refusal t u x st ≡ 0 → Found ws st x
  unfolding list_refusal inside_tests first
  found t u x z =
      by_test (eqb x no_tag) (all_found x)
      (λ e. let a = passes (leb (count st) x) 7 _ (rw e at z) in
      let b = passes (fact st x).marked 8 _ a.1 in
      let g = passes (not (is_begin (fact st x).kind)) 9 _ b.1 in
      let l = leb-false (count st) x a.0 in
      let at = pass_at own x l in
      section_found x l e (closes x l (not-false _ g.0) at at.step))

-- what an accepted list writes
pub list_right : ListRight
unfolding ListRight list_reply list_refused listed_labels
list_right x n ws ts ls e =
    let st = said ws in
    let refusal = list_refusal (length ts) (length ls) x in
    let (z, many) = replied_answer (refusal_over ws refusal) _ n e in
    let (h, fine) = refusal_passed ws refusal z in
    let f = found ws st h (length ts) (length ls) x fine in
    let wrote = list_fronted x ws ts ls z in
    let labels_are : map (label st) (unmarked_of ws f.inside) ≡ map (label_at ws) (unmarked_of ws f.inside) =
    labels_same (label st) (label_at ws) ws f.inside (λ d m. sym (label_said ws st h d (f.tags d m))) in
    record {
      inside = f.inside;
      met = f.met;
      counted = sym many ∙ ap length f.listed;
      tags = rw f.listed at wrote.0;
      labels = rw (f.listed, labels_are) at wrote.1;
    }
