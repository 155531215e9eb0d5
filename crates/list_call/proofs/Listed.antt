-- What list lists: the unmarked tags between where its passes start and where they stop. Assumes nothing.
use mathlib.Core.Path.{◌≡◌, refl, ap, sym, ◌∙◌}
use mathlib.Core.Bool.{Bool, true, false, ◌||◌, cond, true≢false, and-false, or-true}
use mathlib.Core.List.{List, [], ◌∷◌, ◌++◌, append_assoc, append-nil}
use Prim.Native.Nat.{ℕ, suc, ◌≤◌, ◌<◌}
use native.Mathlib.Omega.{arith}
use borrow.Author.Tests.{lt-ltb, le-ltb, eqb-true}
use lib.Dec.{ltb, eqb}
use lib.ListN.{length, take, drop, take-append-drop, get_or-eq_default}
use lib.Seq.{slice, take-length, take-take, length-take-le, length-slice}
use Rattle.store_types.specs.Limits.{no_tag}
use Rattle.lists.specs.Lists.{those}
use Rattle.lists.proofs.Tests.{by_test}
use Rattle.lists.proofs.Those.{those_append}
use Rattle.store_types.specs.Layout.{at_first, at_next, at_mate, word_at, field}
use Rattle.tree.specs.Row.{member}
use Rattle.tree_laws.proofs.Rows.{member_first, member_later, place_le, place_of_member, getD_place}
use Rattle.calls.specs.Store.{Store, fact, row, place_of, next_in}
use Rattle.calls.specs.Held.{encloses}
use Rattle.calls.specs.Listing.{is_listed, listed_tags}
use Rattle.calls.specs.Words.{Says}
use Rattle.calls.specs.Replies.{refusal_over, said}
use Rattle.calls_laws.proofs.Tests.{Sound}
use Rattle.calls_laws.proofs.Sections.{place_first_part, place_middle_part, place_last_part, distinct_row, in_row, begin_first, mate_fits}
use Rattle.calls_laws.proofs.WordSteps.{header_said}
use Rattle.store_refuse.specs.Needs.{TagSaid}
use Rattle.list_call.specs.Needs.{SpanSaid, unmarked, unmarked_between, inside_refusal, first_inside, stop_of}
use Rattle.store_refuse.proofs.Laws.{accepted_says, accepted_store, sound_said, words_of_tag}
use Rattle.list_call.proofs.Along.{no_tag_last, place_there, stands_there}
use Rattle.list_call.proofs.ListRefusals.{BeginAccepted, accepted_inside}

-- a part with all its tags inside, or all outside
listed_part : (st : Store) (x : ℕ) (t : Bool) (ds : List ℕ) → ((d : ℕ) → member d ds ≡ true → (eqb x no_tag || encloses st x d) ≡ t) →
    those (is_listed st x) ds ≡ cond t (unmarked st ds) []
unfolding those is_listed
listed_part st x true [] all = refl
listed_part st x false [] all = refl
listed_part st x true (d ∷ ds) all =
    let rest = listed_part st x true ds (λ e m. all e (member_later e d ds m)) in
    by_test (fact st d).marked (λ m. rw (all d (member_first d ds), m, rest)) (λ m. rw (all d (member_first d ds), m, rest))
listed_part st x false (d ∷ ds) all =
    rw (all d (member_first d ds), listed_part st x false ds (λ e m. all e (member_later e d ds m)))

pub listed_whole : (st : Store) → listed_tags no_tag st ≡ unmarked st (row st)
unfolding listed_tags
listed_whole st = listed_part st no_tag true (row st) (λ d m. refl)

-- a list in three
parts : (p q : ℕ) (l : List ℕ) → p ≤ q → l ≡ take p l ++ (slice p q l ++ drop q l)
parts p q l o =
    sym (take-append-drop q l)
    ∙ (ap (λ (r : List ℕ). r ++ drop q l) (sym (take-append-drop p (take q l)) ∙ ap (λ (r : List ℕ). r ++ slice p q l) (take-take p q l o))
    ∙ append_assoc (take p l) (slice p q l) (drop q l))

-- A BEGIN: its mate stands behind it, and what it encloses stands between them
module _ {st : Store} (h : Sound st) (x : ℕ) (ok : BeginAccepted x st) where
  pub mate_behind : place_of st x < place_of st (fact st x).mate
  mate_behind = begin_first h x ok.tag ok.begins

  -- the row in three: up to the begin, between it and its mate, from the mate on
  pub listed_inside : listed_tags x st ≡ unmarked st (slice (suc (place_of st x)) (place_of st (fact st x).mate) (row st))
  unfolding listed_tags encloses
  listed_inside =
      let all = row st in
      let p = suc (place_of st x) in
      let q = place_of st (fact st x).mate in
      let first = take p all in
      let middle = slice p q all in
      let last = drop q all in
      let whole = parts p q all mate_behind in
      let to_first = length-take-le p all (place_of_member x all (in_row h x ok.tag)) in
      let to_middle = length-slice p q all (place_le (fact st x).mate all) in
      ap (those (is_listed st x)) whole
      ∙ (those_append (is_listed st x) first (middle ++ last)
      ∙ rw (
        those_append (is_listed st x) middle last,
        listed_part st x false first (λ d m. rw (ok.other, le-ltb (place_of st x) (place_of st d) (omega (arith, place_first_part all first middle last whole (distinct_row h) d m)))),
        listed_part st x true middle (λ d m. let at = place_middle_part all first middle last whole (distinct_row h) d m in
            rw (lt-ltb (place_of st x) (place_of st d) (omega (arith, at.0)), lt-ltb (place_of st d) q (omega (arith, at.1, mate_behind))) (or-true (eqb x no_tag))),
        listed_part st x false last (λ d m. rw (ok.other, le-ltb (place_of st d) q (omega (arith, mate_behind, place_last_part all first middle last whole (distinct_row h) d m))) (and-false (ltb (place_of st x) (place_of st d)))),
      )
      (append-nil (unmarked st middle)))

-- WHERE THE PASSES of an accepted list RUN, and that they find what is listed
module _ (ws : List ℕ) (x : ℕ) (e : refusal_over ws (inside_refusal x) ≡ 0) where
  says_here : Says ws (said ws)
  says_here = accepted_says ws (inside_refusal x) e

  sound_here : Sound (said ws)
  sound_here = sound_said ws says_here

  ok_here : inside_refusal x (said ws) ≡ 0
  ok_here = accepted_store ws (inside_refusal x) e

  pub span_of : SpanSaid ws (first_inside x (said ws)) (stop_of x (said ws))
  unfolding first_inside stop_of next_in
  span_of =
      let st = said ws in
      let h = sound_here in
      accepted_inside x st ok_here
      (λ front. rw front (record {
        says = says_here;
        from = stands_there h 0 (omega arith);
        to = rw (no_tag_last h) (get_or-eq_default (row st) no_tag {n = length (row st)} (omega arith));
        order = rw (place_there h 0 (omega arith)) (omega arith);
      }))
      (λ inner. let p = suc (place_of st x) in
      let fits : p ≤ length (row st) = place_of_member x (row st) (in_row h x inner.tag) in
      rw inner.other (record {
        says = says_here;
        from = stands_there h p fits;
        to = getD_place (fact st x).mate (row st) no_tag (in_row h (fact st x).mate (mate_fits h x inner.tag));
        order = rw (place_there h p fits) (mate_behind h x inner);
      }))

  pub listed_is : listed_tags x (said ws) ≡ unmarked_between (said ws) (first_inside x (said ws)) (stop_of x (said ws))
  unfolding first_inside stop_of next_in unmarked_between
  listed_is =
      let st = said ws in
      let h = sound_here in
      accepted_inside x st ok_here
      (λ front. rw (front, eqb-true x no_tag front, place_there h 0 (omega arith), no_tag_last h, take-length (row st)) (listed_whole st))
      (λ inner. rw (inner.other, place_there h (suc (place_of st x)) (place_of_member x (row st) (in_row h x inner.tag))) (listed_inside h x inner))

  -- a begin is a tag, and what its passes start and stop at
  pub begin_tag : eqb x no_tag ≡ false → TagSaid ws x
  begin_tag t =
      accepted_inside x (said ws) ok_here (λ front. absurd (true≢false (sym front ∙ t))) (λ inner. record { says = says_here; tag = inner.tag })

  pub first_front : eqb x no_tag ≡ true → word_at ws at_first ≡ first_inside x (said ws)
  unfolding first_inside
  first_front t = (header_said ws (said ws) says_here).first ∙ rw t

  pub first_behind : (t : eqb x no_tag ≡ false) → field ws x at_next ≡ first_inside x (said ws)
  unfolding first_inside
  first_behind t = (words_of_tag (begin_tag t)).next_word ∙ rw t

  pub stop_behind : eqb x no_tag ≡ true → x ≡ stop_of x (said ws)
  unfolding stop_of
  stop_behind t = rw t (eqb-true x no_tag t)

  pub stop_mate : (t : eqb x no_tag ≡ false) → field ws x at_mate ≡ stop_of x (said ws)
  unfolding stop_of
  stop_mate t = (words_of_tag (begin_tag t)).mate_word ∙ rw t
