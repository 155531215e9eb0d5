-- The tags between two along next: where they stand, and one step of a pass along them. Assumes nothing.
use mathlib.Core.Path.{◌≡◌, refl, ap, sym, ◌∙◌}
use mathlib.Core.Bool.{not}
use mathlib.Core.List.{List, [], ◌∷◌, ◌++◌}
use Prim.Native.Nat.{ℕ, suc, ◌≤◌, ◌<◌}
use native.Mathlib.Omega.{arith}
use borrow.Author.Tests.{ltb-true, ltb-false, le-leb, lt-leb}
use lib.Dec.{ltb}
use lib.ListN.{length, get_or, get_or-eq_default}
use lib.Seq.{slice, slice_empty, slice-cons, length-slice}
use Rattle.store_types.specs.Limits.{no_tag, most_tags}
use Rattle.lists.specs.Lists.{those}
use Rattle.lists.proofs.Tests.{by_test}
use Rattle.lists.proofs.Those.{those_append}
use Rattle.store_types.specs.Layout.{at_count, at_next, at_kind, word_at, field}
use Rattle.tree_laws.proofs.Rows.{place_le, member_of_place, place_getD}
use Rattle.calls.specs.Store.{Store, fact, row, place_of, next_in}
use Rattle.calls.specs.Words.{Says}
use Rattle.calls.specs.Replies.{said}
use Rattle.calls_laws.proofs.Tests.{Sound}
use Rattle.calls_laws.proofs.WordSteps.{header_said}
use Rattle.calls_laws.proofs.Sections.{distinct_row, row_below, is_tag}
use Rattle.store_refuse.specs.Needs.{TagSaid}
use Rattle.list_call.specs.Needs.{HasPlace, SpanSaid, unmarked, unmarked_between}
use Rattle.store_refuse.proofs.Laws.{sound_said, words_of_tag, kind_of_tag}

-- PLACES: no tag stands behind the last, and of each place what stands there
module _ {st : Store} (h : Sound st) where
  pub no_tag_last : place_of st no_tag ≡ length (row st)
  no_tag_last =
      by_test (ltb (place_of st no_tag) (length (row st)))
      (λ t. absurd (is_tag h no_tag (row_below h no_tag (member_of_place no_tag (row st) (ltb-true _ _ t))) refl))
      (λ t. omega (arith, ltb-false (place_of st no_tag) (length (row st)) t, place_le no_tag (row st)))

  pub place_there : (i : ℕ) → i ≤ length (row st) → place_of st (get_or (row st) i no_tag) ≡ i
  place_there i l =
      by_test (ltb i (length (row st)))
      (λ t. place_getD (row st) i no_tag (distinct_row h) (ltb-true _ _ t))
      (λ t. let last : i ≡ length (row st) = omega (arith, ltb-false i (length (row st)) t) in
      rw (get_or-eq_default (row st) no_tag {n = i} (omega arith)) (no_tag_last ∙ sym last))

  pub stands_there : (i : ℕ) → i ≤ length (row st) → HasPlace st (get_or (row st) i no_tag)
  stands_there i l = rw (place_there i l)

-- ONE STEP of a pass from x to y that is not done
module _ {ws : List ℕ} {x y : ℕ} (h : SpanSaid ws x y) (on : x ≡ y → ⊥) where
  sound_here : Sound (said ws)
  sound_here = sound_said ws h.says

  pub not_last : place_of (said ws) x < place_of (said ws) y
  not_last =
      by_test (ltb (place_of (said ws) x) (place_of (said ws) y)) (λ t. ltb-true _ _ t)
      (λ t. let same : place_of (said ws) x ≡ place_of (said ws) y = omega (arith, h.order, ltb-false (place_of (said ws) x) (place_of (said ws) y) t) in
      absurd (on (sym h.from ∙ (rw same h.to))))

  in_row : suc (place_of (said ws) x) ≤ length (row (said ws))
  in_row = omega (arith, not_last, place_le y (row (said ws)))

  pub tag_on : TagSaid ws x
  tag_on = record { says = h.says; tag = row_below sound_here x (member_of_place x (row (said ws)) in_row) }

  next_there : field ws x at_next ≡ get_or (row (said ws)) (suc (place_of (said ws) x)) no_tag
  unfolding next_in
  next_there = (words_of_tag tag_on).next_word

  pub place_next : place_of (said ws) (field ws x at_next) ≡ suc (place_of (said ws) x)
  place_next = rw next_there (place_there sound_here (suc (place_of (said ws) x)) in_row)

  pub span_next : SpanSaid ws (field ws x at_next) y
  span_next =
      record {
        says = h.says;
        from = rw next_there (stands_there sound_here (suc (place_of (said ws) x)) in_row);
        to = h.to;
        order = rw place_next not_last;
      }

-- WHAT A PASS FINDS: the unmarked tags, at most as many as there are tags
unmarked_fewer : (st : Store) (ds : List ℕ) → length (unmarked st ds) ≤ length ds
unfolding those
unmarked_fewer st [] = omega arith
unmarked_fewer st (d ∷ ds) =
    by_test (fact st d).marked (λ m. rw m (omega (arith, unmarked_fewer st ds))) (λ m. rw m (omega (arith, unmarked_fewer st ds)))

-- of one tag, by its kind word
pub one_marked : {ws : List ℕ} {x : ℕ} → TagSaid ws x → 16 ≤ field ws x at_kind → unmarked (said ws) (x ∷ []) ≡ []
unfolding those
one_marked {ws} {x} h m = rw (sym (kind_of_tag h).marks ∙ le-leb 16 (field ws x at_kind) m)

pub one_unmarked : {ws : List ℕ} {x : ℕ} → TagSaid ws x → field ws x at_kind < 16 → unmarked (said ws) (x ∷ []) ≡ x ∷ []
unfolding those
one_unmarked {ws} {x} h m = rw (sym (kind_of_tag h).marks ∙ lt-leb 16 (field ws x at_kind) m)

-- of all that the book has
pub between_all : (ws : List ℕ) (x y : ℕ) → Says ws (said ws) → length (unmarked_between (said ws) x y) ≤ word_at ws at_count
unfolding unmarked_between
between_all ws x y says =
    let st = said ws in
    omega (
      arith,
      unmarked_fewer st (slice (place_of st x) (place_of st y) (row st)),
      length-slice (place_of st x) (place_of st y) (row st) (place_le y (row st)),
      place_le y (row st),
      (sound_said ws says).as_many,
      (header_said ws st says).issued,
    )

pub between_few : (ws : List ℕ) (x y : ℕ) → Says ws (said ws) → length (unmarked_between (said ws) x y) ≤ most_tags
between_few ws x y says = omega (arith, between_all ws x y says, (header_said ws (said ws) says).issued, (sound_said ws says).few)

pub between_done : (st : Store) (x : ℕ) → unmarked_between st x x ≡ []
unfolding unmarked_between those
between_done st x = rw (slice_empty (place_of st x) (row st))

pub between_next : {ws : List ℕ} {x y : ℕ} (h : SpanSaid ws x y) → (x ≡ y → ⊥) →
    unmarked_between (said ws) x y ≡ unmarked (said ws) (x ∷ []) ++ unmarked_between (said ws) (field ws x at_next) y
unfolding unmarked_between
between_next {ws} {x} {y} h on =
    let st = said ws in
    let q = place_of st y in
    rw (place_next h on)
    (ap (unmarked st) (slice-cons (place_of st x) q (row st) no_tag (not_last h on) (place_le y (row st))
    ∙ rw h.from)
    ∙ those_append (λ d. not (fact st d).marked) (x ∷ []) _)
