-- What a party puts in stands strictly inside its section, by the places of the new tags, of the section's begin and of its end.
-- Assumes nothing.
use mathlib.Core.Path.{◌≡◌, refl, sym, ap, ◌∙◌}
use mathlib.Core.Bool.{true}
use mathlib.Core.List.{List, []}
use mathlib.Core.Logic.{◌⊎◌, inl, inr}
use Prim.Native.Nat.{ℕ, suc, ◌+◌, ◌-◌, ◌≤◌, ◌<◌}
use native.Mathlib.Omega.{arith}
use borrow.Author.Tests.{ne_eqb}
use lib.ListN.{length, length-append, get_or-append}
use Rattle.lists.proofs.Replied.{replied_answer}
use Rattle.store_types.proofs.Replies.{same_insert}
use Rattle.lists.specs.Lists.{numbers}
use Rattle.lists.proofs.Numbers.{length_numbers, getD_numbers}
use Rattle.lists.specs.Fronts.{in_front, replied, written}
use Rattle.store_types.specs.Limits.{no_tag}
use Rattle.store_types.specs.declared.TagId.{TagId}
use Rattle.tree.specs.Row.{place, insert_at}
use Rattle.tree_laws.proofs.Rows.{distinct_numbers, not_number_below, place_before, place_behind, place_new}
use Rattle.tree_laws.proofs.Insertion.{tags_inserted_row}
use Rattle.calls.specs.Kind.{Kind, is_begin}
use Rattle.calls.specs.Store.{Store, fact, count, row, place_of}
use Rattle.calls.specs.Nesting.{new_facts}
use Rattle.calls.specs.Insert.{insert_kinds, position, up_at, depth_at, book_after, insert_store, insert_refusal, row_refusal}
use Rattle.calls.specs.Words.{words_of, Says}
use Rattle.calls.specs.Replies.{said, insert_refused, insert_reply, insert_words}
use Rattle.calls.specs.Rights.{party_words}
use Rattle.calls.specs.Changes.{insert, refusal, changed}
use Rattle.calls.specs.Promise.{Encloses}
use Rattle.calls_laws.proofs.Tests.{Sound, sane, facts_of}
use Rattle.calls_laws.proofs.Sections.{in_row, new_apart, is_tag, mate_fits, begin_first}
use Rattle.calls_laws.proofs.Pairs.{placed}
use Rattle.calls_laws.proofs.NewFacts.{length_new_facts}
use Rattle.calls_laws.proofs.Inserts.{accepted_row, position_fits}
use Rattle.calls_laws.proofs.Steps.{kinds_nest, insert_passed, changed_sound}
use Rattle.calls_laws.proofs.WordSteps.{said_store, refusal_said, says_in_front}
use Rattle.calls_laws.proofs.Acts.{Acted, act_happened}
use Rattle.rights.specs.Promise.{was_allowed, AllowedExactly, InsideOnly}
use Rattle.rights.proofs.Allowed.{allowed_exactly}
use Rattle.store_types.specs.declared.PartyAnswer.TheVariants as heard
use Rattle.std.specs.Prelude.{Ok, Err}
use Rattle.store_types.specs.Replies.{insert_made}

-- ON STORES: k tags behind d, in a section that encloses d or whose begin it is
module _ {st : Store} (h : Sound st) (w d x : ℕ) (ks : List Kind) (passed : row_refusal w ks d st ≡ 0) (x_fits : x < count st) (d_fits : d < count st)
    (begins : is_begin (fact st x).kind ≡ true) (inside : Encloses st x d ⊎ (d ≡ x)) where
  abbrev su : Store
  su = insert_store ks d st

  abbrev ns : List ℕ
  ns = numbers (count st) (length ks)

  abbrev mate : ℕ
  mate = (fact st x).mate

  position_is : position d st ≡ suc (place_of st d)
  unfolding position
  position_is = rw (ne_eqb d no_tag (is_tag h d d_fits))

  row_is : row su ≡ insert_at (suc (place_of st d)) ns (row st)
  unfolding insert_store book_after
  row_is =
      let fits = position_fits w ks d st h (accepted_row w ks d st passed) in
      tags_inserted_row (length ks) (position d st) (count st) st.book (sane h) fits ∙ ap (λ p. insert_at p ns (row st)) position_is

  mate_is : (fact su x).mate ≡ mate
  unfolding insert_store
  mate_is = ap (λ f. f.mate) (get_or-append st.facts (new_facts (up_at d st) [] (depth_at d st) (count st) ks) _ x x_fits)

  around : (place_of st x ≤ place_of st d) × (place_of st d < place_of st mate)
  unfolding Encloses
  around = go inside
    where
      go : Encloses st x d ⊎ (d ≡ x) → (place_of st x ≤ place_of st d) × (place_of st d < place_of st mate)
      go (inl e) = (omega (arith, e.0), e.1)
      go (inr e) = rw e (omega arith, begin_first h x x_fits begins)

  counted : count su ≡ count st + length ks
  unfolding insert_store
  counted = length-append st.facts (new_facts (up_at d st) [] (depth_at d st) (count st) ks) ∙ ap (λ m. count st + m) (length_new_facts (up_at d st) [] (depth_at d st) (count st) ks)

  abbrev behind : ℕ
  behind = suc (place_of st d)

  new_place : (i : ℕ) → i < length ks → place_of su (count st + i) ≡ behind + i
  new_place i l =
      rw (row_is, ← getD_numbers (count st) (length ks) i 0 l)
      (place_new behind ns (row st) i 0 (distinct_numbers (count st) (length ks)) (new_apart h (length ks)) (placed d h d_fits) (omega (arith, length_numbers (count st) (length ks))))

  pub encloses_new : (e : ℕ) → count st ≤ e → e < count su → Encloses su x e
  unfolding Encloses
  encloses_new e low high =
      let i = e - count st in
      let e_is : count st + i ≡ e = omega (arith, low) in
      let there = rw e_is at (new_place i (omega (arith, counted, high, low))) in
      let begin_place : place_of su x ≡ place_of st x = ap (place x) row_is ∙ place_before x behind ns (row st) (in_row h x x_fits) (omega (arith, around.0)) in
      let end_place : place_of su mate ≡ length ns + place_of st mate = ap (place mate) row_is
      ∙ place_behind mate behind ns (row st) (in_row h mate (mate_fits h x x_fits)) (not_number_below mate (count st) (length ks) (mate_fits h x x_fits)) (omega (arith, around.1)) in
      let many = length_numbers (count st) (length ks) in
      rw mate_is (omega (arith, there, begin_place, around.0), omega (arith, there, end_place, many, around.1, counted, high, low))

inside_of : {A B C : Type 0} → A ⊎ (B × C) → A ⊎ C
inside_of (inl e) = inl e
inside_of (inr e) = inr e.1

-- OVER WORDS: an insertion that a party was replied was allowed, and was made as the insertion makes it
pub inside_only : InsideOnly
unfolding InsideOnly AllowedExactly Acted was_allowed Says insert_reply insert_words insert_refused written replied refusal changed
inside_only p a c x m h gs ws e =
    let d = a.tag.0 in
    let ks = insert_kinds a.kind in
    let allowed = (allowed_exactly p a c gs ws).0 (ap was_allowed e) in
    let st = allowed.store in
    let says = allowed.says in
    let (reply, new) = act_happened p a c gs (Ok (heard.Inserted (insert_made (record { 0 = x }) m h))) ws (sym e) in
    let (z, same) = replied_answer (insert_refused a.kind d ws) _ (insert_made (record { 0 = x }) m h) (sym reply) in
    let number = (same_insert same).0 in
    let first : count st ≡ x = ap count (sym (said_store ws st says)) ∙ ap (λ t. t.0) number in
    let passes = sym (refusal_said ws st says (insert_refusal (length ws) a.kind d)) ∙ z in
    let front : party_words p a c gs ws ≡ in_front (words_of (insert_store ks d st)) ws = new ∙ rw (z, said_store ws st says) in
    let good = changed_sound (length ws) (insert a.kind d) st says.0 passes in
    let sound_before = facts_of st says.0 in
    let row_passes = insert_passed (length ws) a.kind d st says.0 passes in
    let pair = allowed.asked in
    let many = counted sound_before (length ws) d a.pair.tag.0 ks row_passes pair.tag pair.other pair.begin (inside_of allowed.inside) in
    record {
      store = insert_store ks d st;
      says = rw front (says_in_front ws (insert_store ks d st) good);
      new = omega (arith, first, many, (kinds_nest a.kind).1);
      enclosed = λ y low high.
          encloses_new sound_before (length ws) d a.pair.tag.0 ks row_passes pair.tag pair.other pair.begin (inside_of allowed.inside) y (rw first low) high;
    }
