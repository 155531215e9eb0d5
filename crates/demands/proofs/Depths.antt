-- Depths over words (document 02, CR 7): no call but a load changes that of an old tag, and an insertion's first tag has that of its
-- place. Assumes nothing.
use mathlib.Core.Path.{◌≡◌, refl, ap, sym, ◌∙◌}
use mathlib.Core.Bool.{true, false, true≢false, false≢true}
use mathlib.Core.List.{List, [], ◌∷◌, ◌++◌, map}
use Prim.Native.Nat.{ℕ, ◌≤◌, ◌<◌}
use native.Mathlib.Omega.{arith}
use borrow.Author.Tests.{eqb-true}
use lib.Dec.{eqb}
use lib.ListN.{length, length-append, length-map, get_or-append}
use lib.Seq.{get_or_at}
use Rattle.store_types.specs.Layout.{at_count, at_depth, word_at, field}
use Rattle.store_types.specs.declared.TagId.{TagId}
use Rattle.store_types.specs.declared.Act.{Act}
use Rattle.lists.proofs.Tests.{by_test}
use Rattle.calls.specs.Kind.{Kind, begin, end, text, kind_of, is_end, own_depth}
use Rattle.calls.specs.Store.{Store, Fact, no_fact, fact_in, fact, count}
use Rattle.calls.specs.Nesting.{nests, new_facts}
use Rattle.calls.specs.Insert.{insert_kinds, up_at, depth_at, insert_store, insert_sheet_store}
use Rattle.calls.specs.Mark.{mark_store}
use Rattle.calls.specs.Words.{words_of, Says}
use Rattle.calls.specs.Replies.{said, refusal_over, insert_refused, insert_reply, insert_words, insert_sheet_refused, insert_sheet_reply, insert_sheet_words}
use Rattle.calls.specs.Changes.{Change, load, insert, sheet, mark, refusal, changed}
use Rattle.calls_laws.proofs.Marks.{length_marked, level_marked}
use Rattle.calls_laws.proofs.Steps.{kinds_nest, accepted_sheet}
use Rattle.calls_laws.proofs.Acts.{Acted, act_happened}
use Rattle.calls_laws.proofs.WordSteps.{refusal_passed, header_said}
use Rattle.system.specs.System.{changes, reads, keeps, acts, restores, load_with_grants, restore_with_grants, change_words, with_words, step}
use Rattle.demands.specs.Promise.{loads_book, DepthsStay, NewDepths}
use Rattle.demands.proofs.Refusals.{change_refused, change_writes, written_stays}
use Rattle.demands.proofs.Said.{tag_said}
use Rattle.demands.proofs.Differences.{inserted_said, says_before, says_then, says_same, insert_is_sheet}
use Rattle.store_types.specs.declared.PartyAnswer.TheVariants as heard
use Rattle.std.specs.Prelude.{Result, Ok, Err}
use Rattle.store_types.specs.Replies.{insert_made}
use Rattle.store_types.specs.declared.PartyAnswer.{PartyAnswer}

-- A TAG THAT STAYS from one store to another, as deep as it was
record Stays (before after : Store) (x : ℕ) : Type 0 where
  tag : x < count after
  depth : (fact after x).depth ≡ (fact before x).depth

-- new tags stand past the old ones
insert_stays : (ks : List Kind) (y : ℕ) (st : Store) (x : ℕ) → x < count st → Stays st (insert_store ks y st) x
unfolding insert_store
insert_stays ks y st x l =
    let new = new_facts (up_at y st) [] (depth_at y st) (count st) ks in
    record { tag = omega (arith, length-append st.facts new); depth = ap (λ (t : Fact). t.depth) (get_or-append st.facts new no_fact x l) }

sheet_stays : (ks : List Kind) (y : ℕ) (st : Store) (x : ℕ) → x < count st → Stays st (insert_sheet_store ks y st) x
unfolding insert_sheet_store
sheet_stays [] y st x l = record { tag = l; depth = refl }
sheet_stays (k ∷ ks) y st x l = insert_stays (k ∷ ks) y st x l

mark_stays : (z : ℕ) (st : Store) (x : ℕ) → x < count st → Stays st (mark_store z st) x
unfolding mark_store
mark_stays z st x l = record { tag = omega (arith, length_marked st z 0 st.facts); depth = (level_marked st z 0 st.facts x).depth }

-- A CHANGE OVER WORDS whose tags stay keeps their depth words
module _ (c : Change) (ws : List ℕ) (x : ℕ) (over : change_refused c ws ≡ refusal_over ws (refusal (length ws) c))
    (stays : (st : Store) → x < count st → Stays st (changed c st) x) where
  change_keeps : x < word_at ws at_count → field (change_words c ws) x at_depth ≡ field ws x at_depth
  change_keeps l =
      by_test (eqb (change_refused c ws) 0)
      (λ t. let z = sym over ∙ eqb-true _ 0 t in
      let before = says_before c ws z in
      let old : x < count (said ws) = omega (arith, (header_said ws (said ws) before).issued) in
      let same = stays (said ws) old in
      rw (change_writes c ws, over)
      ((tag_said _ _ (says_then c ws z) x same.tag).depth_is ∙ (same.depth ∙ sym (tag_said ws (said ws) before x old).depth_is)))
      (λ t. rw (change_writes c ws, written_stays (change_refused c ws) (words_of (changed c (said ws))) ws t))

insert_keeps : (c y : ℕ) (ws : List ℕ) (x : ℕ) → x < word_at ws at_count → field (change_words (insert c y) ws) x at_depth ≡ field ws x at_depth
unfolding change_refused insert_refused refusal changed
insert_keeps c y ws x = change_keeps (insert c y) ws x refl (λ st. insert_stays (insert_kinds c) y st x)

-- a party's call inserts or leaves the words
act_keeps : (a : Act) (ws us : List ℕ) (x : ℕ) (q : Result PartyAnswer ℕ) → Acted q a ws us → x < word_at ws at_count → field us x at_depth ≡ field ws x at_depth
unfolding Acted change_words
act_keeps a ws us x (Ok (heard.Inserted i)) (made, new) l = rw new (insert_keeps a.kind a.tag.0 ws x l)
act_keeps a ws us x (Err k) same l = rw same
act_keeps a ws us x (Ok heard.Yes) same l = rw same
act_keeps a ws us x (Ok heard.Stale) same l = rw same

pub depths_stay : DepthsStay
unfolding DepthsStay loads_book step with_words change_refused insert_sheet_refused refusal changed
depths_stay (changes (load s r b cs)) y x other l = absurd (true≢false other)
depths_stay (changes (insert c z)) y x other l = insert_keeps c z y.words x l
depths_stay (changes (sheet cs z)) y x other l = change_keeps (sheet cs z) y.words x refl (λ st. sheet_stays (map kind_of cs) z st x) l
depths_stay (changes (mark z)) y x other l = change_keeps (mark z) y.words x refl (λ st. mark_stays z st x) l
depths_stay (reads r) y x other l = refl
depths_stay (keeps k) y x other l = refl
depths_stay (acts p a) y x other l = act_keeps a y.words _ x _ (act_happened p a y.count y.grants _ y.words refl) l
depths_stay (restores bs) y x other l = absurd (true≢false other)
depths_stay (load_with_grants s r b cs) y x other l = absurd (true≢false other)
depths_stay (restore_with_grants bs) y x other l = absurd (true≢false other)

-- THE FIRST NEW TAG stands past the old ones; kinds that nest do not begin with an end
past_old : (fs : List Fact) (f : Fact) (rest : List Fact) → (length fs < length (fs ++ (f ∷ rest))) × ((fact_in (fs ++ (f ∷ rest)) (length fs)).depth ≡ f.depth)
past_old fs f rest = (omega (arith, length-append fs (f ∷ rest)), ap (λ (t : Fact). t.depth) (get_or_at fs f rest no_fact (length fs) refl))

first_deep : (ks : List Kind) (y : ℕ) (st : Store) → nests 0 ks ≡ true → 1 ≤ length ks →
    (count st < count (insert_sheet_store ks y st)) × ((fact (insert_sheet_store ks y st) (count st)).depth ≡ depth_at y st)
unfolding insert_sheet_store insert_store nests new_facts own_depth is_end
first_deep [] y st n some = absurd (omega arith)
first_deep (begin ∷ ks) y st n some = past_old st.facts _ _
first_deep (end ∷ ks) y st n some = absurd (false≢true n)
first_deep (text ∷ ks) y st n some = past_old st.facts _ _

deep_said : (ks : List Kind) (y : ℕ) (st : Store) (vs : List ℕ) → Says vs (insert_sheet_store ks y st) → nests 0 ks ≡ true → 1 ≤ length ks →
    field vs (count st) at_depth ≡ depth_at y st
deep_said ks y st vs says n some =
    let (there, deep) = first_deep ks y st n some in (tag_said vs (insert_sheet_store ks y st) says (count st) there).depth_is ∙ deep

pub new_depths : NewDepths
unfolding insert_reply insert_words insert_refused insert_sheet_reply insert_sheet_words insert_sheet_refused refusal changed
new_depths = record {
  of_one = λ c y x m h ws e.
      let (z, moved, first) = inserted_said (insert_refused c y ws) _ (record { 0 = x }) _ _ m h e in
      let number : count (said ws) ≡ x = ap (λ (t : TagId). t.0) first in
      let nest = kinds_nest c in
      rw (← number)
      (deep_said (insert_kinds c) y (said ws) (insert_words c y ws) (says_same (insert_words c y ws) (insert_is_sheet c y (said ws)) (says_then (insert c y) ws z)) nest.0 nest.1);
  of_sheet = λ cs y x m h ws some e.
      let (z, moved, first) = inserted_said (insert_sheet_refused cs y ws) _ (record { 0 = x }) _ _ m h e in
      let number : count (said ws) ≡ x = ap (λ (t : TagId). t.0) first in
      let fine = accepted_sheet (length ws) cs y (said ws) (refusal_passed ws (refusal (length ws) (sheet cs y)) z).1 in
      rw (← number)
      (deep_said (map kind_of cs) y (said ws) (insert_sheet_words cs y ws) (says_then (sheet cs y) ws z) fine.nesting (omega (arith, length-map cs kind_of)));
}
