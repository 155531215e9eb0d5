-- What mark replies and writes, by the refusal that comes first. Assumes nothing.
use mathlib.Core.Path.{◌≡◌, ap, ◌∙◌}
use mathlib.Core.List.{List, ◌++◌}
use Prim.Native.Nat.{ℕ, ◌+◌, ◌≤◌, ◌<◌}
use native.Mathlib.Omega.{arith}
use lib.ListN.{length, set}
use Rattle.store_types.specs.Limits.{most_tags}
use Rattle.store_types.specs.Layout.{at_count, at_stamp, header_words, word_at, Records}
use Rattle.lists.specs.Fronts.{in_front, replied, written}
use Rattle.words.proofs.Fields.{header_fits}
use Rattle.calls.specs.Store.{Store, count}
use Rattle.calls.specs.Mark.{section_refusal, mark_store, mark_count}
use Rattle.calls.specs.Words.{words_of, Says}
use Rattle.calls.specs.Replies.{refusal_over, said, mark_reply, mark_words}
use Rattle.calls_laws.proofs.Tests.{Sound, facts_of}
use Rattle.calls_laws.proofs.Fields.{header_says}
use Rattle.calls_laws.proofs.Sections.{Section, section}
use Rattle.calls_laws.proofs.Marks.{marked_few, accepted_section}
use Rattle.calls_laws.proofs.WordSteps.{refusal_passed, words_fit, header_said}
use Rattle.mark_call.specs.Run.{mark_each, count_new, tags_of}
use Rattle.mark_call.proofs.Each.{length_each, each_header}
use Rattle.mark_call.proofs.Own.{own_tags}
use Rattle.mark_call.proofs.Written.{marked_words}
use Rattle.mark_call.proofs.Counted.{counted}
use Rattle.std.specs.Prelude.{Ok}

-- THE SECTION of an unmarked begin or text x: its tags are those that mark goes along, and so mark counts those that
-- become marked and writes the words of the marked store
module _ (st : Store) (h : Sound st) (rest : List ℕ) (x : ℕ) (r : section_refusal x st ≡ 0) where
  abbrev own : Section st x
  own = let a = accepted_section x st r in section h x a.tag a.begins

  tags_along : tags_of (word_at (words_of st ++ rest) at_count) (words_of st ++ rest) x ≡ own.own
  tags_along = rw (header_says st rest).issued (own_tags h rest x (accepted_section x st r).tag own)

  count_along : count_new (words_of st ++ rest) (tags_of (word_at (words_of st ++ rest) at_count) (words_of st ++ rest) x) ≡ mark_count x st
  count_along = rw tags_along (counted h x own rest)

  words_along : (vs : List ℕ) → vs ≡ mark_each (words_of st ++ rest) (tags_of (word_at (words_of st ++ rest) at_count) (words_of st ++ rest) x) →
      set vs at_stamp (word_at vs at_stamp + 1) ≡ in_front (words_of (mark_store x st)) (words_of st ++ rest)
  words_along vs put = rw (put, tags_along) (marked_words h x own rest)

-- on words that say the store
module _ (ws : List ℕ) (st : Store) (says : Says ws st) (x : ℕ) (r : section_refusal x st ≡ 0) where
  count_said : count_new ws (tags_of (word_at ws at_count) ws x) ≡ mark_count x st
  unfolding Says
  count_said = rw says.1.1 (count_along st (facts_of st says.0) says.1.0 x r)

  words_said : (vs : List ℕ) → vs ≡ mark_each ws (tags_of (word_at ws at_count) ws x) → set vs at_stamp (word_at vs at_stamp + 1) ≡ in_front (words_of (mark_store x st)) ws
  unfolding Says
  words_said = rw says.1.1 (words_along st (facts_of st says.0) says.1.0 x r)

-- ACCEPTED: what the words hold before; the tag is one of n, each with its record, and the stamp can be raised
pub record Accepted (x : ℕ) (ws : List ℕ) : Type 0 where
  pub tag : x < word_at ws at_count
  pub records : Records ws (word_at ws at_count)
  pub header : header_words ≤ length ws
  pub stamp : word_at ws at_stamp ≤ most_tags + most_tags

pub accepted : (x : ℕ) (ws : List ℕ) → refusal_over ws (section_refusal x) ≡ 0 → Accepted x ws
unfolding Says
accepted x ws none =
    let p = refusal_passed ws (section_refusal x) none in
    let h = facts_of (said ws) p.0.0 in
    let head = header_said ws (said ws) p.0 in
    let fit = words_fit ws (said ws) p.0 in
    record {
      tag = rw head.issued (accepted_section x (said ws) p.1).tag;
      records = rw head.issued (record { few = h.few; long = fit });
      header = omega (arith, header_fits (count (said ws)));
      stamp = rw head.stamp (omega (arith, h.stamp_fits, h.few, marked_few (said ws).facts));
    }

-- AND AFTER: n tags are newly marked and the words are vs, in which the stamp is still to be raised
pub record Done (x : ℕ) (ws : List ℕ) (n : ℕ) (vs : List ℕ) : Type 0 where
  pub there : header_words ≤ length vs
  pub same : word_at vs at_stamp ≤ most_tags + most_tags
  pub replies : (Ok n ≡ mark_reply x ws) × (set vs at_stamp (word_at vs at_stamp + 1) ≡ mark_words x ws)

pub done : (x : ℕ) (ws : List ℕ) {n : ℕ} {vs : List ℕ} → refusal_over ws (section_refusal x) ≡ 0 →
    n ≡ count_new ws (tags_of (word_at ws at_count) ws x) → vs ≡ mark_each ws (tags_of (word_at ws at_count) ws x) → Done x ws n vs
unfolding mark_reply mark_words written replied
done x ws {vs = vs} none new put =
    let before = accepted x ws none in
    let tags = tags_of (word_at ws at_count) ws x in
    let same = ap (λ us. word_at us at_stamp) put ∙ each_header ws tags at_stamp (omega arith) in
    let p = refusal_passed ws (section_refusal x) none in
    record {
      there = omega (arith, before.header, ap length put ∙ length_each ws tags);
      same = omega (arith, before.stamp);
      replies = rw none (ap Ok (new ∙ count_said ws (said ws) p.0 x p.1), words_said ws (said ws) p.0 x p.1 vs put);
    }
