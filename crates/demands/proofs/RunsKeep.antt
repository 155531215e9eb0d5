-- Demand 3 over words and replies: each reply tells what the definitions say, the words stay those of the store, and so what holds of
-- every list of changes holds of the words. Assumes nothing.
use mathlib.Core.Path.{◌≡◌, refl, ap, sym, ◌∙◌}
use mathlib.Core.Bool.{Bool, true, false, cond}
use mathlib.Core.List.{List, [], ◌∷◌, ◌++◌, map, head_d}
use Prim.Native.Nat.{ℕ, zero, suc, ◌+◌}
use native.Mathlib.Omega.{arith}
use lib.Dec.{eqb}
use lib.ListN.{length}
use Rattle.lists.proofs.Replied.{replied_answer}
use Rattle.lists.proofs.Tests.{either_way}
use Rattle.lists.specs.Fronts.{in_front, written, replied}
use Rattle.lists.proofs.Fronts.{length_in_front}
use Rattle.lists.proofs.Replied.{length_written, read_replied}
use Rattle.store_types.specs.declared.Act.{Act}
use Rattle.calls.specs.Store.{Store}
use Rattle.calls.specs.Load.{load_refusal, load_store}
use Rattle.calls.specs.Words.{words_of, Says}
use Rattle.calls.specs.Replies.{said, load_reply, load_words, insert_refused, insert_reply, insert_words, insert_sheet_refused, insert_sheet_reply, mark_reply, file_refusal, read_reply, read_words, load_numbers, insert_numbers}
use Rattle.calls.specs.Rights.{emptied_by, party_reply}
use Rattle.calls.specs.Changes.{Change, load, insert, sheet, mark, refusal, changed, accepts, after_one, after, moved_by, moved_after, Told, judged}
use Rattle.calls.specs.Reference.{Reference}
use Rattle.calls.specs.Promise.{LoadSound, Kept, ListsKeep, WordsKept}
use Rattle.calls_laws.proofs.Tests.{facts_of}
use Rattle.calls_laws.proofs.WordSteps.{said_store, words_fit, header_said, row_said, labels_said, says_in_front, written_says}
use Rattle.calls_laws.proofs.Steps.{load_sound, changed_sound}
use Rattle.calls_laws.proofs.Acts.{Acted, act_happened}
use Rattle.calls_laws.proofs.Room.{load_fits, changed_fits}
use Rattle.calls_laws.proofs.ListsKeep.{lists_keep}
use Rattle.system.specs.System.{System, Call, changes, reads, keeps, acts, restores, load_with_grants, restore_with_grants, Reply, inserted, acted, numbers_of, refusal_in, accepted, change_reply, change_words, reply, with_words, ended_by, step}
use Rattle.system.specs.Histories.{afterwards, replies}
use Rattle.system.specs.Feed.{party_inserted, acted_in, told_of, told, total_after_insert, total_after_act, total_after, total_moved, is_restored, NoneRestored}
use Rattle.demands.specs.Promise.{RunsKeep}
use Rattle.demands.proofs.Refusals.{change_refused, change_tells, change_writes, change_said, restore_tells, written_stays}
use Rattle.store_types.specs.declared.PartyAnswer.TheVariants as heard
use Rattle.std.specs.Prelude.{Result, Ok, Err}
use Rattle.store_types.specs.Replies.{load_made, insert_made}
use Rattle.store_types.specs.declared.PartyAnswer.{PartyAnswer}

-- ONE CHANGE over words: its reply tells whether it was accepted and, with t moved before, the total u; and what is written
record Replied (w : ℕ) (c : Change) (st : Store) (yes : Bool) (t u : ℕ) (ws us : List ℕ) : Type 0 where
  right : yes ≡ accepts w c st
  total : u ≡ cond (accepts w c st) (moved_by c st t) t
  words : us ≡ written (refusal w c st) (words_of (changed c st)) ws

-- the total that a reply leaves, by its refusal
change_total : (c : Change) (ws : List ℕ) (t : ℕ) → total_after (change_reply c ws) t ≡ cond (eqb (change_refused c ws) 0) (moved_by c (said ws) t) t
unfolding total_after change_reply change_refused moved_by refusal load_reply insert_reply insert_sheet_reply mark_reply emptied_by total_after_insert
change_total (load s r b cs) ws t = read_replied Err (λ q. emptied_by q t) (load_refusal (length ws) s r cs) _
change_total (insert c y) ws t = read_replied Err (λ q. total_after_insert q t) (insert_refused c y ws) _
change_total (sheet cs y) ws t = read_replied Err (λ q. total_after_insert q t) (insert_sheet_refused cs y ws) _
change_total (mark x) ws t = sym (either_way (eqb (change_refused (mark x) ws) 0) t)

change_replied : (c : Change) (ws : List ℕ) (st : Store) (t : ℕ) → Says ws st →
    Replied (length ws) c st (accepted (change_reply c ws)) t (total_after (change_reply c ws) t) ws (change_words c ws)
unfolding accepted accepts
change_replied c ws st t h =
    let same = change_said c ws st h in
    record {
      right = ap (λ k. eqb k 0) (change_tells c ws ∙ same);
      total = change_total c ws t ∙ rw (same, said_store ws st h);
      words = change_writes c ws ∙ rw (same, said_store ws st h);
    }

-- A RUN over words from a store on, told change by change, where t tags were moved before and u after
record Ran (w : ℕ) (st : Store) (t : ℕ) (ts : List Told) (u : ℕ) (end : List ℕ) : Type 0 where
  refused_right : ts ≡ judged w (map (λ x. x.0) ts) st
  moved_right : u ≡ moved_after w (map (λ x. x.0) ts) st t
  says : Says end (after w (map (λ x. x.0) ts) st)

-- the words after a change say the store after it, and are as many
change_says : {c : Change} {st : Store} {q : Bool} {t v : ℕ} {ws us : List ℕ} → Says ws st → Replied (length ws) c st q t v ws us →
    Says us (after_one (length ws) c st) × (length us ≡ length ws)
unfolding after_one accepts Says
change_says {c} {st} {ws} h one =
    let w = length ws in
    let good = changed_sound w c st h.0 in (
      rw one.words (written_says ws st (changed c st) (refusal w c st) h good),
      rw one.words
          (length_written (refusal w c st) (words_of (changed c st)) ws (λ e. changed_fits w c st h.0 (words_fit ws st h) e (good e))),
    )

-- a change and the run after it
ran_on : {w : ℕ} {c : Change} {st : Store} {q : Bool} {t v u : ℕ} {ts : List Told} {ws us end : List ℕ} → length ws ≡ w → Says ws st →
    Replied (length ws) c st q t v ws us → (length us ≡ w → Says us (after_one w c st) → Ran w (after_one w c st) v ts u end) →
    Ran w st t ((c, q) ∷ ts) u end
unfolding judged moved_after after
ran_on {w} {c} {st} {ts} l h one onward =
    let next = change_says h one in
    let rest = onward (next.1 ∙ l) (rw l at next.0) in
    let told_right = rw l at one.right in
    record {
      refused_right = rw told_right (ap (λ x. (c, accepts w c st) ∷ x) rest.refused_right);
      moved_right = rest.moved_right ∙ ap (moved_after w (map (λ x. x.0) ts) (after_one w c st)) (rw l at one.total);
      says = rest.says;
    }

-- A PARTY'S CALL is the insertion that it replies, or leaves all; U is the total in the end by the total after the call
act_on : {w : ℕ} {st : Store} {t : ℕ} {ts : List Told} {end : List ℕ} (p : ℕ) (a : Act) (ws us : List ℕ) (q : Result PartyAnswer ℕ) (U : ℕ → ℕ) → length ws ≡ w → Says ws st →
    Acted q a ws us → ((su : Store) (v : ℕ) → length us ≡ w → Says us su → Ran w su v ts (U v) end) →
    Ran w st t (told_of (acts p a) (acted q) ++ ts) (U (total_after (acted q) t)) end
unfolding Acted told_of acted_in party_inserted total_after total_after_act total_after_insert change_reply change_words accepted numbers_of refusal_in insert_numbers head_d
act_on {st} {t} p a ws us (Ok (heard.Inserted i)) U l says (made, new) onward =
    let one = rw (← made) at (change_replied (insert a.kind a.tag.0) ws st t says) in
    ran_on l says one (λ m g. onward _ _ (rw new m) (rw new g))
act_on {st} {t} p a ws us (Err k) U l says same onward = onward st t (rw same l) (rw same says)
act_on {st} {t} p a ws us (Ok heard.Yes) U l says same onward = onward st t (rw same l) (rw same says)
act_on {st} {t} p a ws us (Ok heard.Stale) U l says same onward = onward st t (rw same l) (rw same says)

-- THE READING OF A FILE that is refused leaves the words and the total
restore_stays : (bs ws : List ℕ) → eqb (refusal_in (load_numbers (read_reply bs ws))) 0 ≡ false → read_words bs ws ≡ ws
unfolding read_words
restore_stays bs ws e = written_stays (file_refusal (length ws) bs) _ ws (rw (restore_tells bs ws) at e)

restore_total : (bs ws : List ℕ) (t : ℕ) → eqb (refusal_in (load_numbers (read_reply bs ws))) 0 ≡ false → emptied_by (read_reply bs ws) t ≡ t
unfolding read_reply emptied_by
restore_total bs ws t e =
    read_replied Err (λ q. emptied_by q t) (file_refusal (length ws) bs) _ ∙ rw (rw (restore_tells bs ws) at e)

total_as : {w : ℕ} {st : Store} {t v : ℕ} {ts : List Told} {end : List ℕ} (U : ℕ → ℕ) → v ≡ t → Ran w st t ts (U t) end → Ran w st t ts (U v) end
total_as U e run = rw e run

-- EVERY LIST OF CALLS from words that say a store
ran : (w : ℕ) (cs : List Call) (y : System) (st : Store) (t : ℕ) → length y.words ≡ w → Says y.words st → NoneRestored cs y →
    Ran w st t (told cs y) (total_moved t (replies step reply cs y)) (afterwards step cs y).words
unfolding told told_of total_moved total_after replies afterwards reply step with_words ended_by NoneRestored is_restored accepted numbers_of judged moved_after after change_reply change_words
ran w [] y st t l h n = record { refused_right = refl; moved_right = refl; says = h }
ran w (changes c ∷ cs) y st t l h n =
    ran_on l h (change_replied c y.words st t h) (λ m g. ran w cs (step (changes c) y) _ _ m g n.1)
ran w (reads r ∷ cs) y st t l h n = ran w cs y st t l h n.1
ran w (keeps k ∷ cs) y st t l h n = ran w cs (step (keeps k) y) st t l h n.1
ran w (acts p a ∷ cs) y st t l h n =
    let z = step (acts p a) y in
    act_on p a y.words z.words (party_reply p a y.count y.grants y.words) (λ v. total_moved v (replies step reply cs z)) l h
    (act_happened p a y.count y.grants _ y.words refl) (λ su v m g. ran w cs z su v m g n.1)
ran w (restores bs ∷ cs) y st t l h n =
    let same = restore_stays bs y.words n.0 in
    let z = step (restores bs) y in
    total_as (λ v. total_moved v (replies step reply cs z)) (restore_total bs y.words t n.0) (ran w cs z st t (rw same l) (rw same h) n.1)
ran w (load_with_grants s r b ks ∷ cs) y st t l h n =
    ran_on l h (change_replied (load s r b ks) y.words st t h) (λ m g. ran w cs (step (load_with_grants s r b ks) y) _ _ m g n.1)
ran w (restore_with_grants bs ∷ cs) y st t l h n =
    let same = restore_stays bs y.words n.0 in
    let z = step (restore_with_grants bs) y in
    total_as (λ v. total_moved v (replies step reply cs z)) (restore_total bs y.words t n.0) (ran w cs z st t (rw same l) (rw same h) n.1)

-- words that say a kept store hold what the reference list says
words_kept : {ws : List ℕ} {st : Store} {a : Reference} {t : ℕ} → Says ws st → Kept st a t → WordsKept ws st a
unfolding Says
words_kept {ws} {st} h k =
    let head = header_said ws st h in
    record {
      says = h;
      degree_s = head.degree_s ∙ k.degree_s;
      degree_r = head.degree_r ∙ k.degree_r;
      levels = head.levels ∙ k.levels;
      tags = head.issued ∙ (sym (facts_of st h.0).as_many ∙ ap length k.tags);
      along_next = rw (← k.tags) (row_said ws st h);
      labels_along = rw (← k.tags) (labels_said ws st h);
    }

-- the words after an accepted load, whatever they held before
load_says : (s r b n h : ℕ) (ks old : List ℕ) → load_reply s r b ks old ≡ Ok (load_made n h) →
    (load_refusal (length old) s r ks ≡ 0) × Says (load_words s r b ks old) (load_store s r b ks) × (length (load_words s r b ks old) ≡ length old)
unfolding LoadSound load_reply load_words written replied
load_says s r b n h ks old reply =
    let k = load_refusal (length old) s r ks in
    let passed = (replied_answer k _ (load_made n h) reply).0 in
    let st = load_store s r b ks in
    let good = load_sound (length old) s r b ks passed in
    let front : load_words s r b ks old ≡ in_front (words_of st) old = rw passed in (
      passed,
      rw front (says_in_front old st good),
      rw front (length_in_front (words_of st) old (load_fits (length old) s r b ks passed good)),
    )

-- THE THIRD DEMAND
pub runs_keep : RunsKeep
unfolding RunsKeep ListsKeep
runs_keep s r b n h ks old cs y reply new none =
    let (passed, says, many) = load_says s r b n h ks old reply in
    let done = ran (length old) cs y (load_store s r b ks) 0 (rw new many) (rw new says) none in
    let keeps = lists_keep (length old) s r b ks (map (λ t. t.0) (told cs y)) passed in
    let kept = rw (← done.refused_right, ← done.moved_right) at keeps in
    record { refused_right = done.refused_right; words = words_kept done.says kept; kept = kept }
