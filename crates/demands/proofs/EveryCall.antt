-- Demand 1 over any system: what each of the calls leaves. Assumes nothing.
use mathlib.Core.Path.{◌≡◌, refl, ap, sym, ◌∙◌}
use mathlib.Core.Bool.{Bool, true, false, ◌&&◌, ◌||◌, not, true≢false}
use mathlib.Core.List.{List, [], ◌∷◌, map, head_d}
use Prim.Native.Nat.{ℕ, zero, suc, ◌≤◌}
use native.Mathlib.Omega.{arith}
use borrow.Author.Tests.{ltb-false, eqb-true}
use lib.Dec.{ltb, leb, eqb}
use lib.ListN.{length, drop, length-map}
use lib.Seq.{take-append_seam, drop-append_seam}
use Rattle.lists.specs.Lists.{first}
use Rattle.lists.proofs.Tests.{or_left_false, or_right_false}
use Rattle.lists.specs.Fronts.{in_front, replied, written}
use Rattle.lists.proofs.Fronts.{length_in_front}
use Rattle.lists.proofs.Replied.{first_number, read_replied}
use Rattle.store_types.specs.Limits.{no_tag}
use Rattle.store_types.specs.declared.Act.{Act}
use Rattle.tree.specs.Book.{height}
use Rattle.calls.specs.Kind.{is_begin}
use Rattle.calls.specs.Store.{Store, fact, count, label}
use Rattle.calls.specs.Sound.{sound}
use Rattle.calls.specs.Load.{load_refusal, load_store}
use Rattle.calls.specs.Listing.{listed_tags, listed_labels, inside_tests, list_refusal}
use Rattle.calls.specs.Words.{words_of, Says}
use Rattle.calls.specs.File.{file_of, read_file}
use Rattle.calls.specs.Replies.{said, refusal_over, insert_refused, insert_sheet_refused, load_reply, list_refused, list_reply, list_tags, list_labels, write_refused, write_reply, write_bytes, store_or, file_refusal, read_reply, read_words, load_numbers, insert_numbers}
use Rattle.calls.specs.Rights.{grant_refused, grant_reply, grant_list, grant_count, revoke_refused, revoke_reply, revoke_list, revoke_count, party_reply, party_numbers, emptied_by}
use Rattle.calls.specs.Changes.{Change, load, insert, sheet, mark, refusal, changed}
use Rattle.calls.specs.Promise.{LoadSound}
use Rattle.calls_laws.proofs.Tests.{passes}
use Rattle.calls_laws.proofs.Steps.{load_sound, changed_sound}
use Rattle.calls_laws.proofs.WordSteps.{words_fit, refusal_passed}
use Rattle.calls_laws.proofs.Files.{length_file}
use Rattle.calls_laws.proofs.Fields.{length_words}
use Rattle.calls_laws.proofs.FileCalls.{file_fits, WasRead, read_accepted}
use Rattle.calls_laws.proofs.Acts.{Acted, act_happened}
use Rattle.calls_laws.proofs.Room.{load_fits, changed_fits}
use Rattle.system.specs.System.{System, Reading, hold, ask, list, write, Keeping, grant, revoke, lend, Call, changes, reads, keeps, acts, restores, load_with_grants, restore_with_grants, Reply, inserted, acted, finding_numbers, keeping_numbers, numbers_of, refusal_in, accepted, change_reply, change_words, finding, reading_lists, keeping, kept_grants, kept_count, reply, with_words, ended_by, step}
use Rattle.system.specs.Feed.{party_inserted, acted_in}
use Rattle.demands.specs.Words.{Fronted}
use Rattle.demands.specs.Promise.{writes_words, Filling, fillings, AllFronted, ListsRight, CallRight, EveryCall, EveryReading}
use Rattle.demands.proofs.Refusals.{change_refused, change_tells, change_writes, restore_tells, written_stays}
use Rattle.store_types.specs.declared.PartyAnswer.TheVariants as heard
use Rattle.std.specs.Prelude.{Result, Ok, Err}
use Rattle.store_types.specs.Replies.{load_made, insert_made, count_numbers}
use Rattle.store_types.specs.declared.PartyAnswer.{PartyAnswer}

-- A RESULT IN FRONT, where it fits
fronted : (new old : List ℕ) → length new ≤ length old → Fronted new old (in_front new old)
unfolding in_front
fronted new old l =
    record {
      as_many = length_in_front new old l;
      front = take-append_seam new (drop (length new) old);
      past = drop-append_seam new (drop (length new) old);
    }

written_fronted : (k : ℕ) (new old : List ℕ) → length new ≤ length old → k ≡ 0 → Fronted new old (written k new old)
unfolding written replied
written_fronted k new old l z = rw z (fronted new old l)

-- CHANGES. An accepted one leaves a sound store, which fits: a load on any words, the others on the store that the words say
over_right : (c : Change) (ws : List ℕ) → refusal_over ws (refusal (length ws) c) ≡ 0 →
    (sound (changed c (said ws)) ≡ true) × (length (words_of (changed c (said ws))) ≤ length ws)
unfolding Says
over_right c ws z =
    let (says, fine) = refusal_passed ws (refusal (length ws) c) z in
    let good = changed_sound (length ws) c (said ws) says.0 fine in
    (good, changed_fits (length ws) c (said ws) says.0 (words_fit ws (said ws) says) fine good)

change_right : (c : Change) (ws : List ℕ) → change_refused c ws ≡ 0 →
    (sound (changed c (said ws)) ≡ true) × (length (words_of (changed c (said ws))) ≤ length ws)
unfolding change_refused insert_refused insert_sheet_refused refusal changed LoadSound
change_right (load s r b cs) ws z = let good = load_sound (length ws) s r b cs z in (good, load_fits (length ws) s r b cs z good)
change_right (insert c x) ws z = over_right (insert c x) ws z
change_right (sheet cs x) ws z = over_right (sheet cs x) ws z
change_right (mark x) ws z = over_right (mark x) ws z

-- so the words after it are right
change_front : (c : Change) (ws : List ℕ) → accepted (change_reply c ws) ≡ true →
    (st : Store) × (sound st ≡ true) × Fronted (words_of st) ws (change_words c ws)
unfolding accepted
change_front c ws e =
    let z = sym (change_tells c ws) ∙ eqb-true _ 0 e in
    let (good, fits) = change_right c ws z in
    (changed c (said ws), good, rw (change_writes c ws) (written_fronted (change_refused c ws) _ ws fits z))

change_stays : (c : Change) (ws : List ℕ) → accepted (change_reply c ws) ≡ false → change_words c ws ≡ ws
unfolding accepted
change_stays c ws e = change_writes c ws ∙ written_stays (change_refused c ws) _ ws (rw (change_tells c ws) at e)

-- READINGS. Lists that a refusal decides
module _ (k : ℕ) where
  all_stay : (fs : List Filling) → (k ≡ 0 → ⊥) → map (λ (f : Filling). written k f.new f.old) fs ≡ map (λ f. f.old) fs
  unfolding written replied
  all_stay fs n = go k n
    where
      go : (j : ℕ) → (j ≡ 0 → ⊥) → map (λ (f : Filling). written j f.new f.old) fs ≡ map (λ f. f.old) fs
      go zero m = absurd (m refl)
      go (suc j) m = refl

  AllRoom : List Filling → Type 0
  AllRoom [] = Unit {0}
  AllRoom (f ∷ fs) = (length f.new ≤ length f.old) × AllRoom fs

  all_front : (fs : List Filling) → k ≡ 0 → AllRoom fs → AllFronted fs (map (λ (f : Filling). written k f.new f.old) fs)
  unfolding AllFronted AllRoom
  all_front [] z room = refl
  all_front (f ∷ fs) z room = (_, _, refl, written_fronted k f.new f.old room.0 z, all_front fs z room.1)

-- the lists of a reading whose refusal is k
lists_by : (r : Reading) (ws : List ℕ) (k : ℕ) → refusal_in (finding_numbers (finding r ws)) ≡ k →
    reading_lists r ws ≡ map (λ (f : Filling). written k f.new f.old) (fillings r (said ws)) → (k ≡ 0 → AllRoom k (fillings r (said ws))) → ListsRight r ws
lists_by r ws k tells new room =
    record {
      stay = λ n. new ∙ all_stay k (fillings r (said ws)) (λ z. n (tells ∙ z));
      filled = λ z. let zero_is = sym tells ∙ z in rw new (all_front k (fillings r (said ws)) zero_is (room zero_is));
    }

-- an accepted list fits both lent lists, an accepted file the lent bytes
list_fits : (t l x : ℕ) (st : Store) → list_refusal t l x st ≡ 0 → (length (listed_tags x st) ≤ t) × (length (listed_labels x st) ≤ l)
unfolding list_refusal inside_tests first listed_labels
list_fits t l x st z =
    let n = length (listed_tags x st) in
    let a = passes (not (eqb x no_tag) && leb (count st) x) 7 _ z in
    let b = passes (not (eqb x no_tag) && (fact st x).marked) 8 _ a.1 in
    let c = passes (not (eqb x no_tag) && not (is_begin (fact st x).kind)) 9 _ b.1 in
    let f = (passes (ltb t n || ltb l n) 10 0 c.1).0 in (
      ltb-false t n (or_left_false (ltb t n) (ltb l n) f),
      omega (arith, ltb-false l n (or_right_false (ltb t n) (ltb l n) f), length-map (listed_tags x st) (label st)),
    )

list_room : (x : ℕ) (ws ts ls : List ℕ) → list_refused x ws ts ls ≡ 0 → (length (listed_tags x (said ws)) ≤ length ts) × (length (listed_labels x (said ws)) ≤ length ls)
unfolding list_refused
list_room x ws ts ls z = list_fits (length ts) (length ls) x (said ws) (refusal_passed ws (list_refusal (length ts) (length ls) x) z).1

pub list_fronted : (x : ℕ) (ws ts ls : List ℕ) → list_refused x ws ts ls ≡ 0 →
    Fronted (listed_tags x (said ws)) ts (list_tags x ws ts ls) × Fronted (listed_labels x (said ws)) ls (list_labels x ws ts ls)
unfolding list_tags list_labels
list_fronted x ws ts ls z =
    let room = list_room x ws ts ls z in
    (written_fronted (list_refused x ws ts ls) _ ts room.0 z, written_fronted (list_refused x ws ts ls) _ ls room.1 z)

write_room : (ws bs : List ℕ) → write_refused ws bs ≡ 0 → length (file_of (said ws)) ≤ length bs
unfolding Says
write_room ws bs z = let (says, room) = file_fits ws bs z in omega (arith, length_file (said ws) says.0)

lists_right : (r : Reading) (ws : List ℕ) → ListsRight r ws
unfolding finding finding_numbers refusal_in reading_lists fillings AllRoom list_reply list_tags list_labels count_numbers write_reply write_bytes head_d
lists_right (hold x) ws = lists_by (hold x) ws _ refl refl (λ z. tt)
lists_right (ask p d) ws = lists_by (ask p d) ws _ refl refl (λ z. tt)
lists_right (list x ts ls) ws =
    lists_by (list x ts ls) ws (list_refused x ws ts ls) (first_number Err count_numbers (list_refused x ws ts ls) _ (λ i. refl) refl) refl
    (λ z. let room = list_room x ws ts ls z in (room.0, (room.1, tt)))
lists_right (write bs) ws =
    lists_by (write bs) ws (write_refused ws bs) (first_number Err count_numbers (write_refused ws bs) _ (λ i. refl) refl) refl
    (λ z. (write_room ws bs z, tt))

-- GRANTS: a refused call leaves the list and the count
grants_stay : (k : Keeping) (y : System) → eqb (refusal_in (keeping_numbers (keeping k y))) 0 ≡ false →
    (kept_grants k y ≡ y.grants) × (kept_count k y ≡ y.count)
unfolding keeping keeping_numbers kept_grants kept_count refusal_in grant_reply grant_list grant_count revoke_reply revoke_list revoke_count count_numbers head_d
grants_stay (grant p x q) y e =
    let k = grant_refused p x q y.count (length y.grants) y.words in
    let told = rw (first_number Err count_numbers k (Ok (suc y.count)) (λ i. refl) refl) at e in
    (read_replied (λ _. y.grants) (λ g. g) k _ ∙ rw told, read_replied (λ _. y.count) (λ c. c) k _ ∙ rw told)
grants_stay (revoke p x) y e =
    let k = revoke_refused p y.count (length y.grants) in
    let told = rw (first_number Err count_numbers k _ (λ i. refl) refl) at e in
    (read_replied (λ _. y.grants) (λ g. g) k _ ∙ rw told, read_replied (λ _. y.count) (λ c. c) k _ ∙ rw told)
grants_stay (lend gs c) y e = absurd (true≢false e)

-- THE READING OF A FILE
read_zero_told : (bs ws : List ℕ) → file_refusal (length ws) bs ≡ 0 →
    WasRead bs ws (count (store_or (read_file bs))) (height (store_or (read_file bs)).book)
unfolding read_reply replied
read_zero_told bs ws z = read_accepted bs ws _ _ (rw z)

pub every_reading : EveryReading
unfolding EveryReading accepted numbers_of read_words
every_reading bs ws =
    let k = file_refusal (length ws) bs in
    let st = store_or (read_file bs) in
    record {
      refused = λ e. written_stays k (words_of st) ws (rw (restore_tells bs ws) at e);
      restored = λ e. let a = read_zero_told bs ws (sym (restore_tells bs ws) ∙ eqb-true _ 0 e) in (
        a.store,
        a.good,
        a.bytes,
        rw a.words (fronted (words_of a.store) ws (omega (arith, length_words a.store, a.room))),
      );
    }

restore_front : (bs ws : List ℕ) → eqb (refusal_in (load_numbers (read_reply bs ws))) 0 ≡ true →
    (st : Store) × (sound st ≡ true) × Fronted (words_of st) ws (read_words bs ws)
unfolding EveryReading accepted numbers_of
restore_front bs ws e = let (st, good, same, front) = (every_reading bs ws).restored e in (st, good, front)

-- a refused load or reading leaves the count
count_stays : (k n h c : ℕ) → eqb k 0 ≡ false → emptied_by (replied Err k (Ok (load_made n h))) c ≡ c
unfolding emptied_by
count_stays k n h c e = read_replied Err (λ q. emptied_by q c) k (Ok (load_made n h)) ∙ rw e

-- EVERY CALL. One that may write the words; and one that leaves them
writing_right : (c : Call) (y : System) → writes_words c (reply c y) ≡ true → (accepted (reply c y) ≡ false → step c y ≡ y) →
    (accepted (reply c y) ≡ true → (st : Store) × (sound st ≡ true) × Fronted (words_of st) y.words (step c y).words) → CallRight c y
writing_right c y alters stays fronts =
    record {
      refused = stays;
      changed = λ e _. fronts e;
      others = λ f. absurd (true≢false (sym alters ∙ f));
      lists = λ r _. lists_right r y.words;
    }

quiet_right : (c : Call) (y : System) → writes_words c (reply c y) ≡ false → (accepted (reply c y) ≡ false → step c y ≡ y) → (step c y).words ≡ y.words → CallRight c y
quiet_right c y quiet stays same =
    record {
      refused = stays;
      changed = λ _ alters. absurd (true≢false (sym alters ∙ quiet));
      others = λ _. same;
      lists = λ r _. lists_right r y.words;
    }

-- a party's, by its reply
act_right : (p : ℕ) (a : Act) (y : System) (q : Result PartyAnswer ℕ) → party_reply p a y.count y.grants y.words ≡ q →
    Acted q a y.words (step (acts p a) y).words → CallRight (acts p a) y
unfolding reply writes_words acted_in party_inserted accepted numbers_of party_numbers refusal_in insert_numbers Acted step with_words change_reply change_words head_d
act_right p a y (Ok (heard.Inserted i)) e (made, new) =
    let front = change_front (insert a.kind a.tag.0) y.words (rw (← made)) in
    writing_right (acts p a) y (rw e) (λ f. absurd (true≢false (rw e at f))) (λ _. rw new front)
act_right p a y (Err k) e same = quiet_right (acts p a) y (rw e) (λ _. rw same) same
act_right p a y (Ok heard.Yes) e same = quiet_right (acts p a) y (rw e) (λ _. rw same) same
act_right p a y (Ok heard.Stale) e same = quiet_right (acts p a) y (rw e) (λ _. rw same) same

pub every_call : EveryCall
unfolding EveryCall EveryReading reply step with_words ended_by writes_words accepted numbers_of change_reply change_words change_refused load_reply read_reply refusal_in load_numbers
every_call (changes c) y = writing_right (changes c) y refl (λ e. rw (change_stays c y.words e)) (change_front c y.words)
every_call (reads r) y = quiet_right (reads r) y refl (λ _. refl) refl
every_call (keeps k) y = quiet_right (keeps k) y refl (λ e. let same = grants_stay k y e in rw (same.0, same.1)) refl
every_call (acts p a) y =
    act_right p a y _ refl (act_happened p a y.count y.grants _ y.words refl)
every_call (restores bs) y =
    writing_right (restores bs) y refl (λ e. rw ((every_reading bs y.words).refused e)) (restore_front bs y.words)
every_call (load_with_grants s r b cs) y =
    writing_right (load_with_grants s r b cs) y refl
    (λ e. rw (change_stays (load s r b cs) y.words e, count_stays (load_refusal (length y.words) s r cs) _ _ y.count (rw (change_tells (load s r b cs) y.words) at e)))
    (change_front (load s r b cs) y.words)
every_call (restore_with_grants bs) y =
    writing_right (restore_with_grants bs) y refl
    (λ e. rw ((every_reading bs y.words).refused e, count_stays (file_refusal (length y.words) bs) _ _ y.count (rw (restore_tells bs y.words) at e)))
    (restore_front bs y.words)
