-- Writing a file and reading it, over words and replies: what is written is read back, files that are read as the same words are
-- the same, and what holds of the words before a shutdown holds of those that are read back. Assumes nothing.
use mathlib.Core.Path.{◌≡◌, refl, ap, sym, ◌∙◌}
use mathlib.Core.Bool.{true, not}
use mathlib.Core.List.{List, [], ◌++◌}
use mathlib.Core.Option.{Option, none, some}
use Prim.Native.Nat.{ℕ, ◌≤◌, ◌<◌}
use native.Mathlib.Omega.{arith}
use borrow.Author.Tests.{le-ltb, ltb-false}
use lib.Dec.{ltb}
use lib.ListN.{length, take, drop}
use lib.Seq.{take_at}
use Rattle.lists.proofs.Replied.{replied_answer}
use Rattle.store_types.specs.Limits.{word_limit}
use Rattle.store_types.specs.Layout.{header_words, words_for}
use Rattle.store_types.specs.FileLayout.{file_bytes}
use Rattle.lists.specs.Lists.{first}
use Rattle.lists.specs.Fronts.{in_front, replied, written}
use Rattle.tree.specs.Book.{height}
use Rattle.calls.specs.Store.{Store, count, row}
use Rattle.calls.specs.Sound.{sound}
use Rattle.calls.specs.Words.{words_of, Says}
use Rattle.calls.specs.File.{file_of, count_in, formed, read_file}
use Rattle.calls.specs.Replies.{on_store, store_or, said, write_refusal, write_refused, write_reply, write_bytes, file_refusal, read_reply, read_words}
use Rattle.calls.specs.Reference.{Reference}
use Rattle.calls.specs.Promise.{ReadsBack, FileReaderRight, WordsKept, FilesReadBack, FilesDiffer, ShutdownsKeep}
use Rattle.calls_laws.proofs.Tests.{passes, facts_of}
use Rattle.calls_laws.proofs.Fields.{length_words}
use Rattle.calls_laws.proofs.Reader.{reads_back}
use Rattle.calls_laws.proofs.WordSteps.{said_store, header_said, row_said, labels_said, refusal_passed, says_in_front}
use Rattle.calls_laws.proofs.Files.{length_file, file_formed, count_file, file_read, file_reader_right}
use Rattle.std.specs.Prelude.{Ok, Err}
use Rattle.store_types.proofs.Replies.{same_load}
use Rattle.store_types.specs.Replies.{load_made}

-- the words of a store in front of others
front_words : (st : Store) (rest : List ℕ) → take (words_for header_words (count st)) (words_of st ++ rest) ≡ words_of st
front_words st rest = take_at (words_of st) rest (words_for header_words (count st)) (length_words st)

-- WRITING. An accepted call is on words that say a store; the file fits, and its bytes stand in front
pub record Filed (ws bs : List ℕ) (k : ℕ) : Type 0 where
  pub says : Says ws (said ws)
  pub many : k ≡ file_bytes (count (said ws))
  pub fits : file_bytes (count (said ws)) ≤ length bs
  pub bytes : write_bytes ws bs ≡ in_front (file_of (said ws)) bs

-- the lent bytes are enough where the refusal is 0
pub file_fits : (ws bs : List ℕ) → write_refused ws bs ≡ 0 → Says ws (said ws) × (file_bytes (count (said ws)) ≤ length bs)
unfolding write_refusal write_refused
file_fits ws bs z =
    let (says, room) = refusal_passed ws (write_refusal (length bs)) z in
    (says, ltb-false (length bs) (file_bytes (count (said ws))) (passes (ltb (length bs) (file_bytes (count (said ws)))) 15 0 room).0)

pub write_accepted : (ws bs : List ℕ) (k : ℕ) → write_reply ws bs ≡ Ok k → Filed ws bs k
unfolding write_reply write_bytes written replied
write_accepted ws bs k e =
    let many = file_bytes (count (said ws)) in
    let (zero, same) = replied_answer (write_refused ws bs) many k e in
    let (says, fits) = file_fits ws bs zero in
    record { says = says; many = cc; fits = fits; bytes = rw zero }

-- so the first bytes are the file
pub file_taken : (ws bs : List ℕ) (k : ℕ) → Filed ws bs k → take k (write_bytes ws bs) ≡ file_of (said ws)
unfolding in_front Says
file_taken ws bs k f =
    let st = said ws in
    rw f.bytes (take_at (file_of st) (drop (length (file_of st)) bs) k (length_file st f.says.0 ∙ sym f.many))

-- READING. The file of a store into words that suffice
module _ (st : Store) (vs : List ℕ) (e : sound st ≡ true) (own : st.number < word_limit) (room : words_for header_words (count st) ≤ length vs) where
  accepted : file_refusal (length vs) (file_of st) ≡ 0
  unfolding file_refusal first on_store
  accepted = rw (file_formed st e own, count_file st e own, le-ltb (length vs) (words_for header_words (count st)) room, file_read st e own)

  pub reads_reply : read_reply (file_of st) vs ≡ Ok (load_made (count st) (height st.book))
  unfolding read_reply replied store_or
  reads_reply = rw (accepted, file_read st e own)

  pub reads_words : read_words (file_of st) vs ≡ in_front (words_of st) vs
  unfolding read_words written replied store_or
  reads_words = rw (accepted, file_read st e own)

-- an accepted call has read a store, whose file it is and whose words fit and stand in front
pub record WasRead (bs ws : List ℕ) (n h : ℕ) : Type 0 where
  pub store : Store
  pub good : sound store ≡ true
  pub bytes : bs ≡ file_of store
  pub issued : count store ≡ n
  pub levels : height store.book ≡ h
  pub room : words_for header_words (count store) ≤ length ws
  pub words : read_words bs ws ≡ in_front (words_of store) ws

read_zero : (bs ws : List ℕ) (n h : ℕ) → read_reply bs ws ≡ Ok (load_made n h) →
    (file_refusal (length ws) bs ≡ 0)
    × ((count (store_or (read_file bs)) ≡ n) × (height (store_or (read_file bs)).book ≡ h))
unfolding read_reply
read_zero bs ws n h e =
    let (z, same) = replied_answer (file_refusal (length ws) bs) _ (load_made n h) e in (z, same_load same)

-- a store was read where no test refuses
store_read : (o : Option Store) (lent : ℕ) (bs : List ℕ) → read_file bs ≡ o → file_refusal lent bs ≡ 0 → o ≡ some (store_or o)
unfolding file_refusal first on_store store_or
store_read none lent bs q zero =
    let lacks = (passes (ltb lent (words_for header_words (count_in bs))) 0 _ (passes (not (formed bs)) 14 _ zero).1).1 in
    absurd (omega (arith, rw q at lacks))
store_read (some st) lent bs q zero = refl

-- and the words are enough
words_enough : (lent : ℕ) (bs : List ℕ) → file_refusal lent bs ≡ 0 → words_for header_words (count_in bs) ≤ lent
unfolding file_refusal first
words_enough lent bs zero =
    ltb-false lent (words_for header_words (count_in bs))
    (passes (ltb lent (words_for header_words (count_in bs))) 0 _ (passes (not (formed bs)) 14 _ zero).1).0

pub read_accepted : (bs ws : List ℕ) (n h : ℕ) → read_reply bs ws ≡ Ok (load_made n h) → WasRead bs ws n h
unfolding FileReaderRight read_words written replied
read_accepted bs ws n h e =
    let (zero, same) = read_zero bs ws n h e in
    let right = (file_reader_right bs (store_or (read_file bs))).0 (store_read (read_file bs) (length ws) bs refl zero) in
    let many : count_in bs ≡ count (store_or (read_file bs)) = ap count_in right.2 ∙ count_file (store_or (read_file bs)) right.0 right.1 in
    record {
      store = store_or (read_file bs);
      good = right.0;
      bytes = right.2;
      issued = same.0;
      levels = same.1;
      room = rw (← many) (words_enough (length ws) bs zero);
      words = rw zero;
    }

front_read : {bs ws : List ℕ} {n h : ℕ} (a : WasRead bs ws n h) → take (words_for header_words n) (read_words bs ws) ≡ words_of a.store
unfolding in_front
front_read {ws} a = rw (a.words, ← a.issued) (front_words a.store (drop (length (words_of a.store)) ws))

-- WHAT IS WRITTEN IS READ BACK
pub files_read_back : FilesReadBack
unfolding FilesReadBack Says
files_read_back ws bs vs k own e room =
    let f = write_accepted ws bs k e in
    let st = said ws in
    let head = header_said ws st f.says in
    let small = rw head.number at own in
    let enough = rw head.issued at room in
    rw (file_taken ws bs k f, head.issued, head.levels) (
      reads_reply st vs f.says.0 small enough,
      reads_words st vs f.says.0 small enough
          ∙ ap (λ (l : List ℕ). in_front l vs) (sym (ap (take (words_for header_words (count st))) f.says.1.1 ∙ front_words st f.says.1.0)),
    )

-- FILES THAT ARE READ AS THE SAME WORDS are the same
pub files_differ : FilesDiffer
unfolding FilesDiffer ReadsBack
files_differ bs cs ws vs n h e f same =
    let a = read_accepted bs ws n h e in
    let b = read_accepted cs vs n h f in
    let words : words_of a.store ≡ words_of b.store = sym (front_read a) ∙ (same ∙ front_read b) in
    let one = reads_back a.store [] a.good in
    let two = rw (← words) at (reads_back b.store [] b.good) in
    let store : a.store ≡ b.store = cc in
    a.bytes ∙ (ap file_of store ∙ sym b.bytes)

-- A SHUTDOWN. Words that say a store hold the same of it as other words that say it
kept_by : {ws us : List ℕ} {st : Store} {a : Reference} → WordsKept ws st a → Says us st → WordsKept us st a
unfolding Says
kept_by {ws} {us} {st} {a} k g =
    let h = k.says in
    let old = header_said ws st h in
    let new = header_said us st g in
    let many : length (row st) ≡ length a.row = (facts_of st h.0).as_many ∙ (sym old.issued ∙ k.tags) in
    let tags : row st ≡ a.row = sym (row_said ws st h) ∙ rw many k.along_next in
    record {
      says = g;
      degree_s = new.degree_s ∙ (sym old.degree_s ∙ k.degree_s);
      degree_r = new.degree_r ∙ (sym old.degree_r ∙ k.degree_r);
      levels = new.levels ∙ (sym old.levels ∙ k.levels);
      tags = new.issued ∙ (sym old.issued ∙ k.tags);
      along_next = rw (← tags) (row_said us st g);
      labels_along = rw (← tags) (labels_said us st g);
    }

pub shutdowns_keep : ShutdownsKeep
unfolding ShutdownsKeep Says
shutdowns_keep ws bs vs k st a kept own e room =
    let f = write_accepted ws bs k e in
    let store = said_store ws st kept.says in
    let head = header_said ws st kept.says in
    rw (file_taken ws bs k f, store, reads_words st vs kept.says.0 (rw head.number at own) (rw head.issued at room))
    (kept_by kept (says_in_front vs st kept.says.0))
