-- The demands over any words, and what the words hold. Each statement is a type, proved in proofs/. Assumes nothing.
use Rattle.std.specs.Prelude.{◌≡◌, Bool, true, false, List, [], ◌∷◌, map, ◌↔◌, ◌⊎◌, ℕ, ◌%◌, ◌≤◌, ◌<◌, length, Ok}
use Rattle.store_types.specs.declared.HeldPair.{HeldPair}
use Rattle.store_types.specs.declared.Answer.TheVariants.{Yes, No, Stale}
use Rattle.store_types.specs.Layout.{at_count, at_book, header_words, at_mate, at_kind, at_depth, word_at, field, label_at}
use Rattle.calls.specs.Store.{Store}
use Rattle.calls.specs.Sound.{sound}
use Rattle.calls.specs.Load.{load_store}
use Rattle.calls.specs.Insert.{depth_at}
use Rattle.calls.specs.Listing.{listed_tags, listed_labels}
use Rattle.calls.specs.Words.{words_of, Says}
use Rattle.calls.specs.File.{file_of}
use Rattle.calls.specs.Replies.{said, refusal_over, load_reply, load_words, insert_reply, insert_words, insert_sheet_reply, insert_sheet_words, mark_reply, mark_words, hold_reply, question_reply, list_reply, list_tags, list_labels, read_reply, read_words}
use Rattle.calls.specs.Changes.{load, insert, sheet, mark, after, judged}
use Rattle.calls.specs.Reference.{Reference, total, reference_load, reference_after}
use Rattle.calls.specs.Promise.{Kept, WordsKept}
use Rattle.system.specs.System.{System, Reading, hold, ask, list, write, Call, changes, reads, keeps, acts, restores, load_with_grants, restore_with_grants, finding_numbers, Reply, loaded, refusal_in, accepted, finding, reading_lists, reply, step}
use Rattle.system.specs.Histories.{afterwards, replies}
use Rattle.system.specs.Feed.{acted_in, told, total_moved, NoneRestored}
use Rattle.demands.specs.Sound.{SoundWords}
use Rattle.demands.specs.Words.{BookRow, Stand, is_marked, unmarked_of, Inside, Fronted, unmarked_changed, became_marked}
use Rattle.store_types.specs.Replies.{load_made, insert_made}

-- DEMAND 1, of any system and every call on it. Whether a call is one that writes words of the store; a party's is where it inserts
unfoldable pub writes_words : Call → Reply → Bool
writes_words (changes c) q = true
writes_words (reads r) q = false
writes_words (keeps k) q = false
writes_words (acts p a) q = acted_in q
writes_words (restores bs) q = true
writes_words (load_with_grants s r b cs) q = true
writes_words (restore_with_grants bs) q = true

-- the lists and bytes that a reading's caller lends, each with what an accepted call writes in front of it
pub record Filling : Type 0 where
  pub old : List ℕ
  pub new : List ℕ

unfoldable pub fillings : Reading → Store → List Filling
fillings (hold x) st = []
fillings (ask p d) st = []
fillings (list x ts ls) st = record { old = ts; new = listed_tags x st } ∷ record { old = ls; new = listed_labels x st } ∷ []
fillings (write bs) st = record { old = bs; new = file_of st } ∷ []

-- all with the results in front, or all as they were
unfoldable pub AllFronted : List Filling → (now : List (List ℕ)) → Type 0
AllFronted [] ls = ls ≡ []
AllFronted (f ∷ fs) ls = (l : List ℕ) × (ms : List (List ℕ)) × (ls ≡ l ∷ ms) × Fronted f.new f.old l × AllFronted fs ms

pub record ListsRight (r : Reading) (ws : List ℕ) : Type 0 where
  pub stay : (refusal_in (finding_numbers (finding r ws)) ≡ 0 → ⊥) → reading_lists r ws ≡ map (λ f. f.old) (fillings r (said ws))
  pub filled : refusal_in (finding_numbers (finding r ws)) ≡ 0 → AllFronted (fillings r (said ws)) (reading_lists r ws)

-- refused, every word, grant and count is as it was; accepted and writing, there are as many words, they say a sound store, and those
-- past it are as they were; any other call leaves the words; and a reading's lists are right
pub record CallRight (c : Call) (y : System) : Type 0 where
  pub refused : accepted (reply c y) ≡ false → step c y ≡ y
  pub changed : accepted (reply c y) ≡ true → writes_words c (reply c y) ≡ true → (st : Store) × (sound st ≡ true) × Fronted (words_of st) y.words (step c y).words
  pub others : writes_words c (reply c y) ≡ false → (step c y).words ≡ y.words
  pub lists : (r : Reading) → c ≡ reads r → ListsRight r y.words

unfoldable pub EveryCall : Type 0
EveryCall = (c : Call) (y : System) → CallRight c y

-- of the reading of a file more than that: accepted, the bytes are the file of the sound store whose words stand in front
pub record ReadRight (bs ws : List ℕ) : Type 0 where
  pub refused : accepted (loaded (read_reply bs ws)) ≡ false → read_words bs ws ≡ ws
  pub restored : accepted (loaded (read_reply bs ws)) ≡ true → (st : Store) × (sound st ≡ true) × (bs ≡ file_of st) × Fronted (words_of st) ws (read_words bs ws)

unfoldable pub EveryReading : Type 0
EveryReading = (bs ws : List ℕ) → ReadRight bs ws

-- MOVED AND MARKED are differences between the words before and after
unfoldable pub MovedRight : Type 0
MovedRight =
    (c y x m h : ℕ) (ws : List ℕ) → insert_reply c y ws ≡ Ok (insert_made (record { 0 = x }) m h) → m ≡ unmarked_changed ws (insert_words c y ws)

-- of a sheet (document 02, CR 5): between the words before and after the whole call
unfoldable pub SheetMovedRight : Type 0
SheetMovedRight =
    (cs : List ℕ) (y x m h : ℕ) (ws : List ℕ) → insert_sheet_reply cs y ws ≡ Ok (insert_made (record { 0 = x }) m h) → m ≡ unmarked_changed ws (insert_sheet_words cs y ws)

unfoldable pub MarkedRight : Type 0
MarkedRight = (x n : ℕ) (ws : List ℕ) → mark_reply x ws ≡ Ok n → n ≡ became_marked ws (mark_words x ws)

-- DEPTHS over words (document 02, CR 7). Whether a call puts another book in place
unfoldable pub loads_book : Call → Bool
loads_book (changes (load s r b cs)) = true
loads_book (changes (insert c x)) = false
loads_book (changes (sheet cs x)) = false
loads_book (changes (mark x)) = false
loads_book (reads r) = false
loads_book (keeps k) = false
loads_book (acts p a) = false
loads_book (restores bs) = true
loads_book (load_with_grants s r b cs) = true
loads_book (restore_with_grants bs) = true

-- no other call changes the depth word of a tag that was there before it
unfoldable pub DepthsStay : Type 0
DepthsStay =
    (c : Call) (y : System) (x : ℕ) → loads_book c ≡ false → x < word_at y.words at_count →
    field (step c y).words x at_depth ≡ field y.words x at_depth

-- the depth word of an insertion's first tag is the depth at its place; of a sheet's too, where it has one
pub record NewDepths : Type 0 where
  pub of_one :
      (c y x m h : ℕ) (ws : List ℕ) → insert_reply c y ws ≡ Ok (insert_made (record { 0 = x }) m h) → field (insert_words c y ws) x at_depth ≡ depth_at y (said ws)
  pub of_sheet :
      (cs : List ℕ) (y x m h : ℕ) (ws : List ℕ) → 1 ≤ length cs → insert_sheet_reply cs y ws ≡ Ok (insert_made (record { 0 = x }) m h) →
      field (insert_sheet_words cs y ws) x at_depth ≡ depth_at y (said ws)

-- DEMAND 3, of every list of calls after an accepted load in which no file read is accepted, over the words and the replies: exactly
-- the changes that the definitions refuse were refused, and the words, the reference list, which is fed calls and acceptances alone, and
-- the moved numbers of the replies agree
pub record WholeRun (lent : ℕ) (st : Store) (a : Reference) (cs : List Call) (y : System) : Type 0 where
  pub refused_right : told cs y ≡ judged lent (map (λ t. t.0) (told cs y)) st
  pub words : WordsKept (afterwards step cs y).words (after lent (map (λ t. t.0) (told cs y)) st) (reference_after (told cs y) a)
  pub kept : Kept (after lent (map (λ t. t.0) (told cs y)) st) (reference_after (told cs y) a) (total_moved 0 (replies step reply cs y))

-- whatever grants and count stand beside the words, and whatever the words held before the load
unfoldable pub RunsKeep : Type 0
RunsKeep =
    (s r b n h : ℕ) (ks old : List ℕ) (cs : List Call) (y : System) → load_reply s r b ks old ≡ Ok (load_made n h) → y.words ≡ load_words s r b ks old →
    NoneRestored cs y → WholeRun (length old) (load_store s r b ks) (reference_load s r (length ks)) cs y

-- along next, until no tag, and along prior; and N = n0 + m is word 4
pub record RowKept (ws : List ℕ) (a : Reference) : Type 0 where
  pub along : BookRow ws a.row
  pub issued : total a ≡ word_at ws at_count

unfoldable pub RunsAlong : Type 0
RunsAlong =
    (s r b n h : ℕ) (ks old : List ℕ) (cs : List Call) (y : System) → load_reply s r b ks old ≡ Ok (load_made n h) → y.words ≡ load_words s r b ks old →
    NoneRestored cs y → RowKept (afterwards step cs y).words (reference_after (told cs y) (reference_load s r (length ks)))

-- DEMAND 2, of the entries' replies on any words. Words that say a store
abbrev pub SaysSome : List ℕ → Type 0
SaysSome ws = (st : Store) × Says ws st

-- the pair's tag and d are tags, and the pair's is a begin, marked or not
pub record AskedWords (p : HeldPair) (d : ℕ) (ws : List ℕ) : Type 0 where
  pub tag : p.tag.0 < word_at ws at_count
  pub other : d < word_at ws at_count
  pub begin : field ws p.tag.0 at_kind % 16 ≡ 1

-- a pair that still speaks of its section: its book number and labels are the words', and the section is not marked
pub record CurrentWords (p : HeldPair) (ws : List ℕ) : Type 0 where
  pub book : p.book ≡ word_at ws at_book
  pub start : p.start.0 ≡ label_at ws p.tag.0
  pub end : p.end.0 ≡ label_at ws (field ws p.tag.0 at_mate)
  pub unmarked : is_marked ws p.tag.0 ≡ false

-- yes: along next stand the begin, later d, later the begin's mate. Yes, no and stale, each if and only if
unfoldable pub Enclosed : HeldPair → (d : ℕ) → (words : List ℕ) → Type 0
Enclosed p d ws = Stand ws p.tag.0 d (field ws p.tag.0 at_mate)

-- what yes and no have in common: the words say a store, the pair is of its tags and current, d is unmarked; and what the answer
-- tells
pub record YesOrNoWords (p : HeldPair) (d : ℕ) (ws : List ℕ) (enclosure : Type 0) : Type 0 where
  pub says : SaysSome ws
  pub asked : AskedWords p d ws
  pub current : CurrentWords p ws
  pub unmarked : is_marked ws d ≡ false
  pub tells : enclosure

pub record ReplyRight (p : HeldPair) (d : ℕ) (ws : List ℕ) : Type 0 where
  pub if_yes : (question_reply p d ws ≡ Ok Yes) ↔ YesOrNoWords p d ws (Enclosed p d ws)
  pub if_no : (question_reply p d ws ≡ Ok No) ↔ YesOrNoWords p d ws (Enclosed p d ws → ⊥)
  pub if_stale :
      (question_reply p d ws ≡ Ok Stale)
      ↔ (SaysSome ws × ((p.book ≡ word_at ws at_book → ⊥) ⊎ ((p.book ≡ word_at ws at_book) × AskedWords p d ws × (CurrentWords p ws → ⊥))))

unfoldable pub QuestionRight : Type 0
QuestionRight = (p : HeldPair) (d : ℕ) (ws : List ℕ) → ReplyRight p d ws

-- HOLD: the book number, the tag, and the label words of the tag and its mate
pub record HeldWords (p : HeldPair) (x : ℕ) (ws : List ℕ) : Type 0 where
  pub book : p.book ≡ word_at ws at_book
  pub tag : p.tag.0 ≡ x
  pub start : p.start.0 ≡ label_at ws x
  pub end : p.end.0 ≡ label_at ws (field ws x at_mate)

unfoldable pub HoldRight : Type 0
HoldRight = (x : ℕ) (p : HeldPair) (ws : List ℕ) → hold_reply x ws ≡ Ok p → HeldWords p x ws

-- LIST: in front of the two lists stand exactly the unmarked tags that next meets inside the section, in order, and their
-- label words
pub record ListedWords (x n : ℕ) (ws ts ls : List ℕ) : Type 0 where
  pub inside : List ℕ
  pub met : Inside ws x inside
  pub counted : n ≡ length (unmarked_of ws inside)
  pub tags : Fronted (unmarked_of ws inside) ts (list_tags x ws ts ls)
  pub labels : Fronted (map (label_at ws) (unmarked_of ws inside)) ls (list_labels x ws ts ls)

unfoldable pub ListRight : Type 0
ListRight = (x n : ℕ) (ws ts ls : List ℕ) → list_reply x ws ts ls ≡ Ok n → ListedWords x n ws ts ls

-- SOUNDNESS as document 01 writes it is that of a store: words are sound if and only if they say one. So 2 is refused
-- exactly where document 01's sentences fail.
unfoldable pub SoundSays : Type 0
SoundSays = (ws : List ℕ) → SoundWords ws ↔ SaysSome ws

-- by every call that begins with a store, whatever it refuses besides
unfoldable pub UnsoundTwo : Type 0
UnsoundTwo =
    (ws : List ℕ) (refusal : Store → ℕ) → header_words ≤ length ws → ((st : Store) → refusal st ≡ 2 → ⊥) →
    (refusal_over ws refusal ≡ 2) ↔ (SoundWords ws → ⊥)
