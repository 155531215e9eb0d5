-- What is promised of the store (demands 2 and 3), of its files (document 02, CR 3), of sheets that go in by one call (CR 5) and of
-- depth (CR 7).
-- Each statement is a type; docs/THEOREMS.md names its proof. Assumes nothing.
use Rattle.std.specs.Prelude.{◌≡◌, Bool, true, false, ◌&&◌, not, ◌↔◌, ◌⊎◌, ℕ, suc, ◌+◌, ◌*◌, ◌-◌, ◌^◌, ◌≤◌, ◌<◌, ltb, eqb, length, take, Ok}
use mathlib.Core.List.{List, [], ◌∷◌, ◌++◌, map, get_last_d}
use Rattle.std.proofs.Math.Option.{some}
use Rattle.store_types.specs.Limits.{no_tag, word_limit, most_levels}
use Rattle.store_types.specs.declared.HeldPair.{HeldPair}
use Rattle.store_types.specs.declared.Answer.TheVariants.{Yes, No, Stale}
use Rattle.store_types.specs.Layout.{at_s, at_r, at_height, at_count, at_first, at_book, header_words, word_at, words_for, label_at}
use Rattle.store_types.specs.FileLayout.{row_words}
use Rattle.lists.specs.Lists.{first, all_hold}
use Rattle.lists.specs.Fronts.{in_front}
use Rattle.tree.specs.Row.{rises}
use Rattle.tree.specs.Book.{height, labels_of}
use Rattle.tree.specs.Reach.{account_bound}
use Rattle.tree.specs.Grown.{height_for}
use Rattle.calls.specs.Kind.{Kind, is_begin, kind_of}
use Rattle.calls.specs.Store.{Store, fact, unmarked, count, row, place_of, width, height_fits, label}
use Rattle.calls.specs.Nesting.{nests}
use Rattle.calls.specs.Sound.{tree_sound, sound}
use Rattle.calls.specs.Load.{load_refusal, load_store}
use Rattle.calls.specs.Insert.{labels_end, labels_run_out, place_tests, row_refusal, insert_store, insert_sheet_refusal, insert_sheet_store}
use Rattle.calls.specs.Mark.{section_refusal, mark_store}
use Rattle.calls.specs.Held.{around, question}
use Rattle.calls.specs.Words.{words_of, Says, follow, read}
use Rattle.calls.specs.File.{form, file_of, formed, read_file}
use Rattle.calls.specs.Replies.{said, refusal_over, insert_reply, insert_words, insert_sheet_refused, insert_sheet_reply, insert_sheet_words, write_reply, write_bytes, read_reply, read_words}
use Rattle.calls.specs.Changes.{Change, load, sheet, after, AllFit, judged, moved_after}
use Rattle.calls.specs.Reference.{Reference, total, reference_load, reference_change, reference_after}
use Rattle.store_types.specs.Replies.{load_made, insert_made}

-- ONE STEP, on any sound store: an accepted load, an accepted insertion of any row of kinds that nests, of a sheet, an accepted mark
unfoldable pub LoadSound : Type 0
LoadSound = (lent s r b : ℕ) (cs : List ℕ) → load_refusal lent s r cs ≡ 0 → sound (load_store s r b cs) ≡ true

unfoldable pub InsertSound : Type 0
InsertSound =
    (lent y : ℕ) (ks : List Kind) (st : Store) → sound st ≡ true → nests 0 ks ≡ true → 1 ≤ length ks → row_refusal lent ks y st ≡ 0 →
    sound (insert_store ks y st) ≡ true

unfoldable pub SheetSound : Type 0
SheetSound =
    (lent y : ℕ) (cs : List ℕ) (st : Store) → sound st ≡ true → insert_sheet_refusal lent cs y st ≡ 0 → sound (insert_sheet_store (map kind_of cs) y st) ≡ true

unfoldable pub MarkSound : Type 0
MarkSound = (x : ℕ) (st : Store) → sound st ≡ true → section_refusal x st ≡ 0 → sound (mark_store x st) ≡ true

-- an insertion changes no mark of a tag that was there: unmarked before and after the call is unmarked before it
unfoldable pub MarksStay : Type 0
MarksStay = (ks : List Kind) (y x : ℕ) (st : Store) → x < count st → unmarked (insert_store ks y st) x ≡ unmarked st x

-- REFUSAL 7 of a row of one or two tags, tag by tag, is document 01's n + k ≥ s times r^H and b^(H + 1) > 2^32
unfoldable pub RowsEnd : Type 0
RowsEnd =
    (st : Store) (k : ℕ) → sound st ≡ true → 1 ≤ k → k ≤ 2 →
    labels_run_out (height_fits st) st.book.s st.book.r k (count st) (height st.book)
    ≡ labels_end (height_fits st) st.book.s st.book.r k (count st) (height st.book)

-- of a row of any length: the least height, from H on, whose root has room for n + k tags is above H, and labels of a tree of that
-- height do not fit
unfoldable pub least_height : (k : ℕ) → Store → ℕ
least_height k st = height_for k st.book.s st.book.r (count st + k) (height st.book)

unfoldable pub SheetsRunOut : Type 0
SheetsRunOut =
    (st : Store) (k : ℕ) → sound st ≡ true →
    labels_run_out (height_fits st) st.book.s st.book.r k (count st) (height st.book)
    ≡ (ltb (height st.book) (least_height k st) && not (height_fits st (least_height k st)))

-- SHEETS, over any words (document 02, CR 5). The empty one is refused by its place alone, once a store is said; it changes no word,
-- and accepted it replies n, 0, 0
pub record EmptyDoes (y : ℕ) (ws : List ℕ) : Type 0 where
  pub refused : insert_sheet_refused [] y ws ≡ refusal_over ws (λ st. first (place_tests y st) 0)
  pub words : insert_sheet_words [] y ws ≡ ws
  pub reply : insert_sheet_refused [] y ws ≡ 0 → insert_sheet_reply [] y ws ≡ Ok (insert_made (record { 0 = count (said ws) }) 0 0)

unfoldable pub EmptySheet : Type 0
EmptySheet = (y : ℕ) (ws : List ℕ) → EmptyDoes y ws

-- nor does it change the bare list
unfoldable pub EmptyReference : Type 0
EmptyReference = (y : ℕ) (a : Reference) → reference_change (sheet [] y) a ≡ a

-- a text and an element are sheets of one tag and of two
pub record SameCalls (c : ℕ) (cs : List ℕ) (y : ℕ) (ws : List ℕ) : Type 0 where
  pub reply : insert_reply c y ws ≡ insert_sheet_reply cs y ws
  pub words : insert_words c y ws ≡ insert_sheet_words cs y ws

unfoldable pub SinglesAreSheets : Type 0
SinglesAreSheets = (y : ℕ) (ws : List ℕ) → SameCalls 3 (3 ∷ []) y ws × SameCalls 1 (1 ∷ 2 ∷ []) y ws

-- H is at most 17
unfoldable pub HeightMost : Type 0
HeightMost = (st : Store) → sound st ≡ true → height st.book ≤ most_levels

-- EVERY LIST OF CHANGES after an accepted load. The tree keeps s and r in their ranges, b^H ≤ 2^32 and every node's limits
unfoldable pub StaysGood : Type 0
StaysGood =
    (lent s r b : ℕ) (ks : List ℕ) (cs : List Change) → load_refusal lent s r ks ≡ 0 → tree_sound (after lent cs (load_store s r b ks)) ≡ true

unfoldable pub StoresSound : Type 0
StoresSound =
    (lent s r b : ℕ) (ks : List ℕ) (cs : List Change) → load_refusal lent s r ks ≡ 0 → sound (after lent cs (load_store s r b ks)) ≡ true

-- and where every load's book number is a word, so is the store's (which document 03 has in its soundness)
unfoldable pub NumbersFit : Type 0
NumbersFit =
    (lent s r b : ℕ) (ks : List ℕ) (cs : List Change) → AllFit (load s r b ks ∷ cs) → (after lent cs (load_store s r b ks)).number < word_limit

-- LABELS TELL: in a sound store comparing labels is comparing places
unfoldable pub LabelsTell : Type 0
LabelsTell =
    (st : Store) (x y : ℕ) → sound st ≡ true → x < count st → y < count st → ltb (label st x) (label st y) ≡ ltb (place_of st x) (place_of st y)

-- THE HELD PAIR. Enclosure in the list of tags
unfoldable pub Encloses : Store → (section tag : ℕ) → Type 0
Encloses st x d = (place_of st x < place_of st d) × (place_of st d < place_of st (fact st x).mate)

-- a pair that still speaks of its section: of this book, the labels are the section's, and it is not marked
pub record Current (p : HeldPair) (st : Store) : Type 0 where
  pub book : p.book ≡ st.number
  pub start : p.start.0 ≡ label st p.tag.0
  pub end : p.end.0 ≡ label st (fact st p.tag.0).mate
  pub unmarked : (fact st p.tag.0).marked ≡ false

-- the pair's tag and d are tags, and the pair's is a begin
pub record Asked (p : HeldPair) (d : ℕ) (st : Store) : Type 0 where
  pub tag : p.tag.0 < count st
  pub other : d < count st
  pub begin : is_begin (fact st p.tag.0).kind ≡ true

-- yes and no: the pair may be asked and is current, and d is not marked; they differ in whether the section encloses d
pub record YesOrNo (p : HeldPair) (d : ℕ) (st : Store) (enclosure : Type 0) : Type 0 where
  pub asked : Asked p d st
  pub current : Current p st
  pub unmarked : (fact st d).marked ≡ false
  pub tells : enclosure

-- yes, no and stale, each if and only if, on any sound store: so for a pair held at any moment and asked after any calls
pub record AnswersRight (p : HeldPair) (d : ℕ) (st : Store) : Type 0 where
  pub if_yes : (question p d st ≡ Ok Yes) ↔ YesOrNo p d st (Encloses st p.tag.0 d)
  pub if_no : (question p d st ≡ Ok No) ↔ YesOrNo p d st (Encloses st p.tag.0 d → ⊥)
  pub if_stale :
      (question p d st ≡ Ok Stale) ↔ ((p.book ≡ st.number → ⊥) ⊎ ((p.book ≡ st.number) × Asked p d st × (Current p st → ⊥)))

unfoldable pub PairsRight : Type 0
PairsRight = (p : HeldPair) (d : ℕ) (st : Store) → AnswersRight p d st

-- and enclosure is what the labels of a current pair tell: the tag's label lies between the pair's two
unfoldable pub PairLabelsTell : Type 0
PairLabelsTell =
    (p : HeldPair) (d : ℕ) (st : Store) → sound st ≡ true → Asked p d st → Current p st →
    Encloses st p.tag.0 d ↔ ((p.start.0 < label st d) × (label st d < p.end.0))

-- DEPTH (document 02, CR 7): in a sound store as many elements are around a tag as it says, and its up is the innermost of them
-- (document 01, "The book in words"), no tag where there is none
unfoldable pub DepthRight : Type 0
DepthRight = (st : Store) (x : ℕ) → sound st ≡ true → x < count st → (fact st x).depth ≡ length (around st x)

unfoldable pub UpsInnermost : Type 0
UpsInnermost = (st : Store) (x : ℕ) → sound st ≡ true → x < count st → (fact st x).up ≡ get_last_d (around st x) no_tag

-- so it is 0 at the top and else one more than that of up, and mates have the same
pub record DepthByUp (st : Store) (x : ℕ) : Type 0 where
  pub top : (fact st x).up ≡ no_tag → (fact st x).depth ≡ 0
  pub inside : ((fact st x).up ≡ no_tag → ⊥) → (fact st x).depth ≡ suc (fact st (fact st x).up).depth
  pub mates : (fact st (fact st x).mate).depth ≡ (fact st x).depth

unfoldable pub DepthUp : Type 0
DepthUp = (st : Store) (x : ℕ) → sound st ≡ true → x < count st → DepthByUp st x

-- THE READER: words are read as a store if and only if they say it; so they say at most one
unfoldable pub ReaderRight : Type 0
ReaderRight = (ws : List ℕ) (st : Store) → (read ws ≡ some st) ↔ Says ws st

unfoldable pub SaysOne : Type 0
SaysOne = (ws : List ℕ) (st su : Store) → Says ws st → Says ws su → st ≡ su

unfoldable pub ReadsBack : Type 0
ReadsBack = (st : Store) (rest : List ℕ) → sound st ≡ true → read (words_of st ++ rest) ≡ some st

-- THE THIRD DEMAND. What holds of a store, beside the reference list, after all moved numbers t together
pub record Kept (st : Store) (a : Reference) (t : ℕ) : Type 0 where
  pub tags : row st ≡ a.row
  pub degree_s : st.book.s ≡ a.s
  pub degree_r : st.book.r ≡ a.r
  pub levels : height st.book ≡ a.height
  pub rise : rises ((a.s * a.r - 1) ^ a.height) (labels_of (width st) st.book) ≡ true
  pub few_moved : (a.s - 1) * t ≤ account_bound a.s a.r a.n0 a.m a.height
  pub low : 2 ≤ a.height → 2 * a.r ^ (a.height - 1) ≤ total a

unfoldable pub ListsKeep : Type 0
ListsKeep =
    (lent s r b : ℕ) (ks : List ℕ) (cs : List Change) → load_refusal lent s r ks ≡ 0 →
    Kept (after lent cs (load_store s r b ks)) (reference_after (judged lent cs (load_store s r b ks)) (reference_load s r (length ks)))
    (moved_after lent cs (load_store s r b ks) 0)

-- and of words that say such a store: what they hold of the header and along next
pub record WordsKept (ws : List ℕ) (st : Store) (a : Reference) : Type 0 where
  pub says : Says ws st
  pub degree_s : word_at ws at_s ≡ a.s
  pub degree_r : word_at ws at_r ≡ a.r
  pub levels : word_at ws at_height ≡ a.height
  pub tags : word_at ws at_count ≡ length a.row
  pub along_next : follow (length a.row) ws (word_at ws at_first) ≡ a.row
  pub labels_along : map (label_at ws) a.row ≡ labels_of (width st) st.book

-- FILES (document 02, CR 3). A list of seven words; bytes written by the form from seven words, of which the fourth counts the
-- rows, and any rows of seven words
unfoldable pub is_row : List ℕ → Bool
is_row ws = eqb (length ws) row_words && all_hold (λ w. ltb w word_limit) ws

pub record OfTheForm (bs : List ℕ) : Type 0 where
  pub head : List ℕ
  pub rows : List (List ℕ)
  pub head_fits : is_row head ≡ true
  pub rows_fit : all_hold is_row rows ≡ true
  pub counted : word_at (1 ∷ head) at_count ≡ length rows
  pub written : bs ≡ form head rows

unfoldable pub FormedRight : Type 0
FormedRight = (bs : List ℕ) → (formed bs ≡ true) ↔ OfTheForm bs

-- a file is read as a store if and only if the store is sound and this is its file. A store of the definitions may have any
-- book number, a file only a word: the file of book number 2^32 is that of book number 0
unfoldable pub FileReaderRight : Type 0
FileReaderRight = (bs : List ℕ) (st : Store) → (read_file bs ≡ some st) ↔ ((sound st ≡ true) × (st.number < word_limit) × (bs ≡ file_of st))

-- what writing leaves in the first bytes is read into any words that suffice: it replies n and H, and the words in front are
-- those that were written
unfoldable pub FilesReadBack : Type 0
FilesReadBack =
    (ws bs vs : List ℕ) (k : ℕ) → word_at ws at_book < word_limit → write_reply ws bs ≡ Ok k → words_for header_words (word_at ws at_count) ≤ length vs →
    (read_reply (take k (write_bytes ws bs)) vs ≡ Ok (load_made (word_at ws at_count) (word_at ws at_height)))
    × (read_words (take k (write_bytes ws bs)) vs ≡ in_front (take (words_for header_words (word_at ws at_count)) ws) vs)

-- two files that are read as the same words are the same bytes
unfoldable pub FilesDiffer : Type 0
FilesDiffer =
    (bs cs ws vs : List ℕ) (n h : ℕ) → read_reply bs ws ≡ Ok (load_made n h) → read_reply cs vs ≡ Ok (load_made n h) →
    take (words_for header_words n) (read_words bs ws) ≡ take (words_for header_words n) (read_words cs vs) → bs ≡ cs

-- what holds of the words before a shutdown holds of those that are read back from the file
unfoldable pub ShutdownsKeep : Type 0
ShutdownsKeep =
    (ws bs vs : List ℕ) (k : ℕ) (st : Store) (a : Reference) → WordsKept ws st a → word_at ws at_book < word_limit → write_reply ws bs ≡ Ok k →
    words_for header_words (word_at ws at_count) ≤ length vs → WordsKept (read_words (take k (write_bytes ws bs)) vs) st a
