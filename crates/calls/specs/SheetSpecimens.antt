-- Sheets that go in by one call, worked out by hand from document 02, CR 5: one table, which proofs/SheetSpecimens.antt shows to hold.
-- Each is a list of calls over one lent slice of words, all 0 at first, with what a sheet replies and what the words then hold.
use Rattle.std.specs.Prelude.{Bool, true, ◌&&◌, List, [], ◌∷◌, ◌++◌, map, ℕ, ◌+◌, eqb, length, replicate}
use Rattle.lists.specs.Lists.{numbers, same}
use Rattle.store_types.specs.Limits.{no_tag}
use Rattle.store_types.specs.Layout.{at_height, at_count, at_first, at_stamp, header_words, at_mate, at_up, word_at, words_for, field, label_at}
use Rattle.calls.specs.Words.{follow}
use Rattle.calls.specs.Replies.{load_words, mark_words, insert_sheet_reply, insert_sheet_words, insert_numbers}

-- load and mark only lead to a book, with book number 7; a sheet says the numbers that it replies. What the words then hold: the
-- labels in book order, with H and the stamp; the tags along next; the ups, and the mates, of the tags from one on
pub data Doing : Type 0 where
  load : (s r : ℕ) → (kinds : List ℕ) → Doing
  mark : (section : ℕ) → Doing
  sheet : (kinds : List ℕ) → (place : ℕ) → (replies : List ℕ) → Doing
  book : (labels : List ℕ) → (height stamp : ℕ) → Doing
  along : (tags : List ℕ) → Doing
  ups : (from : ℕ) → (tags : List ℕ) → Doing
  mates : (from : ℕ) → (tags : List ℕ) → Doing

-- the tags in book order, by the words
unfoldable pub met : (words : List ℕ) → List ℕ
met ws = follow (word_at ws at_count) ws (word_at ws at_first)

-- one word of each of the tags from one on
unfoldable pub fields_hold : (words : List ℕ) → (offset from : ℕ) → (values : List ℕ) → Bool
fields_hold ws k x vs = same (map (λ d. field ws d k) (numbers x (length vs))) vs

unfoldable pub doings_hold : (words : List ℕ) → List Doing → Bool
doings_hold ws [] = true
doings_hold ws (load s r cs ∷ ds) = doings_hold (load_words s r 7 cs ws) ds
doings_hold ws (mark x ∷ ds) = doings_hold (mark_words x ws) ds
doings_hold ws (sheet cs y q ∷ ds) = same (insert_numbers (insert_sheet_reply cs y ws)) q && doings_hold (insert_sheet_words cs y ws) ds
doings_hold ws (book ls h n ∷ ds) =
    (same (map (label_at ws) (met ws)) ls && (eqb (word_at ws at_height) h && eqb (word_at ws at_stamp) n)) && doings_hold ws ds
doings_hold ws (along ts ∷ ds) = same (met ws) ts && doings_hold ws ds
doings_hold ws (ups x ts ∷ ds) = fields_hold ws at_up x ts && doings_hold ws ds
doings_hold ws (mates x ts ∷ ds) = fields_hold ws at_mate x ts && doings_hold ws ds

-- so many tags fit the lent words
pub record SheetSpecimen : Type 0 where
  pub room : ℕ
  pub doings : List Doing

unfoldable pub sheet_specimen_holds : SheetSpecimen → Bool
sheet_specimen_holds e = doings_hold (replicate (words_for header_words e.room) 0) e.doings

abbrev texts : ℕ → List ℕ
texts n = replicate n 3

-- BBEBEE
abbrev printed : List ℕ
printed = 1 ∷ 1 ∷ 2 ∷ 1 ∷ 2 ∷ 2 ∷ []

-- the labels of a complete tree of 8 with s = r = 2, from one on
abbrev eight_from : ℕ → List ℕ
eight_from l = map (λ i. l + i) (0 ∷ 1 ∷ 3 ∷ 4 ∷ 9 ∷ 10 ∷ 12 ∷ 13 ∷ [])

abbrev pub sheet_specimen_table : List SheetSpecimen
sheet_specimen_table =
    -- the printed load: BE after tag 2, as the element there; BBTETE after tag 1, whose top level has tag 1 as its up
    record {
      room = 8;
      doings =
          load 2 2 printed ∷ sheet (1 ∷ 2 ∷ []) 2 (0 ∷ 6 ∷ 3 ∷ 2 ∷ []) ∷ book (0 ∷ 1 ∷ 3 ∷ 4 ∷ 9 ∷ 10 ∷ 12 ∷ 13 ∷ []) 3 1 ∷
          along (0 ∷ 1 ∷ 2 ∷ 6 ∷ 7 ∷ 3 ∷ 4 ∷ 5 ∷ []) ∷ ups 6 (0 ∷ 0 ∷ []) ∷ mates 6 (7 ∷ 6 ∷ []) ∷ [];
    } ∷
    record {
      room = 12;
      doings =
          load 2 2 printed ∷ sheet (1 ∷ 1 ∷ 3 ∷ 2 ∷ 3 ∷ 2 ∷ []) 1 (0 ∷ 6 ∷ 4 ∷ 2 ∷ []) ∷
          book (0 ∷ 1 ∷ 3 ∷ 4 ∷ 9 ∷ 10 ∷ 12 ∷ 13 ∷ 18 ∷ 19 ∷ 21 ∷ 22 ∷ []) 3 1 ∷
          along (0 ∷ 1 ∷ 6 ∷ 7 ∷ 8 ∷ 9 ∷ 10 ∷ 11 ∷ 2 ∷ 3 ∷ 4 ∷ 5 ∷ []) ∷ ups 6 (1 ∷ 6 ∷ 7 ∷ 6 ∷ 6 ∷ 1 ∷ []) ∷ mates 6 (11 ∷ 9 ∷ 8 ∷ 7 ∷ 10 ∷ 6 ∷ []) ∷ [];
    } ∷
    -- into the empty book at the front, twice: the stamp rises by one with each
    record {
      room = 8;
      doings =
          load 2 2 [] ∷ sheet (texts 3) no_tag (0 ∷ 0 ∷ 0 ∷ 0 ∷ []) ∷ sheet (texts 5) no_tag (0 ∷ 3 ∷ 3 ∷ 2 ∷ []) ∷ book (eight_from 0) 3 2 ∷ [];
    } ∷
    -- 8 texts: 3 after tag 3, whose node is split and nothing moves; 5, and also where tags 4 and 7 are marked, which do not count
    record {
      room = 11;
      doings =
          load 2 2 (texts 8) ∷ sheet (texts 3) 3 (0 ∷ 8 ∷ 0 ∷ 1 ∷ []) ∷ book (0 ∷ 1 ∷ 3 ∷ 4 ∷ 6 ∷ 7 ∷ 8 ∷ 9 ∷ 10 ∷ 12 ∷ 13 ∷ []) 3 1 ∷ [];
    } ∷
    record {
      room = 13;
      doings =
          load 2 2 (texts 8) ∷ sheet (texts 5) 3 (0 ∷ 8 ∷ 4 ∷ 2 ∷ []) ∷
          book (0 ∷ 1 ∷ 3 ∷ 4 ∷ 9 ∷ 10 ∷ 12 ∷ 13 ∷ 14 ∷ 18 ∷ 19 ∷ 21 ∷ 22 ∷ []) 3 1 ∷ [];
    } ∷
    record {
      room = 13;
      doings =
          load 2 2 (texts 8) ∷ mark 4 ∷ mark 7 ∷ sheet (texts 5) 3 (0 ∷ 8 ∷ 2 ∷ 2 ∷ []) ∷
          book (0 ∷ 1 ∷ 3 ∷ 4 ∷ 9 ∷ 10 ∷ 12 ∷ 13 ∷ 14 ∷ 18 ∷ 19 ∷ 21 ∷ 22 ∷ []) 3 3 ∷ [];
    } ∷
    -- s = 3, r = 2: the rest stays in the cursor's node
    record {
      room = 15;
      doings =
          load 3 2 (texts 9) ∷ sheet (texts 6) 4 (0 ∷ 9 ∷ 4 ∷ 1 ∷ []) ∷
          book (0 ∷ 1 ∷ 5 ∷ 6 ∷ 25 ∷ 26 ∷ 30 ∷ 31 ∷ 35 ∷ 36 ∷ 37 ∷ 38 ∷ 40 ∷ 41 ∷ 42 ∷ []) 3 1 ∷ [];
    } ∷
    -- H rises by more than one: three complete trees of 8
    record {
      room = 24;
      doings = load 2 2 (texts 4) ∷ sheet (texts 20) 0 (0 ∷ 4 ∷ 3 ∷ 3 ∷ []) ∷ book (eight_from 0 ++ eight_from 27 ++ eight_from 54) 4 1 ∷ [];
    } ∷
    -- the empty sheet changes nothing, and meets 8; kinds come before the place, and 4 before 5
    record {
      room = 5;
      doings =
          load 2 2 (texts 3) ∷ sheet [] 0 (0 ∷ 3 ∷ 0 ∷ 0 ∷ []) ∷ book (0 ∷ 1 ∷ 2 ∷ []) 1 0 ∷ sheet [] 3 (8 ∷ []) ∷
          sheet (1 ∷ []) 9 (5 ∷ []) ∷ sheet (1 ∷ 4 ∷ []) 9 (4 ∷ []) ∷ sheet (2 ∷ 1 ∷ []) 0 (5 ∷ []) ∷ [];
    } ∷
    []
