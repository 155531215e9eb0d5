-- Files worked out by hand from document 02, CR 3, and CR 7 for depth, which no file keeps: one table, which proofs/FileSpecimens.antt shows to hold. Each is a list of
-- writings and readings over one lent slice of words, with the numbers that each replies.
use Rattle.store_types.specs.Replies.{count_numbers}
use Rattle.std.specs.Prelude.{Bool, true, ◌&&◌, List, [], ◌∷◌, ◌++◌, ℕ, set, take, replicate}
use Rattle.lists.specs.Lists.{same}
use Rattle.calls.specs.DepthSpecimens.{printed_records}
use Rattle.calls.specs.Replies.{load_words, insert_words, load_numbers, write_reply, write_bytes, read_reply, read_words}

-- one thing done over lent words, with the numbers replied. write: the book is written into so many bytes, all 0, which then
-- hold these; read: these bytes are read, and the words then are these; lend: from here on these words are lent
pub data Filing : Type 0 where
  write : (lent : ℕ) → (replies bytes : List ℕ) → Filing
  read : (bytes replies words : List ℕ) → Filing
  lend : (words : List ℕ) → Filing

unfoldable pub filings_hold : (words : List ℕ) → List Filing → Bool
filings_hold ws [] = true
filings_hold ws (write lent q bs ∷ fs) =
    (same (count_numbers (write_reply ws (replicate lent 0))) q && same (write_bytes ws (replicate lent 0)) bs) && filings_hold ws fs
filings_hold ws (read bs q vs ∷ fs) = (same (load_numbers (read_reply bs ws)) q && same (read_words bs ws) vs) && filings_hold (read_words bs ws) fs
filings_hold ws (lend vs ∷ fs) = filings_hold vs fs

-- BY HAND: a number below 256 in four bytes and in two, and no tag
abbrev word : ℕ → List ℕ
word v = v ∷ 0 ∷ 0 ∷ 0 ∷ []

abbrev half : ℕ → List ℕ
half v = v ∷ 0 ∷ []

abbrev none : List ℕ
none = 255 ∷ 255 ∷ 255 ∷ 255 ∷ []

-- the empty book, s = r = 2, book 7: H = 1, first is no tag
abbrev empty_words : List ℕ
empty_words = load_words 2 2 7 [] (replicate 8 0)

abbrev empty_file : List ℕ
empty_file =
    (word 30 ++ half 1 ++ word 2 ++ word 2 ++ word 1 ++ word 0 ++ none ++ word 7 ++ word 0) ++ (word 6 ++ half 3 ++ word 0)

-- document 01's printed load, BBEBEE, and after its two insertions
abbrev printed_words : List ℕ
printed_words = load_words 2 2 7 (1 ∷ 1 ∷ 2 ∷ 1 ∷ 2 ∷ 2 ∷ []) (replicate 50 0)

abbrev grown_words : List ℕ
grown_words = insert_words 3 2 (insert_words 3 2 (load_words 2 2 7 (1 ∷ 1 ∷ 2 ∷ 1 ∷ 2 ∷ 2 ∷ []) (replicate 64 0)))

-- its records: the header with a stamp, and the tags, each its number, label, next, prior, mate, up, kind
abbrev header_with : (stamp : ℕ) → List ℕ
header_with stamp = word 30 ++ half 1 ++ word 2 ++ word 2 ++ word 2 ++ word 6 ++ word 0 ++ word 7 ++ word stamp

abbrev tag : (row : List ℕ) → List ℕ
tag row = word 30 ++ half 2 ++ row

abbrev tag_0 : List ℕ
tag_0 = tag (word 0 ++ word 0 ++ word 1 ++ none ++ word 5 ++ none ++ word 1)

abbrev tag_1 : List ℕ
tag_1 = tag (word 1 ++ word 1 ++ word 2 ++ word 0 ++ word 2 ++ word 0 ++ word 1)

abbrev tag_2 : List ℕ
tag_2 = tag (word 2 ++ word 3 ++ word 3 ++ word 1 ++ word 1 ++ word 0 ++ word 2)

abbrev tag_3 : List ℕ
tag_3 = tag (word 3 ++ word 4 ++ word 4 ++ word 2 ++ word 4 ++ word 0 ++ word 1)

abbrev tag_4 : (number : ℕ) → List ℕ
tag_4 number = tag (word number ++ word 6 ++ word 5 ++ word 3 ++ word 3 ++ word 0 ++ word 2)

abbrev tag_5 : (label : ℕ) → List ℕ
tag_5 label = tag (word 5 ++ word label ++ none ++ word 4 ++ word 0 ++ none ++ word 2)

abbrev last : List ℕ
last = word 6 ++ half 3 ++ word 6

abbrev printed_file : List ℕ
printed_file = header_with 0 ++ tag_0 ++ tag_1 ++ tag_2 ++ tag_3 ++ tag_4 4 ++ tag_5 7 ++ last

-- and after the two insertions, which stand in book order as 0 1 2 7 6 3 4 5 with labels 0 1 3 4 9 10 12 13
abbrev grown_file : List ℕ
grown_file =
    (word 30 ++ half 1 ++ word 2 ++ word 2 ++ word 3 ++ word 8 ++ word 0 ++ word 7 ++ word 2)
    ++ tag (word 0 ++ word 0 ++ word 1 ++ none ++ word 5 ++ none ++ word 1)
    ++ tag (word 1 ++ word 1 ++ word 2 ++ word 0 ++ word 2 ++ word 0 ++ word 1)
    ++ tag (word 2 ++ word 3 ++ word 7 ++ word 1 ++ word 1 ++ word 0 ++ word 2)
    ++ tag (word 7 ++ word 4 ++ word 6 ++ word 2 ++ word 7 ++ word 0 ++ word 3)
    ++ tag (word 6 ++ word 9 ++ word 3 ++ word 7 ++ word 6 ++ word 0 ++ word 3)
    ++ tag (word 3 ++ word 10 ++ word 4 ++ word 6 ++ word 4 ++ word 0 ++ word 1)
    ++ tag (word 4 ++ word 12 ++ word 5 ++ word 3 ++ word 3 ++ word 0 ++ word 2)
    ++ tag (word 5 ++ word 13 ++ none ++ word 4 ++ word 0 ++ none ++ word 2)
    ++ (word 6 ++ half 3 ++ word 8)

-- document 01's printed load with a text after tag 2 and then an element after tag 1, whose two are the only ones of depth 2; its
-- tags stand in book order as 0 1 7 8 2 6 3 4 5 with labels 0 1 3 4 5 9 10 12 13
abbrev deeper_words : (lent : ℕ) → List ℕ
deeper_words lent = insert_words 1 1 (insert_words 3 2 (load_words 2 2 7 (1 ∷ 1 ∷ 2 ∷ 1 ∷ 2 ∷ 2 ∷ []) (replicate lent 0)))

abbrev deeper_file : List ℕ
deeper_file =
    (word 30 ++ half 1 ++ word 2 ++ word 2 ++ word 3 ++ word 9 ++ word 0 ++ word 7 ++ word 2)
    ++ tag (word 0 ++ word 0 ++ word 1 ++ none ++ word 5 ++ none ++ word 1)
    ++ tag (word 1 ++ word 1 ++ word 7 ++ word 0 ++ word 2 ++ word 0 ++ word 1)
    ++ tag (word 7 ++ word 3 ++ word 8 ++ word 1 ++ word 8 ++ word 1 ++ word 1)
    ++ tag (word 8 ++ word 4 ++ word 2 ++ word 7 ++ word 7 ++ word 1 ++ word 2)
    ++ tag (word 2 ++ word 5 ++ word 6 ++ word 8 ++ word 1 ++ word 0 ++ word 2)
    ++ tag (word 6 ++ word 9 ++ word 3 ++ word 2 ++ word 6 ++ word 0 ++ word 3)
    ++ tag (word 3 ++ word 10 ++ word 4 ++ word 6 ++ word 4 ++ word 0 ++ word 1)
    ++ tag (word 4 ++ word 12 ++ word 5 ++ word 3 ++ word 3 ++ word 0 ++ word 2)
    ++ tag (word 5 ++ word 13 ++ none ++ word 4 ++ word 0 ++ none ++ word 2)
    ++ (word 6 ++ half 3 ++ word 9)

-- a record of the printed load with its depth after its kind, as no file has it
abbrev deep_tag : (row : List ℕ) → (depth : ℕ) → List ℕ
deep_tag row d = word 34 ++ half 2 ++ row ++ word d

abbrev deep_file : List ℕ
deep_file =
    header_with 0
    ++ deep_tag (word 0 ++ word 0 ++ word 1 ++ none ++ word 5 ++ none ++ word 1) 0
    ++ deep_tag (word 1 ++ word 1 ++ word 2 ++ word 0 ++ word 2 ++ word 0 ++ word 1) 1
    ++ deep_tag (word 2 ++ word 3 ++ word 3 ++ word 1 ++ word 1 ++ word 0 ++ word 2) 1
    ++ deep_tag (word 3 ++ word 4 ++ word 4 ++ word 2 ++ word 4 ++ word 0 ++ word 1) 1
    ++ deep_tag (word 4 ++ word 6 ++ word 5 ++ word 3 ++ word 3 ++ word 0 ++ word 2) 1
    ++ deep_tag (word 5 ++ word 7 ++ none ++ word 4 ++ word 0 ++ none ++ word 2) 0
    ++ last

-- a file that is refused by these words, which stay
abbrev refused : (bytes words : List ℕ) → (refusal : ℕ) → Filing
refused bs ws k = read bs (k ∷ []) ws

abbrev zeros : ℕ → List ℕ
zeros n = replicate n 0

-- damaged: into enough words, which are 0
abbrev damaged : (bytes : List ℕ) → (refusal : ℕ) → Filing
damaged bs k = refused bs (zeros 50) k

pub record FileSpecimen : Type 0 where
  pub words : List ℕ
  pub filings : List Filing

unfoldable pub file_specimen_holds : FileSpecimen → Bool
file_specimen_holds e = filings_hold e.words e.filings

abbrev pub file_specimen_table : List FileSpecimen
file_specimen_table =
    -- the empty book, written, into a byte too few, and read back; the empty file
    record {
      words = empty_words;
      filings =
          write 44 (0 ∷ 44 ∷ []) empty_file ∷ write 43 (16 ∷ []) (zeros 43) ∷
          lend (zeros 8) ∷ read empty_file (0 ∷ 0 ∷ 1 ∷ []) empty_words ∷ lend (zeros 7) ∷ refused empty_file (zeros 7) 1 ∷
          refused [] (zeros 7) 15 ∷ [];
    } ∷
    -- the printed load: bytes past the file stay, 247 are too few; read into 50 words and more, and into 49
    record {
      words = printed_words;
      filings =
          write 248 (0 ∷ 248 ∷ []) printed_file ∷ write 250 (0 ∷ 248 ∷ []) (printed_file ++ zeros 2) ∷ write 247 (16 ∷ []) (zeros 247) ∷
          lend (zeros 50) ∷ read printed_file (0 ∷ 6 ∷ 2 ∷ []) printed_words ∷
          lend (zeros 50 ++ 9 ∷ []) ∷ read printed_file (0 ∷ 6 ∷ 2 ∷ []) (printed_words ++ 9 ∷ []) ∷
          lend (zeros 49) ∷ refused printed_file (zeros 49) 1 ∷ [];
    } ∷
    -- in book order, and back by number
    record {
      words = grown_words;
      filings = write 316 (0 ∷ 316 ∷ []) grown_file ∷ lend (zeros 64) ∷ read grown_file (0 ∷ 8 ∷ 3 ∷ []) grown_words ∷ [];
    } ∷
    -- depth is worked out on reading: seven words a tag, of which the file has six; a word too few; seven words past it stay
    record {
      words = deeper_words 71;
      filings =
          write 350 (0 ∷ 350 ∷ []) deeper_file ∷ lend (zeros 71) ∷ read deeper_file (0 ∷ 9 ∷ 3 ∷ []) (deeper_words 71) ∷
          lend (zeros 70) ∷ refused deeper_file (zeros 70) 1 ∷
          lend (replicate 78 9) ∷ read deeper_file (0 ∷ 9 ∷ 3 ∷ []) (deeper_words 71 ++ replicate 7 9) ∷ [];
    } ∷
    -- the printed file, whose records have depth 0 1 1 1 1 0; and with these depths in it, which is outside the form
    record {
      words = zeros 50;
      filings =
          damaged deep_file 15 ∷ read printed_file (0 ∷ 6 ∷ 2 ∷ []) (1 ∷ 2 ∷ 2 ∷ 2 ∷ 6 ∷ 0 ∷ 7 ∷ 0 ∷ printed_records) ∷ [];
    } ∷
    -- outside the form: a byte less, a byte more, a kind, a length, a count; before too few words
    record {
      words = zeros 50;
      filings =
          damaged (take 247 printed_file) 15 ∷ damaged (printed_file ++ 0 ∷ []) 15 ∷ damaged (set printed_file 4 3) 15 ∷
          damaged (set printed_file 0 31) 15 ∷ damaged (set printed_file 18 7) 15 ∷ damaged (set printed_file 244 7) 15 ∷
          damaged (set printed_file 38 3) 15 ∷ damaged (set printed_file 242 2) 15 ∷ damaged (set printed_file 5 1) 15 ∷
          lend (zeros 7) ∷ refused (set printed_file 4 3) (zeros 7) 15 ∷ [];
    } ∷
    -- of the form, and no book's: two records exchanged, one twice, a number that is none, a label with a gap before it, a stamp
    -- above n; and one that is n
    record {
      words = zeros 50;
      filings =
          damaged (header_with 0 ++ tag_0 ++ tag_1 ++ tag_2 ++ tag_4 4 ++ tag_3 ++ tag_5 7 ++ last) 2 ∷
          damaged (header_with 0 ++ tag_0 ++ tag_1 ++ tag_2 ++ tag_3 ++ tag_3 ++ tag_5 7 ++ last) 2 ∷
          damaged (header_with 0 ++ tag_0 ++ tag_1 ++ tag_2 ++ tag_3 ++ tag_4 6 ++ tag_5 7 ++ last) 2 ∷
          damaged (header_with 0 ++ tag_0 ++ tag_1 ++ tag_2 ++ tag_3 ++ tag_4 4 ++ tag_5 8 ++ last) 2 ∷
          damaged (header_with 7 ++ tag_0 ++ tag_1 ++ tag_2 ++ tag_3 ++ tag_4 4 ++ tag_5 7 ++ last) 2 ∷
          read (header_with 6 ++ tag_0 ++ tag_1 ++ tag_2 ++ tag_3 ++ tag_4 4 ++ tag_5 7 ++ last) (0 ∷ 6 ∷ 2 ∷ []) (set printed_words 7 6) ∷ [];
    } ∷
    -- writing from too few words, and from words that say no store
    record { words = zeros 7; filings = write 44 (1 ∷ []) (zeros 44) ∷ lend (zeros 8) ∷ write 44 (2 ∷ []) (zeros 44) ∷ write 0 (2 ∷ []) [] ∷ [] } ∷
    []
