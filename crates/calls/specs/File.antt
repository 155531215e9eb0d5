-- A book as a file (document 02, CR 3; CR 7 for depth): records, each a length, a kind and words, every number low byte first.
-- Assumes nothing: these are definitions.
use Rattle.std.specs.Prelude.{Bool, true, false, ◌&&◌, cond, ℕ, zero, suc, ◌+◌, ◌*◌, eqb, length, get_or, take, drop, replicate}
use mathlib.Core.List.{List, [], ◌∷◌, ◌++◌, map, flat_map}
use Rattle.std.proofs.Math.Option.{Option, none, some}
use Rattle.store_types.specs.Layout.{at_count, at_kind, tag_words, word_at}
use Rattle.store_types.specs.FileLayout.{kept_words, header_kind, tag_kind, end_kind, length_bytes, kind_bytes, word_bytes, front_bytes, row_words, end_words, row_bytes, file_bytes, at_number}
use Rattle.lists.specs.Lists.{numbers, same, all_hold}
use Rattle.little_endian.specs.Numbers.{is_byte, low_first, number_in}
use Rattle.calls.specs.Kind.{Kind, word_kind, own_depth, depth_after}
use Rattle.calls.specs.Store.{Store, row}
use Rattle.calls.specs.Words.{header, tag_record, read}

-- THE FORM. What stands before the so many words of a record: how many bytes follow its length, and its kind; and a record
abbrev pub record_front : (kind words : ℕ) → List ℕ
record_front kind k = low_first length_bytes (kind_bytes + word_bytes * k) ++ low_first kind_bytes kind

unfoldable pub file_record : (kind : ℕ) → (words : List ℕ) → List ℕ
file_record kind ws = record_front kind (length ws) ++ flat_map (low_first word_bytes) ws

-- one of the header, one for each row, one that counts them
unfoldable pub form : (head : List ℕ) → (rows : List (List ℕ)) → List ℕ
form head rows = file_record header_kind head ++ (flat_map (file_record tag_kind) rows ++ file_record end_kind (length rows ∷ []))

-- THE FILE OF A STORE: s, r, H, n, first, book, stamp; and of each tag in book order its number and the six
-- words of its record that are kept
unfoldable pub tag_row : Store → (tag : ℕ) → List ℕ
tag_row st x = x ∷ take kept_words (tag_record st x)

unfoldable pub file_of : Store → List ℕ
file_of st = form (drop 1 (header st)) (map (tag_row st) (row st))

-- BYTES OF THE FORM. So many words; the header, whose first word is not in the file; how many tags it says
unfoldable pub words_in : (count : ℕ) → (bytes : List ℕ) → List ℕ
words_in zero bs = []
words_in (suc k) bs = number_in word_bytes bs ∷ words_in k (drop word_bytes bs)

unfoldable pub header_in : (bytes : List ℕ) → List ℕ
header_in bs = 1 ∷ words_in row_words (drop front_bytes bs)

unfoldable pub count_in : (bytes : List ℕ) → ℕ
count_in bs = word_at (header_in bs) at_count

-- a record of a kind and of so many words begins
unfoldable pub begins : (kind words : ℕ) → (bytes : List ℕ) → Bool
begins kind k bs =
    eqb (number_in length_bytes bs) (kind_bytes + word_bytes * k) && eqb (number_in kind_bytes (drop length_bytes bs)) kind

-- the records of m tags, and then the last one, which says n
unfoldable pub tags_formed : (m n : ℕ) → (bytes : List ℕ) → Bool
tags_formed zero n bs = begins end_kind end_words bs && eqb (number_in word_bytes (drop front_bytes bs)) n
tags_formed (suc m) n bs = let rest = tags_formed m n (drop row_bytes bs) in begins tag_kind row_words bs && rest

-- 15 where this fails. The length is looked at first, so that no record is sought where none can be
unfoldable pub formed_at : (as_long : Bool) → (bytes : List ℕ) → Bool
formed_at false bs = false
formed_at true bs = all_hold is_byte bs && (begins header_kind row_words bs && tags_formed (count_in bs) (count_in bs) (drop row_bytes bs))

unfoldable pub formed : (bytes : List ℕ) → Bool
formed bs = formed_at (eqb (length bs) (file_bytes (count_in bs))) bs

-- THE READER. The rows of m tags, and of all
unfoldable pub rows_from : (m : ℕ) → (bytes : List ℕ) → List (List ℕ)
rows_from zero bs = []
rows_from (suc m) bs = words_in row_words (drop front_bytes bs) ∷ rows_from m (drop row_bytes bs)

unfoldable pub rows_in : (bytes : List ℕ) → List (List ℕ)
rows_in bs = rows_from (count_in bs) (drop row_bytes bs)

-- rows before which d begins are open, each with its depth after its words: that which the kinds so far give, in the order of the file
abbrev pub row_kind : (row : List ℕ) → Kind
row_kind row = word_kind (get_or row (suc at_kind) 0)

unfoldable pub deepened : (d : ℕ) → (rows : List (List ℕ)) → List (List ℕ)
deepened d [] = []
deepened d (row ∷ rows) = (row ++ own_depth (row_kind row) d ∷ []) ∷ deepened (depth_after (row_kind row) d) rows

-- a row's number, and the seven words that rows give a tag: those of the first row with its number
abbrev pub row_number : (row : List ℕ) → ℕ
row_number row = get_or row at_number 0

unfoldable pub record_in : (rows : List (List ℕ)) → (tag : ℕ) → List ℕ
record_in [] x = replicate tag_words 0
record_in (row ∷ rows) x = let later = record_in rows x in cond (eqb (row_number row) x) (drop 1 row) later

-- the words that a file says: the header, then the tags by number from 0
unfoldable pub file_words : (bytes : List ℕ) → List ℕ
file_words bs = header_in bs ++ flat_map (record_in (deepened 0 (rows_in bs))) (numbers 0 (count_in bs))

-- a store is read from a file where its words say it and it is that store's file; else none is
unfoldable pub own_file : Option Store → (bytes : List ℕ) → Option Store
own_file none bs = none
own_file (some st) bs = cond (same (file_of st) bs) (some st) none

unfoldable pub read_formed : (of_the_form : Bool) → (bytes : List ℕ) → Option Store
read_formed false bs = none
read_formed true bs = own_file (read (file_words bs)) bs

unfoldable pub read_file : (bytes : List ℕ) → Option Store
read_file bs = read_formed (formed bs) bs
