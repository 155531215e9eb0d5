-- A store as words, and the reader from words to a store (document 01, "The book in words", "Sound means").
-- Assumes nothing: these are definitions.
use Rattle.std.specs.Prelude.{◌≡◌, Bool, true, false, ◌&&◌, cond, ℕ, zero, suc, pred, leb, length, get_or}
use mathlib.Core.List.{List, [], ◌∷◌, ◌++◌, map, flat_map}
use Rattle.std.proofs.Math.Option.{Option, none, some}
use Rattle.store_types.specs.Limits.{no_tag, most_levels, most_tags}
use Rattle.store_types.specs.Layout.{at_s, at_r, at_height, at_count, at_first, at_book, at_stamp, header_words, at_next, at_mate, at_up, at_kind, at_depth, header_list, record_list, word_at, words_for, field, label_at}
use Rattle.lists.specs.Lists.{numbers}
use Rattle.lists.specs.Fronts.{starts_with}
use Rattle.tree.specs.Book.{Book, height, power_width}
use Rattle.tree.specs.Spelling.{spelled}
use Rattle.calls.specs.Kind.{kind_word, word_kind}
use Rattle.calls.specs.Store.{Store, Fact, new_fact, fact, count, row, label, next_in, prior_in}
use Rattle.calls.specs.Sound.{degrees_fit, sound}

-- THE WORDS OF A STORE: the header
unfoldable pub header : Store → List ℕ
header st =
    header_list st.book.s st.book.r (height st.book) (count st) (get_or (row st) 0 no_tag) st.number st.stamp

-- a tag's record
unfoldable pub tag_record : Store → (tag : ℕ) → List ℕ
tag_record st x =
    record_list (label st x) (next_in (row st) x) (prior_in (row st) x) (fact st x).mate (fact st x).up (kind_word (fact st x).kind (fact st x).marked) (fact st x).depth

-- the header, then the tags by number from 0
unfoldable pub words_of : Store → List ℕ
words_of st = header st ++ flat_map (tag_record st) (numbers 0 (count st))

-- words that say a store: it is sound, and they are its words with anything after them
unfoldable pub Says : (words : List ℕ) → Store → Type 0
Says ws st = (sound st ≡ true) × ((rest : List ℕ) × (ws ≡ words_of st ++ rest))

-- THE READER. So many tags along next
unfoldable pub follow : (steps : ℕ) → List ℕ → (tag : ℕ) → List ℕ
follow zero ws x = []
follow (suc n) ws x = x ∷ follow n ws (field ws x at_next)

unfoldable pub read_fact : List ℕ → (tag : ℕ) → Fact
read_fact ws x =
    let c = field ws x at_kind in
    new_fact (word_kind c) (leb 16 c) (field ws x at_mate) (field ws x at_up) (field ws x at_depth)

-- the widths that a header gives
unfoldable pub header_width : List ℕ → ℕ → ℕ
header_width ws = power_width (word_at ws at_s) (word_at ws at_r)

-- the book that s, r, H, next and the labels spell
unfoldable pub read_book : List ℕ → Book
read_book ws =
    let tags = follow (word_at ws at_count) ws (word_at ws at_first) in
    record {
      s = word_at ws at_s;
      r = word_at ws at_r;
      under = pred (word_at ws at_height);
      root = spelled (pred (word_at ws at_height)) (header_width ws) 0 tags (map (label_at ws) tags);
    }

-- the only store that words can say
unfoldable pub read_store : List ℕ → Store
read_store ws =
    record { book = read_book ws; number = word_at ws at_book; stamp = word_at ws at_stamp; facts = map (read_fact ws) (numbers 0 (word_at ws at_count)) }

-- the header's ranges and the room for n tags, which every sound store has; looked at first, so that no power, tag or
-- record is computed of words that can say no store
unfoldable pub header_in_range : List ℕ → Bool
header_in_range ws =
    let h = word_at ws at_height in
    let n = word_at ws at_count in
    (degrees_fit (word_at ws at_s) (word_at ws at_r) && (leb 1 h && leb h most_levels)) && (leb n most_tags && leb (words_for header_words n) (length ws))

unfoldable pub read_in_range : (in_range : Bool) → List ℕ → Option Store
read_in_range false ws = none
read_in_range true ws = let st = read_store ws in cond (sound st && starts_with (words_of st) ws) (some st) none

-- a store is said where it is sound and these are its words; else none is
unfoldable pub read : List ℕ → Option Store
read ws = read_in_range (header_in_range ws) ws
