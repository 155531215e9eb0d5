-- The words of a store, word by word: how many, the header's, and each tag's. Assumes nothing.
use mathlib.Core.Path.{◌≡◌, refl}
use mathlib.Core.List.{List, ◌++◌}
use Prim.Native.Nat.{ℕ, ◌<◌}
use lib.ListN.{length, get_or}
use Rattle.store_types.specs.Limits.{no_tag}
use Rattle.store_types.specs.Layout.{at_version, at_s, at_r, at_height, at_count, at_first, at_book, at_stamp, header_words, tag_words, label_in, word_at, words_for, field, label_at}
use Rattle.words.proofs.Records.{RecordHolds, length_joined, field_joined, label_joined, holds_joined}
use Rattle.tree.specs.Book.{height}
use Rattle.calls.specs.Kind.{kind_word}
use Rattle.calls.specs.Store.{Store, fact, count, row, label, next_in, prior_in}
use Rattle.calls.specs.Words.{header, tag_record, words_of}

-- HOW MANY

length_header : (st : Store) → length (header st) ≡ header_words
unfolding header
length_header st = refl

length_record : (st : Store) (x : ℕ) → length (tag_record st x) ≡ tag_words
unfolding tag_record
length_record st x = refl

pub length_words : (st : Store) → length (words_of st) ≡ words_for header_words (count st)
unfolding words_of
length_words st = length_joined (header st) (tag_record st) (count st) (length_header st) (length_record st)

-- THE WORDS OF A TAG, with anything after the store's words: the k-th, and the label
module _ (st : Store) (rest : List ℕ) (x : ℕ) (l : x < count st) where
  pub field_word : (k : ℕ) → k < tag_words → field (words_of st ++ rest) x k ≡ get_or (tag_record st x) k 0
  unfolding words_of
  field_word k small = field_joined (header st) (tag_record st) (count st) (length_header st) (length_record st) rest x l k small

  pub label_word : label_at (words_of st ++ rest) x ≡ label_in (tag_record st x)
  unfolding words_of
  label_word = label_joined (header st) (tag_record st) (count st) (length_header st) (length_record st) rest x l

-- each by its name
abbrev pub TagSays : (ws : List ℕ) (st : Store) (x : ℕ) → Type 0
TagSays ws st x =
    RecordHolds ws x (label st x) (next_in (row st) x) (prior_in (row st) x) (fact st x).mate (fact st x).up (kind_word (fact st x).kind (fact st x).marked) (fact st x).depth

pub tag_says : (st : Store) (rest : List ℕ) (x : ℕ) → x < count st → TagSays (words_of st ++ rest) st x
unfolding words_of tag_record
tag_says st rest x l = holds_joined (header st) (tag_record st) (count st) (length_header st) (length_record st) rest x l refl

-- THE HEADER, word by word
pub record HeaderSays (ws : List ℕ) (st : Store) : Type 0 where
  pub version : word_at ws at_version ≡ 1
  pub degree_s : word_at ws at_s ≡ st.book.s
  pub degree_r : word_at ws at_r ≡ st.book.r
  pub levels : word_at ws at_height ≡ height st.book
  pub issued : word_at ws at_count ≡ count st
  pub first : word_at ws at_first ≡ get_or (row st) 0 no_tag
  pub number : word_at ws at_book ≡ st.number
  pub stamp : word_at ws at_stamp ≡ st.stamp

pub header_says : (st : Store) (rest : List ℕ) → HeaderSays (words_of st ++ rest) st
unfolding words_of header
header_says st rest =
    record {
      version = refl;
      degree_s = refl;
      degree_r = refl;
      levels = refl;
      issued = refl;
      first = refl;
      number = refl;
      stamp = refl;
    }
