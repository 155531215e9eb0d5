-- The records of a file: words in bytes are read back, and a record's bytes are told by its tests. Assumes nothing.
use mathlib.Core.Path.{◌≡◌, refl, ap, sym, ◌∙◌}
use mathlib.Core.Bool.{Bool, true}
use mathlib.Core.List.{List, [], ◌∷◌, ◌++◌, append_assoc, flat_map}
use Prim.Native.Nat.{ℕ, zero, suc, ◌+◌, ◌*◌, ◌^◌, ◌≤◌, ◌<◌}
use native.Mathlib.Omega.{arith}
use borrow.Author.Tests.{eq-eqb, eqb-true, lt-ltb, ltb-true}
use lib.Dec.{ltb, eqb}
use lib.ListN.{length, get_or, take, drop, length-append, length-drop, take-append-drop}
use lib.Seq.{drop_at, drop-drop, take-add}
use Rattle.store_types.specs.Limits.{word_limit}
use Rattle.store_types.specs.FileLayout.{length_bytes, kind_bytes, word_bytes, front_bytes, row_words, row_bytes}
use Rattle.lists.specs.Lists.{all_hold}
use Rattle.lists.proofs.Tests.{and_left, and_right, and_both}
use Rattle.lists.proofs.AllHold.{all_first, all_rest, all_append, all_drop, all_get_d, all_joined}
use Rattle.little_endian.specs.Numbers.{byte_limit, is_byte, low_first, number_in}
use Rattle.little_endian.proofs.Numbers.{length_low, low_bytes, number_low, number_fits, low_number}
use Rattle.little_endian.proofs.Stores.{length_numbers_in}
use Rattle.calls.specs.File.{record_front, file_record, words_in, begins}
use Rattle.calls.specs.Promise.{is_row}

-- ROWS: seven numbers, each of which fits a word
abbrev pub is_long : List ℕ → Bool
is_long ws = eqb (length ws) row_words

abbrev is_word : ℕ → Bool
is_word w = ltb w word_limit

pub row_long : (ws : List ℕ) → is_row ws ≡ true → is_long ws ≡ true
unfolding is_row
row_long ws h = and_left (is_long ws) (all_hold is_word ws) h

row_length : (ws : List ℕ) → is_row ws ≡ true → length ws ≡ row_words
row_length ws h = eqb-true _ _ (row_long ws h)

row_fits : (ws : List ℕ) → is_row ws ≡ true → all_hold is_word ws ≡ true
unfolding is_row
row_fits ws h = and_right (is_long ws) (all_hold is_word ws) h

row_of : (ws : List ℕ) → length ws ≡ row_words → all_hold is_word ws ≡ true → is_row ws ≡ true
unfolding is_row
row_of ws n h = and_both (eq-eqb _ _ n) h

-- a word of a row is below the limit
pub word_below : (ws : List ℕ) (i : ℕ) → is_row ws ≡ true → i < row_words → get_or ws i 0 < word_limit
word_below ws i h l = ltb-true _ _ (all_get_d is_word ws i 0 (row_fits ws h) (omega (arith, row_length ws h)))

-- WORDS IN BYTES. Those of a list of words, with anything behind them, are read back
words_joined : (ws rest : List ℕ) → all_hold is_word ws ≡ true → words_in (length ws) (flat_map (low_first word_bytes) ws ++ rest) ≡ ws
unfolding words_in flat_map
words_joined [] rest h = refl
words_joined (w ∷ ws) rest h =
    let more = flat_map (low_first word_bytes) ws ++ rest in
    rw (
      append_assoc (low_first word_bytes w) (flat_map (low_first word_bytes) ws) rest,
      number_low word_bytes w more (ltb-true _ _ (all_first is_word w ws h)),
      drop_at (low_first word_bytes w) more word_bytes (length_low word_bytes w),
      words_joined ws rest (all_rest is_word w ws h),
    )

-- and words that are read from bytes: so many, each fits, and the bytes are theirs
pub length_words_in : (k : ℕ) (bs : List ℕ) → length (words_in k bs) ≡ k
unfolding words_in
length_words_in zero bs = refl
length_words_in (suc k) bs = ap suc (length_words_in k (drop word_bytes bs))

words_in_fit : (k : ℕ) (bs : List ℕ) → all_hold is_byte bs ≡ true → all_hold is_word (words_in k bs) ≡ true
unfolding words_in all_hold
words_in_fit zero bs h = refl
words_in_fit (suc k) bs h =
    and_both (lt-ltb (number_in word_bytes bs) word_limit (number_fits word_bytes bs h))
    (words_in_fit k (drop word_bytes bs) (all_drop is_byte word_bytes bs h))

words_back : (k : ℕ) (bs : List ℕ) → all_hold is_byte bs ≡ true → word_bytes * k ≤ length bs →
    flat_map (low_first word_bytes) (words_in k bs) ≡ take (word_bytes * k) bs
unfolding words_in flat_map
words_back zero bs h l = refl
words_back (suc k) bs h l =
    let next : word_bytes * suc k ≡ word_bytes + word_bytes * k = omega arith in
    rw (
      next,
      take-add word_bytes (word_bytes * k) bs,
      low_number word_bytes bs h (omega arith),
      words_back k (drop word_bytes bs) (all_drop is_byte word_bytes bs h) (omega (arith, length-drop word_bytes bs)),
    )

-- so a record of seven words is a row
pub row_in : (bs : List ℕ) → all_hold is_byte bs ≡ true → is_row (words_in row_words (drop front_bytes bs)) ≡ true
row_in bs h =
    let cs = drop front_bytes bs in
    row_of (words_in row_words cs) (length_words_in row_words cs) (words_in_fit row_words cs (all_drop is_byte front_bytes bs h))

-- A RECORD, with anything behind it: its words, its tests, how many bytes it has, and that they are bytes
pub length_record_front : (kind k : ℕ) → length (record_front kind k) ≡ front_bytes
length_record_front kind k =
    length-append (low_first length_bytes (kind_bytes + word_bytes * k)) (low_first kind_bytes kind)
    ∙ omega (arith, length_low length_bytes (kind_bytes + word_bytes * k), length_low kind_bytes kind)

-- by its length, its kind and its words
spread : (kind : ℕ) (ws : List ℕ) → file_record kind ws ≡ low_first length_bytes (kind_bytes + word_bytes * length ws) ++ (low_first kind_bytes kind ++ flat_map (low_first word_bytes) ws)
unfolding file_record
spread kind ws = append_assoc (low_first length_bytes (kind_bytes + word_bytes * length ws)) (low_first kind_bytes kind) _

module _ (kind : ℕ) (ws : List ℕ) where
  pub length_record : length (file_record kind ws) ≡ front_bytes + word_bytes * length ws
  unfolding file_record
  length_record =
      (length-append (record_front kind (length ws)) (flat_map (low_first word_bytes) ws)
      ∙ omega (arith, length_record_front kind (length ws), length_numbers_in word_bytes ws))

  pub record_bytes : all_hold is_byte (file_record kind ws) ≡ true
  record_bytes =
      let words = all_joined is_byte (low_first word_bytes) ws (low_bytes word_bytes) in
      rw (spread kind ws)
      (all_append is_byte (low_first length_bytes (kind_bytes + word_bytes * length ws)) _ (low_bytes length_bytes _)
      (all_append is_byte (low_first kind_bytes kind) _ (low_bytes kind_bytes kind) words))

  module _ (rest : List ℕ) where
    pub record_words : drop front_bytes (file_record kind ws ++ rest) ≡ flat_map (low_first word_bytes) ws ++ rest
    unfolding file_record
    record_words =
        rw (append_assoc (record_front kind (length ws)) (flat_map (low_first word_bytes) ws) rest)
        (drop_at (record_front kind (length ws)) (flat_map (low_first word_bytes) ws ++ rest) front_bytes (length_record_front kind (length ws)))

    pub record_begins : kind_bytes + word_bytes * length ws < byte_limit ^ length_bytes → kind < byte_limit ^ kind_bytes →
        begins kind (length ws) (file_record kind ws ++ rest) ≡ true
    unfolding begins
    record_begins few small =
        let n = kind_bytes + word_bytes * length ws in
        let more = flat_map (low_first word_bytes) ws in
        rw (
          spread kind ws,
          append_assoc (low_first length_bytes n) (low_first kind_bytes kind ++ more) rest,
          number_low length_bytes n ((low_first kind_bytes kind ++ more) ++ rest) few,
          drop_at (low_first length_bytes n) ((low_first kind_bytes kind ++ more) ++ rest) length_bytes (length_low length_bytes n),
          append_assoc (low_first kind_bytes kind) more rest,
          number_low kind_bytes kind (more ++ rest) small,
        )
        (and_both (eq-eqb n n refl) (eq-eqb kind kind refl))

-- bytes where a record begins are that record and what stands behind it
pub record_back : (kind k : ℕ) (bs : List ℕ) → all_hold is_byte bs ≡ true → front_bytes + word_bytes * k ≤ length bs → begins kind k bs ≡ true →
    bs ≡ file_record kind (words_in k (drop front_bytes bs)) ++ drop (front_bytes + word_bytes * k) bs
unfolding begins
record_back kind k bs h l e =
    let cs = drop length_bytes bs in
    let ds = drop front_bytes bs in
    let n = kind_bytes + word_bytes * k in
    let long = eqb-true (number_in length_bytes bs) n (and_left _ _ e) in
    let own = eqb-true (number_in kind_bytes cs) kind (and_right (eqb (number_in length_bytes bs) n) _ e) in
    let first : low_first length_bytes n ≡ take length_bytes bs = rw (← long) (low_number length_bytes bs h (omega arith)) in
    let second : low_first kind_bytes kind ≡ take kind_bytes cs =
    rw (← own) (low_number kind_bytes cs (all_drop is_byte length_bytes bs h) (omega (arith, length-drop length_bytes bs))) in
    let third = words_back k ds (all_drop is_byte front_bytes bs h) (omega (arith, length-drop front_bytes bs)) in
    sym (rw (
      spread kind (words_in k ds),
      length_words_in k ds,
      first,
      second,
      third,
      append_assoc (take length_bytes bs) (take kind_bytes cs ++ take (word_bytes * k) ds) (drop (front_bytes + word_bytes * k) bs),
      append_assoc (take kind_bytes cs) (take (word_bytes * k) ds) (drop (front_bytes + word_bytes * k) bs),
      ← drop-drop (word_bytes * k) front_bytes bs,
      take-append-drop (word_bytes * k) ds,
      ← drop-drop kind_bytes length_bytes bs,
      take-append-drop kind_bytes cs,
    )
    (take-append-drop length_bytes bs))

-- a row's record: the row is read back, and what stands behind it
module _ (kind : ℕ) (ws rest : List ℕ) (h : is_row ws ≡ true) where
  pub row_read : words_in row_words (drop front_bytes (file_record kind ws ++ rest)) ≡ ws
  row_read =
      rw (record_words kind ws rest)
      (ap (λ k. words_in k (flat_map (low_first word_bytes) ws ++ rest)) (sym (row_length ws h)) ∙ words_joined ws rest (row_fits ws h))

  pub row_past : drop row_bytes (file_record kind ws ++ rest) ≡ rest
  row_past = drop_at (file_record kind ws) rest row_bytes (omega (arith, length_record kind ws, row_length ws h))

  pub row_begins : kind < byte_limit ^ kind_bytes → begins kind row_words (file_record kind ws ++ rest) ≡ true
  row_begins small =
      let n = row_length ws h in
      rw n at (record_begins kind ws rest (omega arith) small)
