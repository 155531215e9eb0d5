-- The form of a file from its bytes: what each way through the tests of a record and of the whole says. Assumes nothing.
use mathlib.Core.Path.{◌≡◌}
use mathlib.Core.Bool.{Bool, true, false, ◌&&◌, not, and-false}
use mathlib.Core.List.{List}
use Prim.Native.Nat.{ℕ, suc, ◌+◌, ◌*◌, ◌-◌, ◌≤◌, ◌<◌}
use native.Mathlib.Omega.{arith}
use borrow.Author.Tests.{eq-eqb, ne_eqb, lt-ltb, not-true, not-false}
use lib.Dec.{eqb}
use lib.ListN.{length, get_or, drop}
use lib.Seq.{drop-drop}
use Rattle.lists.specs.Lists.{all_hold}
use Rattle.lists.proofs.AllHold.{all_each}
use Rattle.store_types.specs.Layout.{at_s, at_r, at_height, at_count, at_first, at_book, at_stamp, header_list, word_at}
use Rattle.store_types.specs.FileLayout.{header_kind, tag_kind, end_kind, length_bytes, kind_bytes, word_bytes, front_bytes, row_words, end_words, row_bytes, end_bytes, file_bytes}
use Rattle.little_endian.specs.Numbers.{byte_limit, is_byte, number_in}
use Rattle.calls.specs.File.{words_in, header_in, count_in, begins, tags_formed, formed_at, formed}

-- THE HEADER, word by word
pub header_by : (bs : List ℕ) {s r h n first number stamp : ℕ} → s ≡ word_at (header_in bs) at_s → r ≡ word_at (header_in bs) at_r → h ≡ word_at (header_in bs) at_height → n ≡ word_at (header_in bs) at_count →
    first ≡ word_at (header_in bs) at_first → number ≡ word_at (header_in bs) at_book → stamp ≡ word_at (header_in bs) at_stamp →
    header_list s r h n first number stamp ≡ header_in bs
unfolding header_in words_in
header_by bs a b c d e f g = rw (a, b, c, d, e, f, g)

-- ONE RECORD: v is its length, w its kind
module _ (bs : List ℕ) (kind k at : ℕ) {v : ℕ} (lengths : v ≡ number_in length_bytes (drop at bs)) where
  pub begins_not : (v ≡ kind_bytes + word_bytes * k → ⊥) → false ≡ begins kind k (drop at bs)
  unfolding begins
  begins_not ne = rw (← lengths, ne_eqb v (kind_bytes + word_bytes * k) ne)

  pub begins_by_kind : {w : ℕ} → v ≡ kind_bytes + word_bytes * k → w ≡ number_in kind_bytes (drop (at + length_bytes) bs) → eqb w kind ≡ begins kind k (drop at bs)
  unfolding begins
  begins_by_kind e kinds = rw (← lengths, eq-eqb v (kind_bytes + word_bytes * k) e, drop-drop length_bytes at bs, ← kinds)

-- THE TAGS: what is left from the i-th on, at its place, comes to the whole
module _ (bs : List ℕ) (n i at : ℕ) {whole : Bool} (inv : tags_formed (n - i) n (drop at bs) ≡ whole) {t : Bool} where
  module _ (more : i < n) (begun : t ≡ begins tag_kind row_words (drop at bs)) where
    turn : (t && tags_formed (n - (i + 1)) n (drop (at + row_bytes) bs)) ≡ whole
    unfolding tags_formed
    turn = let z : n - i ≡ suc (n - (i + 1)) = omega arith in rw (begun, ← drop-drop row_bytes at bs) (rw z at inv)

    pub tag_missing : not t ≡ true → false ≡ whole
    tag_missing p = rw (not-true t p) at turn

    pub tag_there : not t ≡ false → tags_formed (n - (i + 1)) n (drop (at + row_bytes) bs) ≡ whole
    tag_there p = rw (not-false t p) at turn

  module _ (all : n ≤ i) (begun : t ≡ begins end_kind end_words (drop at bs)) where
    last : (t && eqb (number_in word_bytes (drop (at + front_bytes) bs)) n) ≡ whole
    unfolding tags_formed
    last = let z : n - i ≡ 0 = omega arith in rw (begun, ← drop-drop front_bytes at bs) (rw z at inv)

    pub last_missing : not t ≡ true → false ≡ whole
    last_missing p = rw (not-true t p) at last

    pub last_there : {v : ℕ} → not t ≡ false → v ≡ number_in word_bytes (drop (at + front_bytes) bs) → eqb v n ≡ whole
    last_there p e = rw e (rw (not-false t p) at last)

-- THE WHOLE FILE
all_bytes : (bs : List ℕ) → ((i : ℕ) → i < length bs → get_or bs i 0 < byte_limit) → all_hold is_byte bs ≡ true
unfolding is_byte
all_bytes bs each = all_each is_byte bs 0 (λ i l. lt-ltb (get_or bs i 0) byte_limit (each i l))

module _ (bs : List ℕ) where
  pub formed_not : (length bs ≡ file_bytes (count_in bs) → ⊥) → false ≡ formed bs
  unfolding formed formed_at
  formed_not ne = rw (ne_eqb (length bs) (file_bytes (count_in bs)) ne)

  pub formed_short : length bs < row_bytes + end_bytes → false ≡ formed bs
  formed_short l = formed_not (λ e. omega arith)

  module _ (long : length bs ≡ file_bytes (count_in bs)) {t : Bool} (begun : t ≡ begins header_kind row_words bs) where
    pub formed_headless : not t ≡ true → false ≡ formed bs
    unfolding formed formed_at
    formed_headless p = rw (eq-eqb (length bs) (file_bytes (count_in bs)) long, ← begun, not-true t p, and-false (all_hold is_byte bs))

    pub formed_by_tags : {q : Bool} → not t ≡ false → ((i : ℕ) → i < length bs → get_or bs i 0 < byte_limit) → q ≡ tags_formed (count_in bs) (count_in bs) (drop row_bytes bs) →
        q ≡ formed bs
    unfolding formed formed_at
    formed_by_tags p each e = rw (eq-eqb (length bs) (file_bytes (count_in bs)) long, ← begun, not-false t p, all_bytes bs each) e
