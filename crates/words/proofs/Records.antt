-- Words made of a header and a record for each tag: how many there are, each label and field; and words that have each of
-- them are made so. Assumes nothing.
use mathlib.Core.Path.{◌≡◌, refl, ap, sym, ◌∙◌}
use mathlib.Core.List.{List, [], ◌∷◌, ◌++◌, append_assoc, flat_map}
use Prim.Native.Nat.{ℕ, zero, suc, ◌+◌, ◌*◌, ◌≤◌, ◌<◌}
use native.Mathlib.Nat.{zero-add, add-zero, not-suc-le-zero, le_of_suc-le-suc}
use native.Mathlib.Omega.{arith}
use lib.ListN.{length, get_or, take, drop, length-append, get_or-append}
use lib.Seq.{get_or-append-add, drop-cons}
use Rattle.lists.specs.Lists.{numbers}
use Rattle.lists.proofs.Numbers.{length_numbers, getD_numbers}
use Rattle.store_types.specs.Layout.{header_words, at_next, at_prior, at_mate, at_up, at_kind, at_depth, tag_words, record_list, label_in, records_at, words_for, field, label_at}
use Rattle.words.proofs.Fields.{words_next, words_up}

module _ (f : ℕ → List ℕ) (each : (x : ℕ) → length (f x) ≡ tag_words) where
  length_records : (xs : List ℕ) → length (flat_map f xs) ≡ tag_words * length xs
  unfolding flat_map
  length_records [] = refl
  length_records (x ∷ xs) = length-append (f x) (flat_map f xs) ∙ omega (arith, each x, length_records xs)

  -- the k-th word of the i-th record
  record_word : (xs rest : List ℕ) (i k : ℕ) → i < length xs → k < tag_words → get_or (flat_map f xs ++ rest) (tag_words * i + k) 0 ≡ get_or (f (get_or xs i 0)) k 0
  unfolding flat_map
  record_word [] rest i k l small = absurd (not-suc-le-zero l)
  record_word (x ∷ xs) rest zero k l small =
      let first : tag_words * 0 + k ≡ k = omega arith in
      rw (first, append_assoc) (get_or-append (f x) (flat_map f xs ++ rest) 0 k (omega (arith, each x)))
  record_word (x ∷ xs) rest (suc i) k l small =
      let later : tag_words * suc i + k ≡ length (f x) + (tag_words * i + k) = omega (arith, each x) in
      rw (later, append_assoc)
      (get_or-append-add (f x) (flat_map f xs ++ rest) (tag_words * i + k) 0 ∙ record_word xs rest i k (le_of_suc-le-suc l) small)

-- A RECORD by its parts, and from any of its fields and its label
pub record RecordHolds (ws : List ℕ) (x label next prior mate up kind depth : ℕ) : Type 0 where
  pub label_word : label_at ws x ≡ label
  pub next_word : field ws x at_next ≡ next
  pub prior_word : field ws x at_prior ≡ prior
  pub mate_word : field ws x at_mate ≡ mate
  pub up_word : field ws x at_up ≡ up
  pub kind_is : field ws x at_kind ≡ kind
  pub depth_is : field ws x at_depth ≡ depth

pub record_by : {ws : List ℕ} {x l : ℕ} (g : ℕ → ℕ) → ((k : ℕ) → k < tag_words → field ws x k ≡ g k) → label_at ws x ≡ l →
    RecordHolds ws x l (g at_next) (g at_prior) (g at_mate) (g at_up) (g at_kind) (g at_depth)
record_by g fields label =
    record {
      label_word = label;
      next_word = fields at_next (omega arith);
      prior_word = fields at_prior (omega arith);
      mate_word = fields at_mate (omega arith);
      up_word = fields at_up (omega arith);
      kind_is = fields at_kind (omega arith);
      depth_is = fields at_depth (omega arith);
    }

-- A HEADER, THE RECORDS OF n TAGS, and anything behind them
module _ (head : List ℕ) (f : ℕ → List ℕ) (n : ℕ) (long : length head ≡ header_words) (each : (x : ℕ) → length (f x) ≡ tag_words) where
  pub length_joined : length (head ++ flat_map f (numbers 0 n)) ≡ words_for header_words n
  unfolding words_for
  length_joined = length-append head (flat_map f (numbers 0 n)) ∙ omega (arith, length_records f each (numbers 0 n), length_numbers 0 n)

  module _ (rest : List ℕ) (x : ℕ) (own : x < n) where
    word : (k : ℕ) → k < tag_words → get_or ((head ++ flat_map f (numbers 0 n)) ++ rest) (header_words + tag_words * x + k) 0 ≡ get_or (f x) k 0
    word k small =
        let at : header_words + tag_words * x + k ≡ length head + (tag_words * x + k) = omega arith in
        rw (at, append_assoc)
        (get_or-append-add head (flat_map f (numbers 0 n) ++ rest) (tag_words * x + k) 0
        ∙ record_word f each (numbers 0 n) rest x k (omega (arith, length_numbers 0 n)) small
        ∙ ap (λ (y : ℕ). get_or (f y) k 0) (getD_numbers 0 n x 0 own ∙ zero-add x))

    pub field_joined : (k : ℕ) → k < tag_words → field ((head ++ flat_map f (numbers 0 n)) ++ rest) x k ≡ get_or (f x) k 0
    unfolding field records_at
    field_joined k small = word k small

    pub label_joined : label_at ((head ++ flat_map f (numbers 0 n)) ++ rest) x ≡ label_in (f x)
    unfolding label_at records_at
    label_joined = rw (add-zero (header_words + tag_words * x)) at (word 0 (omega arith))

    pub holds_joined : {l next prior mate up kind depth : ℕ} → f x ≡ record_list l next prior mate up kind depth →
        RecordHolds ((head ++ flat_map f (numbers 0 n)) ++ rest) x l next prior mate up kind depth
    holds_joined e = rw e at (record_by (λ k. get_or (f x) k 0) field_joined label_joined)

-- WORDS REBUILT. m words from place j + k on
abbrev window : List ℕ → (j k m : ℕ) → List ℕ
window ws j k zero = []
window ws j k (suc m) = get_or ws (j + k) 0 ∷ window ws j (suc k) m

drop_window : (ws : List ℕ) (j k m : ℕ) → j + k + m ≤ length ws → drop (j + k) ws ≡ window ws j k m ++ drop (j + k + m) ws
drop_window ws j k zero l = rw add-zero
drop_window ws j k (suc m) l =
    let next : j + suc k ≡ suc (j + k) = omega arith in
    let last : j + suc k + m ≡ j + k + suc m = omega arith in
    let rest = drop_window ws j (suc k) m (omega arith) in
    drop-cons ws (j + k) 0 (omega arith) ∙ ap (λ (l : List ℕ). get_or ws (j + k) 0 ∷ l) (rw (last, next) at rest)

drop_part : (ws : List ℕ) (j m : ℕ) → j + m ≤ length ws → drop j ws ≡ window ws j 0 m ++ drop (j + m) ws
drop_part ws j m l = rw (add-zero j) at (drop_window ws j 0 m (omega arith))

-- the words of the header, and those of a tag's record
abbrev pub header_of : List ℕ → List ℕ
header_of ws = window ws 0 0 header_words

abbrev pub record_of : List ℕ → (tag : ℕ) → List ℕ
record_of ws x =
    record_list (label_at ws x) (field ws x at_next) (field ws x at_prior) (field ws x at_mate) (field ws x at_up) (field ws x at_kind) (field ws x at_depth)

record_window : (ws : List ℕ) (x : ℕ) → window ws (words_for header_words x) 0 tag_words ≡ record_of ws x
unfolding label_at field records_at words_for
record_window ws x = rw (add-zero (header_words + tag_words * x))

-- which is that part of the words
pub record_part : (ws : List ℕ) (x : ℕ) → words_for header_words x + tag_words ≤ length ws →
    take tag_words (drop (words_for header_words x) ws) ≡ record_of ws x
record_part ws x l = ap (take tag_words) (drop_part ws (words_for header_words x) tag_words l) ∙ record_window ws x

module _ (ws head : List ℕ) (f : ℕ → List ℕ) (n : ℕ) (header : head ≡ header_of ws) (records : (x : ℕ) → x < n → f x ≡ record_of ws x)
    (room : words_for header_words n ≤ length ws) where
  -- the records from tag x on
  from_tag : (m x : ℕ) → x + m ≡ n → drop (words_for header_words x) ws ≡ flat_map f (numbers x m) ++ drop (words_for header_words n) ws
  unfolding flat_map numbers
  from_tag zero x e = let all : x ≡ n = omega arith in rw all
  from_tag (suc m) x e =
      let fits : words_for header_words x + tag_words ≤ length ws = omega (arith, words_up (suc x) n (omega arith), words_next x) in
      drop_part ws (words_for header_words x) tag_words fits
      ∙ rw (append_assoc, ← from_tag m (suc x) (omega arith), words_next x, records x (omega arith) ∙ sym (record_window ws x))

  pub rebuilt : ws ≡ (head ++ flat_map f (numbers 0 n)) ++ drop (words_for header_words n) ws
  unfolding words_for
  rebuilt =
      let fits : header_words ≤ length ws = omega arith in
      drop_part ws 0 header_words fits ∙ rw (append_assoc, ← from_tag n 0 (omega arith), header)

-- RECORDS BEHIND the words of n tags
module _ (n : ℕ) (ws ys : List ℕ) (many : length ws ≡ words_for header_words n) (i : ℕ) where
  pub field_behind : (k : ℕ) → field (ws ++ ys) (n + i) k ≡ get_or ys (tag_words * i + k) 0
  unfolding field words_for records_at
  field_behind k =
      let at : header_words + tag_words * (n + i) + k ≡ length ws + (tag_words * i + k) = omega arith in
      rw at (get_or-append-add ws ys (tag_words * i + k) 0)

  pub label_behind : label_at (ws ++ ys) (n + i) ≡ get_or ys (tag_words * i + 0) 0
  unfolding label_at words_for records_at
  label_behind =
      let at : header_words + tag_words * (n + i) ≡ length ws + (tag_words * i + 0) = omega arith in
      rw at (get_or-append-add ws ys (tag_words * i + 0) 0)
