-- The records of a row of new tags (`row_records` and `with_records` of specs/Insert.antt): how many words they have, the
-- words of each, and that words which hold them all, and else are as before, are made so. Assumes nothing.
use mathlib.Core.Path.{◌≡◌, refl, ap, sym, ◌∙◌}
use mathlib.Core.List.{List, [], ◌∷◌, ◌++◌, append_assoc}
use Prim.Native.Nat.{ℕ, zero, suc, ◌+◌, ◌*◌, ◌≤◌, ◌<◌}
use native.Mathlib.Nat.{add-zero, not-suc-le-zero, le_of_suc-le-suc}
use native.Mathlib.Omega.{arith}
use lib.ListN.{length, get_or, take, drop, length-append, take-append-drop, get_or-append}
use lib.Seq.{length-take-le, get_or-append-add, get_or-take, drop-drop, ext_get_or}
use Rattle.store_types.specs.Limits.{no_tag}
use Rattle.store_types.specs.Layout.{header_words, tag_words, word_at, words_for, field, label_at}
use Rattle.lists.specs.Lists.{numbers}
use Rattle.words.proofs.Fields.{words_next, words_up}
use Rattle.words.proofs.Records.{record_of, record_part, field_behind, label_behind}
use Rattle.calls.specs.Store.{Fact, fact_in}
use Rattle.edit_model.specs.Insert.{new_record, row_records, with_records}

-- BEHIND AND BEFORE the i-th of k tags from number x on: one of them, or what the row stands before and behind
abbrev pub row_next : (x k next i : ℕ) → ℕ
row_next x k z i = get_or (numbers x k ++ (z ∷ [])) (suc i) no_tag

abbrev pub row_prior : (x k prior i : ℕ) → ℕ
row_prior x k y i = get_or (y ∷ numbers x k) i no_tag

-- so the record of the i-th
abbrev pub row_record : (x prior next : ℕ) → List Fact → (i : ℕ) → List ℕ
row_record x y z ts i = new_record (row_next x (length ts) z i) (row_prior x (length ts) y i) (fact_in ts i)

pub length_row_records : (x y z : ℕ) (ts : List Fact) → length (row_records x y z ts) ≡ tag_words * length ts
unfolding row_records new_record
length_row_records x y z [] = refl
length_row_records x y z (t ∷ []) = refl
length_row_records x y z (t ∷ u ∷ ts) =
    length-append (new_record (suc x) y t) (row_records (suc x) x z (u ∷ ts)) ∙ omega (arith, length_row_records (suc x) x z (u ∷ ts))

-- THE WORDS of each
row_word : (x y z : ℕ) (ts : List Fact) (i j : ℕ) → i < length ts → j < tag_words → get_or (row_records x y z ts) (tag_words * i + j) 0 ≡ get_or (row_record x y z ts i) j 0
unfolding row_records new_record numbers
row_word x y z [] i j l small = absurd (not-suc-le-zero l)
row_word x y z (t ∷ []) zero j l small = let first : tag_words * 0 + j ≡ j = omega arith in rw first
row_word x y z (t ∷ []) (suc i) j l small = absurd (not-suc-le-zero (le_of_suc-le-suc l))
row_word x y z (t ∷ u ∷ ts) zero j l small =
    let first : tag_words * 0 + j ≡ j = omega arith in
    rw first (get_or-append (new_record (suc x) y t) (row_records (suc x) x z (u ∷ ts)) 0 j small)
row_word x y z (t ∷ u ∷ ts) (suc i) j l small =
    let later : tag_words * suc i + j ≡ tag_words + (tag_words * i + j) = omega arith in
    rw later (get_or-append-add (new_record (suc x) y t) (row_records (suc x) x z (u ∷ ts)) (tag_words * i + j) 0
    ∙ row_word (suc x) x z (u ∷ ts) i j (le_of_suc-le-suc l) small)

-- behind the words of n tags
module _ (n : ℕ) (ws : List ℕ) (many : length ws ≡ words_for header_words n) (y z : ℕ) (ts : List Fact) (i : ℕ) (inside : i < length ts) where
  pub row_field : (j : ℕ) → j < tag_words → field (ws ++ row_records n y z ts) (n + i) j ≡ get_or (row_record n y z ts i) j 0
  row_field j small = field_behind n ws (row_records n y z ts) many i j ∙ row_word n y z ts i j inside small

  pub row_label : label_at (ws ++ row_records n y z ts) (n + i) ≡ no_tag
  unfolding new_record
  row_label = label_behind n ws (row_records n y z ts) many i ∙ row_word n y z ts i 0 inside (omega arith)

-- WORDS THAT HOLD THEM from tag x on, each record in its place
record_first : (ws : List ℕ) (x : ℕ) → words_for header_words (suc x) ≤ length ws →
    drop (words_for header_words x) ws ≡ record_of ws x ++ drop (words_for header_words (suc x)) ws
record_first ws x long =
    sym (take-append-drop tag_words (drop (words_for header_words x) ws))
    ∙ rw (record_part ws x (omega (arith, words_next x)), drop-drop, ← words_next x)

records_from : (ws : List ℕ) (x y z : ℕ) (ts : List Fact) → words_for header_words (x + length ts) ≤ length ws →
    ((i : ℕ) → i < length ts → record_of ws (x + i) ≡ row_record x y z ts i) →
    drop (words_for header_words x) ws ≡ row_records x y z ts ++ drop (words_for header_words (x + length ts)) ws
unfolding row_records numbers
records_from ws x y z [] long each = rw add-zero
records_from ws x y z (t ∷ []) long each =
    let here : x + 0 ≡ x = omega arith in
    let all : x + 1 ≡ suc x = omega arith in
    rw all (record_first ws x (rw all at long)
    ∙ ap (λ (l : List ℕ). l ++ drop (words_for header_words (suc x)) ws) (rw here at (each 0 (omega arith))))
records_from ws x y z (t ∷ u ∷ ts) long each =
    let here : x + 0 ≡ x = omega arith in
    let all : x + suc (suc (length ts)) ≡ suc x + suc (length ts) = omega arith in
    let later = records_from ws (suc x) x z (u ∷ ts) (rw all at long)
    (λ i l. let next : x + suc i ≡ suc x + i = omega arith in rw next at (each (suc i) (omega arith))) in
    record_first ws x (omega (arith, words_up (suc x) (x + suc (suc (length ts))) (omega arith)))
    ∙ ap (λ (l : List ℕ). l ++ drop (words_for header_words (suc x)) ws) (rw here at (each 0 (omega arith)))
    ∙ rw (all, append_assoc, ← later)

-- where all else is as before, they are put into the words before
pub records_put : (ws vs : List ℕ) (n y z : ℕ) (ts : List Fact) → words_for header_words (n + length ts) ≤ length ws → length vs ≡ length ws →
    ((i : ℕ) → i < words_for header_words n → word_at vs i ≡ word_at ws i) →
    drop (words_for header_words (n + length ts)) vs ≡ drop (words_for header_words (n + length ts)) ws →
    ((i : ℕ) → i < length ts → record_of vs (n + i) ≡ row_record n y z ts i) → vs ≡ with_records ws n y z ts
unfolding with_records
records_put ws vs n y z ts long size front rest each =
    let w = words_for header_words n in
    let up = words_up n (n + length ts) (omega arith) in
    let own = length-take-le w vs (omega arith) in
    let old = length-take-le w ws (omega arith) in
    let same : take w vs ≡ take w ws =
    ext_get_or 0 (take w vs) (take w ws) (own ∙ sym old)
    (λ i l. let small : i < w = omega arith in get_or-take w vs i 0 small ∙ front i small ∙ sym (get_or-take w ws i 0 small)) in
    sym (take-append-drop w vs) ∙ rw (same, records_from vs n y z ts (omega arith) each, rest)
