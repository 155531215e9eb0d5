-- The file of a store: its numbers fit words where the store is sound, its rows and words are read back from it, and a file is
-- read as a store if and only if it is the file of that store. Assumes nothing.
use mathlib.Core.Path.{◌≡◌, refl, ap, sym, ◌∙◌}
use mathlib.Core.Bool.{Bool, true, false, false≢true}
use mathlib.Core.List.{List, [], ◌∷◌, ◌++◌, append-nil, map, flat_map}
use mathlib.Core.Logic.{◌⊎◌, inl, inr}
use mathlib.Core.Option.{Option, none, some}
use Prim.Native.Nat.{ℕ, zero, suc, ◌<◌}
use native.Mathlib.Omega.{arith}
use borrow.Author.Tests.{eq-eqb, ne_eqb, eqb-false, lt-ltb, ltb-true, ltb-false}
use lib.Dec.{ltb}
use lib.ListN.{length, get_or, drop, length-map, get_or-eq_default}
use Rattle.store_types.specs.Limits.{no_tag, word_limit}
use Rattle.store_types.specs.Layout.{at_count, at_book, word_at}
use Rattle.store_types.specs.FileLayout.{file_bytes}
use Rattle.lists.specs.Lists.{numbers, same, all_hold}
use Rattle.lists.proofs.Tests.{and_both, by_test}
use Rattle.lists.proofs.AllHold.{all_map}
use Rattle.lists.proofs.Same.{same_refl, same_equal}
use Rattle.tree.specs.Row.{member}
use Rattle.tree.specs.Book.{height, label_of, labels_of}
use Rattle.tree.specs.Promise.{LabelsRise}
use Rattle.tree_laws.proofs.Rows.{member_nil, member_first, member_later, member_cases, member_getD, number_bounds}
use Rattle.tree_laws.proofs.Labels.{length_labels, rising_of, rising_below, labels_rise}
use Rattle.calls.specs.Kind.{Kind, begin, end, text, code, kind_word, depth_after}
use Rattle.calls.specs.Store.{Store, fact, count, row, place_of, width, label, next_in, prior_in}
use Rattle.calls.specs.Sound.{sound}
use Rattle.calls.specs.Words.{header, tag_record, words_of, Says, read}
use Rattle.calls.specs.File.{tag_row, file_of, header_in, count_in, words_in, rows_in, formed, deepened, record_in, file_words, own_file, read_formed, read_file}
use Rattle.calls.specs.Promise.{is_row, HeightMost, ReaderRight, ReadsBack, FileReaderRight}
use Rattle.calls_laws.proofs.Tests.{Sound, sane, facts_of}
use Rattle.calls_laws.proofs.Widths.{fits_limit, store_widths}
use Rattle.calls_laws.proofs.Sections.{row_below, in_row, up_fits, mate_fits}
use Rattle.calls_laws.proofs.Marks.{marked_few}
use Rattle.calls_laws.proofs.Pairs.{placed}
use Rattle.calls_laws.proofs.Heights.{height_most}
use Rattle.calls_laws.proofs.Depths.{Depths, depths_of}
use Rattle.calls_laws.proofs.Reader.{kind_back, reads_back, reader_right}
use Rattle.calls_laws.proofs.WordSteps.{header_said}
use Rattle.calls_laws.proofs.FileRecords.{is_long, word_below}
use Rattle.calls_laws.proofs.FileForm.{head_fits, header_form, rows_form, length_form, form_formed}

-- seven numbers that fit are a row
seven : (a b c d e f g : ℕ) →
    a < word_limit → b < word_limit → c < word_limit → d < word_limit → e < word_limit → f < word_limit → g < word_limit →
    is_row (a ∷ b ∷ c ∷ d ∷ e ∷ f ∷ g ∷ []) ≡ true
unfolding is_row all_hold
seven a b c d e f g ha hb hc hd he hf hg =
    rw (lt-ltb a _ ha, lt-ltb b _ hb, lt-ltb c _ hc, lt-ltb d _ hd, lt-ltb e _ he, lt-ltb f _ hf, lt-ltb g _ hg)

-- EVERY WORD OF A SOUND STORE FITS A WORD, but for the book number, of which soundness says nothing
kind_fits : (k : Kind) (m : Bool) → kind_word k m < word_limit
unfolding kind_word code
kind_fits begin true = omega arith
kind_fits begin false = omega arith
kind_fits end true = omega arith
kind_fits end false = omega arith
kind_fits text true = omega arith
kind_fits text false = omega arith

module _ {st : Store} (h : Sound st) where
  -- a tag of the row, or no tag past its end
  tag_fits : (i : ℕ) → get_or (row st) i no_tag < word_limit
  tag_fits i =
      by_test (ltb i (length (row st)))
      (λ t. omega (arith, row_below h (get_or (row st) i no_tag) (member_getD (row st) i no_tag (ltb-true _ _ t)), h.few))
      (λ t. rw (get_or-eq_default (row st) no_tag (ltb-false i (length (row st)) t)) (omega arith))

  before_fits : (i : ℕ) → get_or (no_tag ∷ row st) i no_tag < word_limit
  before_fits zero = omega arith
  before_fits (suc i) = tag_fits i

  -- labels lie below the width of the root
  label_fits : (x : ℕ) → x < count st → label st x < word_limit
  unfolding LabelsRise label_of
  label_fits x l =
      let k = st.book in
      let w = width st in
      let rising = rising_of _ (labels_of w k) (labels_rise w k (store_widths st) (sane h)) in
      let inside : place_of st x < length (labels_of w k) = omega (arith, length_labels k.root w k.under 0, placed x h l) in
      omega (arith, rising_below 0 (w (height k)) (labels_of w k) rising (place_of st x) inside, fits_limit w (height k) h.labels_fit)

  up_below : (x : ℕ) → x < count st → (fact st x).up < word_limit
  up_below x l = go (up_fits h x l)
    where
      go : ((fact st x).up ≡ no_tag) ⊎ ((fact st x).up < count st) → (fact st x).up < word_limit
      go (inl e) = omega arith
      go (inr k) = omega (arith, h.few)

  record_fits : (x : ℕ) → x < count st → is_row (tag_row st x) ≡ true
  unfolding tag_row tag_record next_in prior_in
  record_fits x l =
      seven x (label st x) (next_in (row st) x) (prior_in (row st) x) (fact st x).mate (fact st x).up
      (kind_word (fact st x).kind (fact st x).marked)
      (omega (arith, h.few)) (label_fits x l) (tag_fits (suc (place_of st x))) (before_fits (place_of st x))
      (omega (arith, mate_fits h x l, h.few)) (up_below x l) (kind_fits (fact st x).kind (fact st x).marked)

  records_fit : (xs : List ℕ) → ((x : ℕ) → member x xs ≡ true → x < count st) → all_hold is_row (map (tag_row st) xs) ≡ true
  unfolding all_hold
  records_fit [] below = refl
  records_fit (x ∷ xs) below =
      and_both (record_fits x (below x (member_first x xs))) (records_fit xs (λ y m. below y (member_later y x xs m)))

  header_row : height st.book < word_limit → st.number < word_limit → is_row (drop 1 (header st)) ≡ true
  unfolding header
  header_row high own =
      seven st.book.s st.book.r (height st.book) (count st) (get_or (row st) 0 no_tag) st.number st.stamp
      (omega (arith, h.degrees.s_most)) (omega (arith, h.degrees.r_most)) high
      (omega (arith, h.few)) (tag_fits 0) own (omega (arith, h.stamp_fits, h.few, marked_few st.facts))

-- so its header and its rows are such that the form is read back
pub store_rows : (st : Store) → sound st ≡ true → st.number < word_limit →
    (is_row (drop 1 (header st)) ≡ true) × (all_hold is_row (map (tag_row st) (row st)) ≡ true)
    × (word_at (1 ∷ drop 1 (header st)) at_count ≡ length (map (tag_row st) (row st)))
unfolding header HeightMost
store_rows st e own =
    let h = facts_of st e in (
      header_row h (omega (arith, height_most st e)) own,
      records_fit h (row st) (row_below h),
      sym (length-map (row st) (tag_row st) ∙ h.as_many),
    )

-- HOW MANY BYTES, whatever the book number
pub length_file : (st : Store) → sound st ≡ true → length (file_of st) ≡ file_bytes (count st)
unfolding file_of tag_row tag_record header
length_file st e =
    length_form (drop 1 (header st)) (map (tag_row st) (row st)) refl (all_map is_long (tag_row st) (row st) (λ x. refl))
    ∙ ap file_bytes (length-map (row st) (tag_row st) ∙ (facts_of st e).as_many)

-- THE STORE'S WORDS BACK FROM ITS FILE. The kinds of its rows give each tag its depth, since it is right along the row
abbrev pub full_row : Store → (tag : ℕ) → List ℕ
full_row st x = x ∷ tag_record st x

pub rows_deepened : (st : Store) (d : ℕ) (xs : List ℕ) (e : ℕ) → Depths st.facts d xs e → deepened d (map (tag_row st) xs) ≡ map (full_row st) xs
unfolding deepened tag_row tag_record
rows_deepened st d [] e h = refl
rows_deepened st d (x ∷ xs) e h =
    let kind = (kind_back (fact st x).kind (fact st x).marked).0 in
    rw (kind, ← h.0, rows_deepened st (depth_after (fact st x).kind d) xs e h.1)

-- and the rows give a tag its record: that of the first row with its number
record_said : (st : Store) (xs : List ℕ) (x : ℕ) → member x xs ≡ true → record_in (map (full_row st) xs) x ≡ tag_record st x
unfolding record_in
record_said st [] x m = absurd (false≢true (sym (member_nil x) ∙ m))
record_said st (y ∷ xs) x m =
    member_cases x y xs m
    (λ e. rw (e, eq-eqb y y refl))
    (λ e n. rw (ne_eqb y x (λ q. eqb-false x y e (sym q))) (record_said st xs x n))

-- lists joined over the same members
joined_same : (f g : ℕ → List ℕ) (xs : List ℕ) → ((x : ℕ) → member x xs ≡ true → f x ≡ g x) → flat_map f xs ≡ flat_map g xs
unfolding flat_map
joined_same f g [] each = refl
joined_same f g (x ∷ xs) each = rw (each x (member_first x xs), joined_same f g xs (λ y m. each y (member_later y x xs m)))

module _ (st : Store) (e : sound st ≡ true) (own : st.number < word_limit) where
  pub file_formed : formed (file_of st) ≡ true
  unfolding file_of
  file_formed = let (head, rows, counted) = store_rows st e own in form_formed (drop 1 (header st)) (map (tag_row st) (row st)) head rows counted

  pub rows_file : rows_in (file_of st) ≡ map (tag_row st) (row st)
  unfolding file_of
  rows_file = let (head, rows, counted) = store_rows st e own in rows_form (drop 1 (header st)) (map (tag_row st) (row st)) head rows counted

  pub header_file : header_in (file_of st) ≡ header st
  unfolding file_of header
  header_file = header_form (drop 1 (header st)) (map (tag_row st) (row st)) (store_rows st e own).0

  pub count_file : count_in (file_of st) ≡ count st
  unfolding count_in header
  count_file = rw header_file

  pub words_file : file_words (file_of st) ≡ words_of st
  unfolding file_words words_of
  words_file =
      let deep = depths_of st.facts 0 (row st) (facts_of st e).depths in
      rw (header_file, rows_file, count_file, rows_deepened st 0 (row st) deep.0 deep.1)
      (ap (λ (l : List ℕ). header st ++ l)
      (joined_same (record_in (map (full_row st) (row st))) (tag_record st) (numbers 0 (count st))
      (λ x m. record_said st (row st) x (in_row (facts_of st e) x (omega (arith, number_bounds x 0 (count st) m))))))

  -- and so its file is read as the store
  pub file_read : read_file (file_of st) ≡ some st
  unfolding read_file read_formed own_file ReadsBack
  file_read = rw (file_formed, words_file, rw (append-nil (words_of st)) at (reads_back st [] e), same_refl (file_of st))

-- WHAT IS READ: bytes of the form, whose words are read as a store of which they are the file
own_file_of : (o : Option Store) (bs : List ℕ) (st : Store) → own_file o bs ≡ some st → (o ≡ some st) × (bs ≡ file_of st)
unfolding own_file
own_file_of none bs st e = let z : ◌≡◌ {A = ℕ} 0 1 = cc in absurd (omega arith)
own_file_of (some su) bs st e =
    by_test (same (file_of su) bs)
    (λ t. let told : some su ≡ some st = rw t at e in
    let one : su ≡ st = cc in
    (told, rw one at (sym (same_equal (file_of su) bs t))))
    (λ t. let told = rw t at e in let z : ◌≡◌ {A = ℕ} 0 1 = cc in absurd (omega arith))

pub record ReadAs (bs : List ℕ) (st : Store) : Type 0 where
  pub of_the_form : formed bs ≡ true
  pub words : read (file_words bs) ≡ some st
  pub written : bs ≡ file_of st

pub read_as : (bs : List ℕ) (st : Store) → read_file bs ≡ some st → ReadAs bs st
unfolding read_file read_formed
read_as bs st e = go (formed bs) refl e
  where
    go : (t : Bool) → formed bs ≡ t → read_formed t bs ≡ some st → ReadAs bs st
    go false f e = let z : ◌≡◌ {A = ℕ} 0 1 = cc in absurd (omega arith)
    go true f e = let (words, written) = own_file_of (read (file_words bs)) bs st e in record { of_the_form = f; words = words; written = written }

-- the book number that a file says is a word
number_said : (bs : List ℕ) → formed bs ≡ true → word_at (file_words bs) at_book < word_limit
unfolding file_words header_in words_in
number_said bs f = word_below (drop 1 (header_in bs)) 5 (head_fits bs f) (omega arith)

-- a file is read as a store if and only if it is the file of that store, which is sound
pub file_reader_right : FileReaderRight
unfolding FileReaderRight ReaderRight Says
file_reader_right bs st = (
  λ e. let r = read_as bs st e in
      let says = (reader_right (file_words bs) st).0 r.words in
      (says.0, rw (header_said (file_words bs) st says).number at (number_said bs r.of_the_form), r.written),
  λ (e, own, written). rw written (file_read st e own),
)
