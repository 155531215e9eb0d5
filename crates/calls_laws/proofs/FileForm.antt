-- The form of a file: bytes that are written by it pass its tests and are read back as its header and rows, and bytes that pass
-- are written by it from what is read. Assumes nothing.
use mathlib.Core.Path.{◌≡◌, refl, ap, sym, ◌∙◌}
use mathlib.Core.Bool.{Bool, true, false, ◌&&◌, true≢false}
use mathlib.Core.List.{List, [], ◌∷◌, ◌++◌, append_assoc, append-nil, flat_map}
use Prim.Native.Nat.{ℕ, zero, suc, ◌+◌, ◌*◌, ◌<◌}
use native.Mathlib.Omega.{arith}
use borrow.Author.Tests.{eq-eqb, eqb-true}
use lib.Dec.{eqb}
use lib.ListN.{length, drop, length-append, length-drop, drop_of_length-le}
use Rattle.store_types.specs.Limits.{word_limit}
use Rattle.store_types.specs.Layout.{at_count, word_at}
use Rattle.store_types.specs.FileLayout.{header_kind, tag_kind, end_kind, word_bytes, front_bytes, row_words, end_words, row_bytes, end_bytes, file_bytes}
use Rattle.lists.specs.Lists.{all_hold}
use Rattle.lists.proofs.Tests.{and_left, and_right, and_both}
use Rattle.lists.proofs.AllHold.{all_first, all_rest, all_append, all_drop, all_joined, all_weaker}
use Rattle.little_endian.specs.Numbers.{is_byte, low_first, number_in}
use Rattle.little_endian.proofs.Numbers.{number_low}
use Rattle.calls.specs.File.{file_record, form, words_in, header_in, count_in, begins, tags_formed, formed_at, formed, rows_from, rows_in}
use Rattle.calls.specs.Promise.{is_row, FormedRight}
use Rattle.calls_laws.proofs.FileRecords.{is_long, row_long, word_below, row_in, length_record, record_bytes, record_words, record_begins, record_back, row_read, row_past, row_begins}

-- THE RECORDS OF TAGS, and the last: rows that are read from bytes
length_rows_from : (m : ℕ) (bs : List ℕ) → length (rows_from m bs) ≡ m
unfolding rows_from
length_rows_from zero bs = refl
length_rows_from (suc m) bs = ap suc (length_rows_from m (drop row_bytes bs))

rows_from_fit : (m : ℕ) (bs : List ℕ) → all_hold is_byte bs ≡ true → all_hold is_row (rows_from m bs) ≡ true
unfolding rows_from all_hold
rows_from_fit zero bs h = refl
rows_from_fit (suc m) bs h = and_both (row_in bs h) (rows_from_fit m (drop row_bytes bs) (all_drop is_byte row_bytes bs h))

tags_back : (m n : ℕ) (bs : List ℕ) → all_hold is_byte bs ≡ true → length bs ≡ row_bytes * m + end_bytes → tags_formed m n bs ≡ true →
    bs ≡ flat_map (file_record tag_kind) (rows_from m bs) ++ file_record end_kind (n ∷ [])
unfolding tags_formed rows_from words_in flat_map
tags_back zero n bs h l e =
    let said = number_in word_bytes (drop front_bytes bs) in
    let starts = and_left (begins end_kind end_words bs) (eqb said n) e in
    let own = eqb-true said n (and_right (begins end_kind end_words bs) (eqb said n) e) in
    record_back end_kind end_words bs h (omega arith) starts
    ∙ rw (drop_of_length-le bs {i = end_bytes} (omega arith), own, append-nil (file_record end_kind (n ∷ [])))
tags_back (suc m) n bs h l e =
    let more = drop row_bytes bs in
    let row = words_in row_words (drop front_bytes bs) in
    let starts = and_left (begins tag_kind row_words bs) (tags_formed m n more) e in
    let later = and_right (begins tag_kind row_words bs) (tags_formed m n more) e in
    let rest = tags_back m n more (all_drop is_byte row_bytes bs h) (omega (arith, length-drop row_bytes bs)) later in
    record_back tag_kind row_words bs h (omega arith) starts
    ∙ (ap (λ (l : List ℕ). file_record tag_kind row ++ l) rest
    ∙ sym (append_assoc (file_record tag_kind row) (flat_map (file_record tag_kind) (rows_from m more)) (file_record end_kind (n ∷ []))))

-- and rows that are written
length_tags : (rows : List (List ℕ)) → all_hold is_long rows ≡ true → length (flat_map (file_record tag_kind) rows) ≡ row_bytes * length rows
unfolding flat_map
length_tags [] h = refl
length_tags (ws ∷ rows) h =
    length-append (file_record tag_kind ws) (flat_map (file_record tag_kind) rows)
    ∙ omega (arith, length_record tag_kind ws, eqb-true (length ws) row_words (all_first is_long ws rows h), length_tags rows (all_rest is_long ws rows h))

rows_joined : (rows : List (List ℕ)) (rest : List ℕ) → all_hold is_row rows ≡ true →
    rows_from (length rows) (flat_map (file_record tag_kind) rows ++ rest) ≡ rows
unfolding rows_from flat_map
rows_joined [] rest h = refl
rows_joined (ws ∷ rows) rest h =
    let own = all_first is_row ws rows h in
    let more = flat_map (file_record tag_kind) rows ++ rest in
    rw (
      append_assoc (file_record tag_kind ws) (flat_map (file_record tag_kind) rows) rest,
      row_read tag_kind ws more own,
      row_past tag_kind ws more own,
      rows_joined rows rest (all_rest is_row ws rows h),
    )

tags_joined : (rows : List (List ℕ)) (n : ℕ) → all_hold is_row rows ≡ true → n < word_limit →
    tags_formed (length rows) n (flat_map (file_record tag_kind) rows ++ file_record end_kind (n ∷ [])) ≡ true
unfolding tags_formed flat_map
tags_joined [] n h l =
    let last = file_record end_kind (n ∷ []) in
    rw (← append-nil last)
    (and_both (record_begins end_kind (n ∷ []) [] (omega arith) (omega arith))
    (eq-eqb _ n (rw (record_words end_kind (n ∷ []) [], append-nil (flat_map (low_first word_bytes) (n ∷ []))) (number_low word_bytes n [] l))))
tags_joined (ws ∷ rows) n h l =
    let own = all_first is_row ws rows h in
    let more = flat_map (file_record tag_kind) rows ++ file_record end_kind (n ∷ []) in
    rw (
      append_assoc (file_record tag_kind ws) (flat_map (file_record tag_kind) rows) (file_record end_kind (n ∷ [])),
      row_past tag_kind ws more own,
      row_begins tag_kind ws more own (omega arith),
    )
    (tags_joined rows n (all_rest is_row ws rows h) l)

-- BYTES OF THE FORM, as facts
pub record Parts (bs : List ℕ) : Type 0 where
  pub long : length bs ≡ file_bytes (count_in bs)
  pub bytes : all_hold is_byte bs ≡ true
  pub head : begins header_kind row_words bs ≡ true
  pub tags : tags_formed (count_in bs) (count_in bs) (drop row_bytes bs) ≡ true

pub parts_of : (bs : List ℕ) → formed bs ≡ true → Parts bs
unfolding formed formed_at
parts_of bs e = go (eqb (length bs) (file_bytes (count_in bs))) refl e
  where
    go : (t : Bool) → eqb (length bs) (file_bytes (count_in bs)) ≡ t → formed_at t bs ≡ true → Parts bs
    go false l e = absurd (true≢false (sym e))
    go true l e =
        let head = begins header_kind row_words bs in
        let tags = tags_formed (count_in bs) (count_in bs) (drop row_bytes bs) in
        let rest = and_right (all_hold is_byte bs) (head && tags) e in
        record {
          long = eqb-true _ _ l;
          bytes = and_left (all_hold is_byte bs) (head && tags) e;
          head = and_left head tags rest;
          tags = and_right head tags rest;
        }

pub length_rows : (bs : List ℕ) → length (rows_in bs) ≡ count_in bs
unfolding rows_in
length_rows bs = length_rows_from (count_in bs) (drop row_bytes bs)

-- they are written by the form from what is read
pub form_back : (bs : List ℕ) → formed bs ≡ true → bs ≡ form (drop 1 (header_in bs)) (rows_in bs)
unfolding form header_in rows_in
form_back bs e =
    let p = parts_of bs e in
    let n = count_in bs in
    let more = drop row_bytes bs in
    let rest = tags_back n n more (all_drop is_byte row_bytes bs p.bytes) (omega (arith, p.long, length-drop row_bytes bs)) p.tags in
    record_back header_kind row_words bs p.bytes (omega (arith, p.long)) p.head
    ∙ ap (λ (l : List ℕ). file_record header_kind (words_in row_words (drop front_bytes bs)) ++ l)
    (rest ∙ rw (length_rows_from n more))

-- what is read fits
pub head_fits : (bs : List ℕ) → formed bs ≡ true → is_row (drop 1 (header_in bs)) ≡ true
unfolding header_in
head_fits bs e = row_in bs (parts_of bs e).bytes

pub rows_fit : (bs : List ℕ) → formed bs ≡ true → all_hold is_row (rows_in bs) ≡ true
unfolding rows_in
rows_fit bs e = rows_from_fit (count_in bs) (drop row_bytes bs) (all_drop is_byte row_bytes bs (parts_of bs e).bytes)

-- WHAT IS WRITTEN BY THE FORM: so many bytes, whether or not each number fits a word
pub length_form : (head : List ℕ) (rows : List (List ℕ)) → is_long head ≡ true → all_hold is_long rows ≡ true →
    length (form head rows) ≡ file_bytes (length rows)
unfolding form
length_form head rows h each =
    let last = file_record end_kind (length rows ∷ []) in
    let tags = flat_map (file_record tag_kind) rows in
    length-append (file_record header_kind head) (tags ++ last)
    ∙ omega (
      arith,
      length-append tags last,
      length_record header_kind head,
      eqb-true (length head) row_words h,
      length_tags rows each,
      length_record end_kind (length rows ∷ []),
    )

-- where each does, it is read back
pub header_form : (head : List ℕ) (rows : List (List ℕ)) → is_row head ≡ true → header_in (form head rows) ≡ 1 ∷ head
unfolding form header_in
header_form head rows h = rw (row_read header_kind head _ h)

module _ (head : List ℕ) (rows : List (List ℕ)) (h : is_row head ≡ true) (each : all_hold is_row rows ≡ true)
    (counted : word_at (1 ∷ head) at_count ≡ length rows) where
  pub count_form : count_in (form head rows) ≡ length rows
  unfolding count_in
  count_form = rw (header_form head rows h) counted

  pub rows_form : rows_in (form head rows) ≡ rows
  unfolding rows_in form
  rows_form = rw (count_form, row_past header_kind head _ h) (rows_joined rows (file_record end_kind (length rows ∷ [])) each)

  -- and is of the form
  pub form_formed : formed (form head rows) ≡ true
  unfolding formed formed_at form
  form_formed =
      let last = file_record end_kind (length rows ∷ []) in
      let tags = flat_map (file_record tag_kind) rows in
      let few : length rows < word_limit = omega (arith, word_below head 3 h (omega arith)) in
      let long = length_form head rows (row_long head h) (all_weaker is_row is_long row_long rows each) in
      let tag_bytes = all_joined is_byte (file_record tag_kind) rows (record_bytes tag_kind) in
      let more_bytes = all_append is_byte tags last tag_bytes (record_bytes end_kind (length rows ∷ [])) in
      rw (count_form, eq-eqb _ _ long, count_form)
      (and_both (all_append is_byte (file_record header_kind head) (tags ++ last) (record_bytes header_kind head) more_bytes)
      (and_both (row_begins header_kind head (tags ++ last) h (omega arith))
      (rw (row_past header_kind head (tags ++ last) h) (tags_joined rows (length rows) each few))))

-- bytes pass just where they are of the form
pub formed_right : FormedRight
unfolding FormedRight header_in count_in
formed_right bs = (
  λ e. record {
    head = drop 1 (header_in bs);
    rows = rows_in bs;
    head_fits = head_fits bs e;
    rows_fit = rows_fit bs e;
    counted = sym (length_rows bs);
    written = form_back bs e;
  },
  λ f. rw f.written (form_formed f.head f.rows f.head_fits f.rows_fit f.counted),
)
