-- What reading a file replies and leaves: where a test refuses, and where the file is judged sound. Assumes nothing.
use mathlib.Core.Path.{◌≡◌, ap, ◌∙◌}
use mathlib.Core.Bool.{true, false, cond}
use mathlib.Core.List.{List, []}
use mathlib.Core.Option.{some}
use Prim.Native.Nat.{ℕ, ◌≤◌, ◌<◌}
use native.Mathlib.Omega.{arith}
use borrow.Author.Tests.{lt-ltb, le-ltb}
use lib.ListN.{length}
use Rattle.lists.specs.Lists.{first}
use Rattle.lists.proofs.Tests.{and_left}
use Rattle.lists.specs.Fronts.{in_front, replied, written}
use Rattle.lists.proofs.Fronts.{length_in_front}
use Rattle.lists.proofs.Replied.{replied_refused}
use Rattle.store_types.specs.Layout.{at_height, at_count, at_first, header_words, word_at, words_for}
use Rattle.store_types.specs.FileLayout.{at_number}
use Rattle.words.proofs.Fields.{header_fits, record_room}
use Rattle.calls.specs.Store.{Store, count}
use Rattle.calls.specs.Words.{header}
use Rattle.calls.specs.File.{header_in, count_in, formed, rows_in, deepened, read_file}
use Rattle.calls.specs.Replies.{store_or, file_refusal, read_reply, read_words}
use Rattle.calls_laws.proofs.FileForm.{parts_of, length_rows}
use Rattle.file_model.specs.Judge.{row_word, in_order, judged, with_rows}
use Rattle.file_model.proofs.Rows.{length_header_in}
use Rattle.file_model.proofs.RowKinds.{KindRow, kind_row}
use Rattle.file_model.proofs.Judged.{ordered, FileHolds, file_holds, judged_some, judged_refusal}
use Rattle.file_model.proofs.Written.{rows_written}
use Rattle.file_read.specs.Needs.{RowsFit}
use Rattle.std.specs.Prelude.{Ok, Err}
use Rattle.store_types.specs.Replies.{load_made}

-- REFUSED: the reply is the refusal, and the words are as they were
abbrev pub RefusedWith : (bytes words : List ℕ) → (refusal : ℕ) → Type 0
RefusedWith bs ws q = (Err q ≡ read_reply bs ws) × (ws ≡ read_words bs ws)

refused_with : (bs ws : List ℕ) (q : ℕ) → file_refusal (length ws) bs ≡ q → (q ≡ 0 → ⊥) → RefusedWith bs ws q
unfolding read_reply read_words written
refused_with bs ws q e nonzero = rw e (replied_refused Err q _ nonzero, replied_refused (λ _. ws) q _ nonzero)

module _ (bs ws : List ℕ) where
  pub not_formed : formed bs ≡ false → RefusedWith bs ws 15
  unfolding file_refusal first
  not_formed e = refused_with bs ws 15 (rw e) (λ z. omega arith)

  -- bytes of the form
  module _ (of_form : formed bs ≡ true) where
    pub few_words : length ws < words_for header_words (count_in bs) → RefusedWith bs ws 1
    unfolding file_refusal first
    few_words l = refused_with bs ws 1 (rw (of_form, lt-ltb (length ws) (words_for header_words (count_in bs)) l)) (λ z. omega arith)

    -- for which the words suffice: the judgement is the refusal
    module _ (room : words_for header_words (count_in bs) ≤ length ws) where
      by_judgement : file_refusal (length ws) bs ≡ cond (judged bs) 0 2
      unfolding file_refusal first
      by_judgement = rw (of_form, le-ltb (length ws) (words_for header_words (count_in bs)) room) (judged_refusal bs of_form)

      pub unsound : judged bs ≡ false → RefusedWith bs ws 2
      unsound e = refused_with bs ws 2 (by_judgement ∙ rw e) (λ z. omega arith)

-- where the words suffice, there is room for the header
pub header_room : {head : List ℕ} (bs : List ℕ) (lent : ℕ) → words_for header_words (count_in bs) ≤ lent → head ≡ header_in bs →
    (length head ≡ header_words) × (header_words ≤ lent)
header_room bs lent room e = (rw e (length_header_in bs), omega (arith, header_fits (count_in bs)))

-- ACCEPTED: the tests passed
pub record Passed (bs ws : List ℕ) : Type 0 where
  pub of_form : formed bs ≡ true
  pub room : words_for header_words (count_in bs) ≤ length ws
  pub good : judged bs ≡ true

module _ {bs ws : List ℕ} (p : Passed bs ws) where
  accepted : file_refusal (length ws) bs ≡ 0
  accepted = by_judgement bs ws p.of_form p.room ∙ rw p.good

  -- the store that is read
  abbrev st : Store
  st = (judged_some bs p.of_form p.good).0

  is_read : read_file bs ≡ some st
  is_read = (judged_some bs p.of_form p.good).1

  holds : FileHolds bs st
  holds = file_holds bs st is_read

  counted : count_in bs ≡ count st
  unfolding count_in header
  counted = ap (λ (vs : List ℕ). word_at vs at_count) holds.header_is

  pub accepted_reply : {n h : ℕ} → n ≡ count_in bs → h ≡ word_at (header_in bs) at_height → Ok (load_made n h) ≡ read_reply bs ws
  unfolding read_reply replied store_or header
  accepted_reply count_is height_is = rw (count_is, height_is, accepted, is_read, counted, holds.header_is)

  -- each row's number is that of a tag
  row_below : (i : ℕ) → i < count_in bs → row_word (rows_in bs) i at_number < count_in bs
  unfolding judged
  row_below i l =
      let order = and_left (in_order (count_in bs) (word_at (header_in bs) at_first) [] (rows_in bs)) _ p.good in
      (ordered (count_in bs) (word_at (header_in bs) at_first) [] (rows_in bs) order i (omega (arith, length_rows bs))).own

  -- and its kind is that of the store's tag
  kind_of_row : (i : ℕ) → i < count_in bs → KindRow (rows_in bs) i
  kind_of_row i l = rw holds.rows_are (kind_row st holds.is_sound i (rw (← counted) l))

  -- with the header in front there is room for each row's record; with the rows in their places all is written
  module _ {head hs : List ℕ} (head_is : head ≡ header_in bs) (headed : hs ≡ in_front head ws) where
    pub rows_fit : {n : ℕ} → n ≡ count_in bs → RowsFit bs n hs
    rows_fit {n} count_is =
        let (as_many, fits) = header_room bs (length ws) p.room head_is in
        let long : length hs ≡ length ws = ap length headed ∙ length_in_front head ws (rw as_many fits) in
        record {
          long = (parts_of bs p.of_form).long;
          all = count_is;
          rooms = λ i l. record_room (count_in bs) (row_word (rows_in bs) i at_number) hs (rw long p.room) (row_below i (rw (← count_is) l));
          kinds = λ i l. let k = kind_of_row i (rw (← count_is) l) in record { small = k.small; low = k.low; high = k.high };
          opened = λ i l. (kind_of_row i (rw (← count_is) l)).opened;
        }

    pub accepted_words : {vs : List ℕ} → vs ≡ with_rows hs (deepened 0 (rows_in bs)) → vs ≡ read_words bs ws
    unfolding read_words written replied store_or
    accepted_words put =
        let enough : words_for header_words (count st) ≤ length ws = rw (← counted) p.room in
        rw (put, headed, head_is, accepted, is_read) (rows_written bs st ws holds.is_sound holds.rows_are holds.header_is enough)
