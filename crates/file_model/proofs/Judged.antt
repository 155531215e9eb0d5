-- What the judgement of bytes of the form decides: they pass if and only if a store is read from them. Assumes nothing.
use mathlib.Core.Path.{◌≡◌, refl, ap, sym, ◌∙◌}
use mathlib.Core.Bool.{true, false, ◌&&◌, not, cond}
use mathlib.Core.List.{List, [], ◌∷◌, ◌++◌, append_assoc, append-nil, map, flat_map}
use mathlib.Core.Option.{Option, none, some}
use Prim.Native.Nat.{ℕ, zero, suc, ◌+◌, ◌≤◌, ◌<◌}
use native.Mathlib.Nat.{not-suc-le-zero, le_of_suc-le-suc}
use native.Mathlib.Omega.{arith}
use borrow.Author.Tests.{eq-eqb, eqb-true, ne_eqb, lt-ltb, ltb-true, not-true}
use lib.Dec.{ltb, eqb}
use lib.ListN.{length, get_or, take, drop, length-map, drop_of_length-le}
use lib.Seq.{drop-cons, take_at, get_or-take, ext_get_or}
use Rattle.lists.specs.Lists.{numbers, same}
use Rattle.lists.proofs.Same.{same_refl}
use Rattle.lists.proofs.Tests.{and_left, and_right, and_both, fails}
use Rattle.store_types.specs.Limits.{no_tag}
use Rattle.store_types.specs.Layout.{at_count, at_first, header_words, at_next, word_at}
use Rattle.store_types.specs.FileLayout.{kept_words, row_words, at_number}
use Rattle.tree.specs.Row.{member, place}
use Rattle.tree_laws.proofs.Rows.{Distinct, member_nil, member_other, member_getD, place_getD, distinct_all_below}
use Rattle.calls.specs.Store.{Store, count, row, next_in}
use Rattle.calls.specs.Sound.{sound}
use Rattle.calls.specs.Words.{header, tag_record, words_of, Says}
use Rattle.calls.specs.File.{form, tag_row, file_of, header_in, count_in, formed, rows_in, row_number, deepened, record_in, file_words, own_file, read_formed, read_file}
use Rattle.calls.specs.Replies.{on_store}
use Rattle.calls.specs.Promise.{FileReaderRight}
use Rattle.calls_laws.proofs.Tests.{Sound, facts_of}
use Rattle.calls_laws.proofs.Fields.{field_word}
use Rattle.calls_laws.proofs.Reader.{get_d_map}
use Rattle.calls_laws.proofs.WordSteps.{read_said}
use Rattle.calls_laws.proofs.FileForm.{length_rows, form_back}
use Rattle.calls_laws.proofs.Files.{file_reader_right, rows_file, header_file, words_file}
use Rattle.walk_model.specs.Walk.{words_pass}
use Rattle.walk_model.specs.Promise.{WalkRight}
use Rattle.walk_model.proofs.WalkRight.{walk_right}
use Rattle.file_model.specs.Judge.{row_word, met_before, in_order, judged}
use Rattle.file_model.proofs.Rows.{length_header_in, length_row, met_later, fresh_field}

-- ROWS IN ORDER. The number that is due at a row: x at the first, then the next of the row before
abbrev pub due_at : (x : ℕ) (rows : List (List ℕ)) (i : ℕ) → ℕ
due_at x rows zero = x
due_at x rows (suc i) = row_word rows i (suc at_next)

-- a row has the number that is due, which is one of n and not met before
pub record InOrder (n x : ℕ) (met : List ℕ) (rows : List (List ℕ)) (i : ℕ) : Type 0 where
  pub due : row_word rows i at_number ≡ due_at x rows i
  pub own : row_word rows i at_number < n
  pub fresh : member (row_word rows i at_number) (met_before rows i ++ met) ≡ false

due_later : (x : ℕ) (ws : List ℕ) (rows : List (List ℕ)) (i : ℕ) → due_at (get_or ws (suc at_next) 0) rows i ≡ due_at x (ws ∷ rows) (suc i)
due_later x ws rows zero = refl
due_later x ws rows (suc i) = refl

met_after : (x : ℕ) (met ws : List ℕ) (rows : List (List ℕ)) (i : ℕ) → row_number ws ≡ x →
    met_before (ws ∷ rows) (suc i) ++ met ≡ met_before rows i ++ (x ∷ met)
met_after x met ws rows i is_due = rw (met_later ws rows i, append_assoc, is_due)

pub ordered : (n x : ℕ) (met : List ℕ) (rows : List (List ℕ)) → in_order n x met rows ≡ true → (i : ℕ) → i < length rows → InOrder n x met rows i
unfolding in_order met_before
ordered n x met [] e i l = absurd (not-suc-le-zero l)
ordered n x met (ws ∷ rows) e i l =
    let rest = in_order n (get_or ws (suc at_next) 0) (x ∷ met) rows in
    let number = eqb (row_number ws) x in
    let tag = ltb x n && not (member x met) in
    let here = and_left (number && tag) rest e in
    let is_due : row_number ws ≡ x = eqb-true _ _ (and_left number tag here) in
    let new = and_right number tag here in
    go i l is_due new (ordered n (get_or ws (suc at_next) 0) (x ∷ met) rows (and_right (number && tag) rest e))
  where
    go : (i : ℕ) → i < suc (length rows) → row_number ws ≡ x → (ltb x n && not (member x met)) ≡ true →
        ((j : ℕ) → j < length rows → InOrder n (get_or ws (suc at_next) 0) (x ∷ met) rows j) → InOrder n x met (ws ∷ rows) i
    go zero l is_due new later =
        record {
          due = is_due;
          own = rw is_due (ltb-true x n (and_left (ltb x n) (not (member x met)) new));
          fresh = rw is_due (not-true (member x met) (and_right (ltb x n) (not (member x met)) new));
        }
    go (suc i) l is_due new later =
        let h = later i (le_of_suc-le-suc l) in
        record {
          due = h.due ∙ due_later x ws rows i;
          own = h.own;
          fresh = ap (member (row_word rows i at_number)) (met_after x met ws rows i is_due) ∙ h.fresh;
        }

-- THE ROWS OF A SOUND STORE stand in order: from the i-th tag on, where none of those tags was met
module _ (st : Store) (e : sound st ≡ true) where
  once : Distinct (row st)
  once = (distinct_all_below (count st) (row st) (facts_of st e).each (facts_of st e).as_many).0

  below : (x : ℕ) → member x (row st) ≡ true → x < count st
  below = (distinct_all_below (count st) (row st) (facts_of st e).each (facts_of st e).as_many).1

  order_from : (m i : ℕ) (met : List ℕ) → i + m ≡ length (row st) →
      ((j : ℕ) → i ≤ j → j < length (row st) → member (get_or (row st) j no_tag) met ≡ false) →
      in_order (count st) (get_or (row st) i no_tag) met (map (tag_row st) (drop i (row st))) ≡ true
  unfolding in_order tag_row tag_record next_in
  order_from zero i met all new = let none_left : length (row st) ≤ i = omega arith in rw (drop_of_length-le (row st) none_left)
  order_from (suc m) i met all new =
      let x = get_or (row st) i no_tag in
      let inside : i < length (row st) = omega arith in
      let own : x < count st = below x (member_getD (row st) i no_tag inside) in
      let later : (j : ℕ) → suc i ≤ j → j < length (row st) → member (get_or (row st) j no_tag) (x ∷ met) ≡ false =
      λ j past l. member_other (get_or (row st) j no_tag) x met (ne_eqb (get_or (row st) j no_tag) x (λ same.
      omega (arith, ap (λ (y : ℕ). place y (row st)) same, place_getD (row st) i no_tag once inside, place_getD (row st) j no_tag once l)))
      ∙ new j (omega arith) l in
      rw (drop-cons (row st) i no_tag inside, eq-eqb x x refl, lt-ltb x (count st) own, new i (omega arith) inside, place_getD (row st) i no_tag once inside)
      (order_from m (suc i) (x ∷ met) (omega arith) later)

  rows_ordered : in_order (count st) (get_or (row st) 0 no_tag) [] (map (tag_row st) (row st)) ≡ true
  rows_ordered = order_from (length (row st)) 0 [] (omega arith) (λ j past l. member_nil (get_or (row st) j no_tag))

-- BYTES WHOSE WORDS SAY A STORE and whose rows stand in order have its header and its rows
module _ (bs : List ℕ) (st : Store) (says : Says (file_words bs) st)
    (order : in_order (count_in bs) (word_at (header_in bs) at_first) [] (rows_in bs) ≡ true) where
  facts : Sound st
  unfolding Says
  facts = facts_of st says.0

  -- the header is the store's, so it counts as many tags
  header_same : header_in bs ≡ header st
  unfolding Says file_words words_of header
  header_same =
      sym (take_at (header_in bs) (flat_map (record_in (deepened 0 (rows_in bs))) (numbers 0 (count_in bs))) header_words (length_header_in bs))
      ∙ ap (take header_words) says.1.1

  as_many : count_in bs ≡ count st
  unfolding count_in header
  as_many = ap (λ (ws : List ℕ). word_at ws at_count) header_same

  abbrev number : ℕ → ℕ
  number i = row_word (rows_in bs) i at_number

  in_place : (i : ℕ) → i < count st → InOrder (count_in bs) (word_at (header_in bs) at_first) [] (rows_in bs) i
  in_place i l = ordered (count_in bs) (word_at (header_in bs) at_first) [] (rows_in bs) order i (omega (arith, length_rows bs, as_many))

  -- a row's words after its number are those of its tag's record
  row_said : (i k : ℕ) → i < count st → k < kept_words → row_word (rows_in bs) i (suc k) ≡ get_or (tag_record st (number i)) k 0
  unfolding Says
  row_said i k l small =
      let h = in_place i l in
      let fresh : member (number i) (met_before (rows_in bs) i) ≡ false = rw append-nil at h.fresh in
      let own : number i < count st = omega (arith, h.own, as_many) in
      sym (fresh_field bs i (omega (arith, as_many)) h.own fresh k small)
      ∙ (rw says.1.1 (field_word st says.1.0 (number i) own k (omega arith)))

  -- the i-th row has the number of the i-th tag
  number_said : (i : ℕ) → i < count st → number i ≡ get_or (row st) i no_tag
  unfolding Says header tag_record next_in
  number_said zero l = (in_place zero l).due ∙ ap (λ (ws : List ℕ). word_at ws at_first) header_same
  number_said (suc i) l =
      let inside : i < length (row st) = omega (arith, facts.as_many) in
      (in_place (suc i) l).due
      ∙ row_said i at_next (omega arith) (omega arith)
      ∙ rw (number_said i (omega arith), place_getD (row st) i no_tag (once st says.0) inside)

  row_same : (i : ℕ) → i < count st → get_or (rows_in bs) i [] ≡ tag_row st (get_or (row st) i no_tag)
  unfolding tag_row tag_record
  row_same i l =
      let many = length_row bs i (omega (arith, as_many)) in
      ext_get_or 0 (get_or (rows_in bs) i []) (tag_row st (get_or (row st) i no_tag)) many (λ k small. go k (omega arith))
    where
      go : (k : ℕ) → k < row_words → row_word (rows_in bs) i k ≡ get_or (tag_row st (get_or (row st) i no_tag)) k 0
      go zero small = number_said i l
      go (suc k) small =
          row_said i k l (omega arith)
          ∙ ap (λ (x : ℕ). get_or (tag_record st x) k 0) (number_said i l)
          ∙ sym (get_or-take kept_words (tag_record st (get_or (row st) i no_tag)) k 0 (omega arith))

  rows_same : rows_in bs ≡ map (tag_row st) (row st)
  rows_same =
      let many : length (rows_in bs) ≡ length (map (tag_row st) (row st)) = omega (arith, length-map (row st) (tag_row st), length_rows bs, as_many, facts.as_many) in
      ext_get_or [] (rows_in bs) (map (tag_row st) (row st)) many
      (λ i l. let inside : i < count st = omega (arith, length_rows bs, as_many) in
      row_same i inside ∙ sym (get_d_map (tag_row st) (row st) i no_tag [] (omega (arith, facts.as_many))))

  -- so bytes that are made of them are the store's file, and it is read
  store_read : formed bs ≡ true → bs ≡ form (drop 1 (header_in bs)) (rows_in bs) → read_file bs ≡ some st
  unfolding read_file read_formed own_file file_of
  store_read of_form made =
      let its : bs ≡ file_of st = made ∙ rw (header_same, rows_same) in
      let own : same (file_of st) bs ≡ true = rw (← its) (same_refl bs) in
      rw (of_form, read_said (file_words bs) st says, own)

-- what is in a file from which a store is read
pub record FileHolds (bs : List ℕ) (st : Store) : Type 0 where
  pub is_sound : sound st ≡ true
  pub rows_are : rows_in bs ≡ map (tag_row st) (row st)
  pub header_is : header_in bs ≡ header st
  pub words_are : file_words bs ≡ words_of st

pub file_holds : (bs : List ℕ) (st : Store) → read_file bs ≡ some st → FileHolds bs st
unfolding FileReaderRight
file_holds bs st e =
    let (good, fits, its) = (file_reader_right bs st).0 e in
    record {
      is_sound = good;
      rows_are = rw its (rows_file st good fits);
      header_is = rw its (header_file st good fits);
      words_are = rw its (words_file st good fits);
    }

-- A STORE IS READ from bytes of the form if and only if they pass
pub judged_some : (bs : List ℕ) → formed bs ≡ true → judged bs ≡ true → (st : Store) × (read_file bs ≡ some st)
unfolding judged WalkRight
judged_some bs of_form e =
    let order = in_order (count_in bs) (word_at (header_in bs) at_first) [] (rows_in bs) in
    let passes = words_pass (file_words bs) in
    let (st, says) = (walk_right (file_words bs)).0 (and_right order passes e) in
    (st, store_read bs st says (and_left order passes e) of_form (form_back bs of_form))

pub some_judged : (bs : List ℕ) (st : Store) → read_file bs ≡ some st → judged bs ≡ true
unfolding judged WalkRight Says header count_in
some_judged bs st e =
    let h = file_holds bs st e in
    rw (h.header_is, h.rows_are, h.words_are)
    (and_both (rows_ordered st h.is_sound) ((walk_right (words_of st)).1 (st, (h.is_sound, ([], sym (append-nil (words_of st)))))))

-- so the refusal is 2 where they do not
pub judged_refusal : (bs : List ℕ) → formed bs ≡ true → on_store (read_file bs) (λ st. 0) ≡ cond (judged bs) 0 2
unfolding on_store
judged_refusal bs of_form = go (read_file bs) refl
  where
    go : (o : Option Store) → read_file bs ≡ o → on_store o (λ st. 0) ≡ cond (judged bs) 0 2
    go none e =
        let not_passed : judged bs ≡ false = fails (judged bs) (λ t. let s = (judged_some bs of_form t).1 in let q : ◌≡◌ {A = ℕ} 0 1 = cc in omega arith) in
        rw not_passed
    go (some st) e = rw (some_judged bs st e)
