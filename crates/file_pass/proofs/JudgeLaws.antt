-- One turn of the judging pass: the order of the rows, the rows that are read, and what the state keeps; and its end. Assumes
-- nothing.
use mathlib.Core.Path.{◌≡◌, refl, ap, sym, ◌∙◌}
use mathlib.Core.Bool.{Bool, true, false, ◌&&◌, not, cond, and-false, and-eq-true_iff}
use mathlib.Core.Logic.{inl, inr, by_cases}
use mathlib.Core.List.{List, [], ◌∷◌}
use Prim.Native.Nat.{ℕ, zero, suc, ◌+◌, ◌*◌, ◌-◌, ◌%◌, ◌≤◌, ◌<◌}
use native.Mathlib.Numerals.{add-one}
use native.Mathlib.Decide.{ℕ_discrete}
use native.Mathlib.Omega.{arith}
use borrow.Author.Tests.{ne_eqb, eqb-true, ltb-true, not-true, not-false}
use lib.Dec.{leb, eqb}
use lib.ListN.{length, get_or, set, drop, replicate, drop_of_length-le, get_or-append}
use lib.Seq.{drop-cons}
use Rattle.store_types.specs.Limits.{no_tag, most_tags}
use Rattle.words.specs.Offsets.{offset_of}
use Rattle.store_types.specs.Layout.{at_first, at_stamp, header_words, at_next, at_kind, at_depth, word_at, field}
use Rattle.tree.specs.Row.{member}
use Rattle.calls.specs.Kind.{word_kind, is_end, own_depth, opens_after, depth_after}
use Rattle.calls.specs.File.{header_in, count_in, rows_in, file_words}
use Rattle.calls_laws.proofs.FileForm.{length_rows}
use Rattle.walk_model.specs.Walk.{kind_fits, depth_fits, depth_after as word_after}
use Rattle.walk_model.proofs.Found.{word_back}
use Rattle.walk_model.proofs.Depths.{own_test, depth_by}
use Rattle.walk_tags.proofs.TagLaws.{kind_fitting}
use Rattle.shape.specs.Packed.{widths_in, lows_in, highs_in}
use Rattle.shape.specs.declared.Tables as by_height
use Rattle.walk_levels.specs.declared.Levels as kept
use Rattle.walk_levels.specs.Needs.{first_levels}
use Rattle.walk.specs.Needs.{Standing, Behind, shape_with, shape_in, first_state, state_with, ends_from}
use Rattle.walk.proofs.PassLaws.{walk_at, walk_whole, walk_start, standing_start}
use Rattle.walk.specs.declared.State as code
use Rattle.number_set.specs.Bits.{set_words, Holds}
use Rattle.number_set.proofs.SetLaws.{holds_none}
use Rattle.file_model.specs.Judge.{row_word, met_before, opens_before, in_order}
use Rattle.file_model.proofs.Rows.{length_header_in, fresh_field, fresh_label, fresh_depth}
use Rattle.file_model.proofs.RowKinds.{word_tests, opens_few}
use Rattle.file_tags.specs.Needs.{number_at, RowRead, number_passes}
use Rattle.file_pass.specs.Needs.{Opened, order_left, MetSoFar, FileFits, judgement, JudgedSo}
use Rattle.file_pass.specs.declared.Fault.{Fault}
use Rattle.file_pass.specs.declared.Fault.TheVariants.{TooDeep, Unsound}
use Rattle.std.specs.declared.result.Result.{Result}
use Rattle.std.specs.Prelude.{Err}
use Rattle.file_pass.proofs.OpenLaws.{end_deep, opened_more, too_many_open}

-- THE ORDER: a is whether the row's number passes
module _ (bs : List ℕ) (i x : ℕ) {a whole : Bool} (more : i < count_in bs) (passes : a ≡ number_passes bs i x) (inv : order_left bs i x ≡ whole) where
  order_turn : (a && in_order (count_in bs) (row_word (rows_in bs) i (suc at_next)) (x ∷ met_before (rows_in bs) i) (drop (suc i) (rows_in bs))) ≡ whole
  unfolding order_left number_passes in_order
  order_turn = rw passes (rw (drop-cons (rows_in bs) i [] (omega (arith, length_rows bs))) at inv)

  pub order_fails : not a ≡ true → false ≡ whole
  order_fails p = rw (not-true a p) at order_turn

  module _ (p : not a ≡ false) where
    parts : ((number_at bs i ≡ x) × (x < count_in bs)) × (member x (met_before (rows_in bs) i) ≡ false)
    unfolding number_passes
    parts =
        let all = simp and-eq-true_iff at (sym passes ∙ not-false a p) in
        ((eqb-true (number_at bs i) x all.0, ltb-true x (count_in bs) all.1.0), not-true (member x (met_before (rows_in bs) i)) all.1.1)

    pub number_own : x ≡ number_at bs i
    number_own = sym parts.0.0

    pub number_below : x < count_in bs
    number_below = parts.0.1

    -- so the row gives the words of its tag
    pub row_read : RowRead bs i
    row_read =
        let own = parts.0.0 in
        let below : number_at bs i < count_in bs = rw own parts.0.1 in
        let fresh : member (number_at bs i) (met_before (rows_in bs) i) ≡ false = rw own parts.1 in
        record {
          inside = more;
          below = below;
          label = fresh_label bs i more below fresh;
          fields = fresh_field bs i more below fresh;
          depth = fresh_depth bs i more below fresh;
        }

    pub order_more : order_left bs (i + 1) (row_word (rows_in bs) i (suc at_next)) ≡ whole
    unfolding order_left met_before
    order_more = rw (add-one i, parts.0.0) (rw (not-false a p) at order_turn)

    pub met_more : {met : List ℕ} → Holds met (x ∷ met_before (rows_in bs) i) → Holds met (met_before (rows_in bs) (i + 1))
    unfolding met_before
    met_more h = rw (add-one i, parts.0.0) h

-- so behind the row the next one is due
pub order_behind : (bs : List ℕ) (v q : code.State) {end : ℕ} {whole : Bool} → v.tag.0 ≡ number_at bs v.place → RowRead bs v.place → Behind (file_words bs) end v q →
    order_left bs (v.place + 1) (row_word (rows_in bs) v.place (suc at_next)) ≡ whole → order_left bs q.place q.tag.0 ≡ whole
order_behind bs v q own read behind inv = rw (behind.place, behind.tag, own, read.fields at_next (omega arith)) inv

-- THE ROW OF THE INNERMOST OPEN BEGIN
pub top_read : (bs : List ℕ) (i : ℕ) (opens : List ℕ) (depth o top : ℕ) → ((j : ℕ) → j < i → RowRead bs j) → Opened bs i opens depth o →
    top ≡ cond (eqb depth 0) 0 (get_or opens (depth - 1) 0) → (o ≡ no_tag → ⊥) → (o ≡ number_at bs top) × RowRead bs top
unfolding Opened
top_read bs i opens zero o top reads none is some = absurd (some none)
top_read bs i opens (suc d) o top reads (before, own, rest) is some =
    let one : suc d - 1 ≡ d = omega arith in
    let here : top ≡ get_or opens d 0 = rw (one, ne_eqb (suc d) 0 (λ e. omega arith)) at is in
    rw here (own, reads (get_or opens d 0) before)

-- WHAT A TURN KEEPS
reads_more : (bs : List ℕ) (i : ℕ) → ((j : ℕ) → j < i → RowRead bs j) → RowRead bs i → (j : ℕ) → j < suc i → RowRead bs j
reads_more bs i reads read j l = by_cases (ℕ_discrete j i) (λ e. rw e read) (λ ne. reads j (omega arith))

-- no more begins are open than tags stand before
pub shallow : {bs met opens : List ℕ} {v : code.State} → MetSoFar bs v met opens → v.depth ≤ v.place
shallow {bs} {v = v} so_far = rw so_far.counted (opens_few (rows_in bs) v.place)

module _ (bs : List ℕ) (v : code.State) (met opens : List ℕ) (so_far : MetSoFar bs v met opens) (own : v.tag.0 ≡ number_at bs v.place) (read : RowRead bs v.place)
    (room : v.depth < length opens) (fits : kind_fits (file_words bs) (count_in bs) v.parent.0 v.tag.0 (field (file_words bs) v.tag.0 at_kind) ≡ true) where
  abbrev x : ℕ
  x = number_at bs v.place

  abbrev c : ℕ
  c = field (file_words bs) x at_kind

  fits_row : kind_fits (file_words bs) (count_in bs) v.parent.0 x c ≡ true
  fits_row = rw (← own) fits

  -- its depth, by its kind: it fits with no test, since some begin is open before an end
  own_word : field (file_words bs) x at_depth ≡ own_depth (word_kind c) v.depth
  own_word = rw (so_far.counted, read.fields at_kind (omega arith)) read.depth

  by_kind : (depth_fits (file_words bs) x c v.depth ≡ eqb (field (file_words bs) x at_depth + cond (is_end (word_kind c)) 1 0) v.depth)
      × (word_after (file_words bs) x c ≡ opens_after (word_kind c) (field (file_words bs) x at_depth))
  by_kind =
      let kind = kind_fitting (file_words bs) (count_in bs) v.parent.0 x c fits_row in
      rw (word_back c kind.small kind.low kind.high) at (depth_by (file_words bs) x v.depth (word_kind c) (leb 16 c))

  deep_row : depth_fits (file_words bs) x c v.depth ≡ true
  deep_row =
      let kind = kind_fitting (file_words bs) (count_in bs) v.parent.0 x c fits_row in
      let some : is_end (word_kind c) ≡ true → 1 ≤ v.depth =
      λ e. end_deep bs v.place opens v.depth v.parent.0 room so_far.reads read so_far.opened fits_row
      (eqb-true (c % 16) 2 ((word_tests c kind.small kind.low kind.high).0 ∙ e)) in
      by_kind.0 ∙ own_test (word_kind c) (field (file_words bs) x at_depth) v.depth some own_word

  pub depth_right : depth_fits (file_words bs) v.tag.0 (field (file_words bs) v.tag.0 at_kind) v.depth ≡ true
  depth_right = rw own deep_row

  pub so_far_more : {met' opens' : List ℕ} {end : ℕ} (q : code.State) → opens' ≡ set opens v.depth v.place →
      Holds met' (met_before (rows_in bs) (v.place + 1)) → Behind (file_words bs) end v q → MetSoFar bs q met' opens'
  unfolding opens_before depth_after
  so_far_more q written holds behind =
      let next : q.place ≡ suc v.place = behind.place ∙ add-one v.place in
      record {
        holds = rw behind.place holds;
        reads = rw next (reads_more bs v.place so_far.reads read);
        opened = rw (next, written, behind.depth, behind.parent, own)
            (opened_more bs v.place opens v.depth v.parent.0 room so_far.reads read so_far.opened fits_row deep_row);
        counted = rw (next, behind.depth, own, by_kind.1, own_word, so_far.counted, read.fields at_kind (omega arith));
      }

-- AT THE START nothing is met or open
pub so_far_start : (bs opens : List ℕ) (v : code.State) → v.place ≡ 0 → v.parent.0 ≡ no_tag → v.depth ≡ 0 → MetSoFar bs v (replicate {A = ℕ} set_words 0) opens
unfolding met_before opens_before Opened
so_far_start bs opens v e none flat =
    record { holds = rw e holds_none; reads = λ j l. absurd (omega arith); opened = rw flat none; counted = rw (e, flat) }

-- AT THE END every row stood in order
pub order_end : (bs : List ℕ) (i x : ℕ) {whole : Bool} → count_in bs ≤ i → order_left bs i x ≡ whole → true ≡ whole
unfolding order_left in_order
order_end bs i x all inv = rw (drop_of_length-le (rows_in bs) {i = i} (omega (arith, length_rows bs))) at inv

-- THE JUDGEMENT of both tests, from either
module _ (order walk : Bool) (room n : ℕ) where
  pub out_of_order : false ≡ order → JudgedSo (Err Unsound) (order && walk) room n
  out_of_order e = inl (rw (← e))

  pub not_passed : false ≡ walk → JudgedSo (Err Unsound) (order && walk) room n
  not_passed e = inl (rw (← e, and-false order))

  pub deep_judged : {depth i : ℕ} → room ≤ depth → depth ≤ i → depth ≤ n - i → JudgedSo (Err TooDeep) (order && walk) room n
  deep_judged a b c = inr (refl, omega arith)

  pub last_judged : {a : Bool} → true ≡ order → a ≡ walk → {q : Result (Unit {0}) Fault} → q ≡ judgement a → JudgedSo q (order && walk) room n
  last_judged o w e = inl (rw (← o, ← w) e)

-- THE HEADER of the words that a file says is the file's
pub header_said : (bs : List ℕ) (k : ℕ) → k < header_words → word_at (file_words bs) k ≡ word_at (header_in bs) k
unfolding file_words
header_said bs k l = get_or-append (header_in bs) _ 0 k (omega (arith, length_header_in bs))

module _ {bs header : List ℕ} {tables : by_height.Tables} {n u : ℕ} (fits : FileFits bs header n u tables) where
  pub header_there : header_words ≤ length header
  header_there = rw fits.header_is (omega (arith, length_header_in bs))

  pub few_tags : count_in bs ≤ most_tags
  few_tags = omega (arith, fits.counted, fits.walk_fits.records.few)

  -- a place of a row, and a number below what the file says
  pub row_below : {i : ℕ} → i < n → i < count_in bs
  row_below l = omega (arith, fits.counted)

  pub tag_below : {x : ℕ} → x < count_in bs → x < n
  tag_below l = omega (arith, fits.counted)

  -- so the walk begins at its first tag
  pub pass_start : {lv : kept.Levels} {v : code.State} {first p : ℕ} (opens : List ℕ) → lv ≡ first_levels (widths_in tables) → first ≡ word_at header at_first → p ≡ offset_of first → v ≡ first_state first p →
      (v.place ≤ n) × Standing (file_words bs) n lv v
      × (walk_at (file_words bs) tables n u v lv ≡ walk_whole (file_words bs) tables n u)
      × (order_left bs v.place v.tag.0 ≡ order_left bs 0 (word_at (header_in bs) at_first))
      × MetSoFar bs v (replicate {A = ℕ} set_words 0) opens
  pass_start {lv} {v} {first} {p} opens begun of_first there e =
      let x = word_at (file_words bs) at_first in
      let is_first : first ≡ x = of_first ∙ ap (λ (ws : List ℕ). word_at ws at_first) fits.header_is ∙ sym (header_said bs at_first (omega arith)) in
      let here : v ≡ first_state x p = e ∙ ap (λ (y : ℕ). first_state y p) is_first in
      rw here (
        omega arith,
        standing_start (file_words bs) tables n u fits.walk_fits begun (rw is_first at there),
        walk_start (file_words bs) tables n u p begun,
        ap (order_left bs 0) (header_said bs at_first (omega arith)),
        so_far_start bs opens (first_state x p) refl refl refl,
      )

  -- more begins are open than rows are left
  pub deep_fails : {met opens : List ℕ} {whole : Bool} (v : code.State) (lv : kept.Levels) → MetSoFar bs v met opens →
      walk_at (file_words bs) tables n u v lv ≡ whole → n - v.place < v.depth → false ≡ whole
  unfolding state_with shape_with
  deep_fails {met} {opens} v lv so_far inv deep =
      sym (too_many_open bs v.place opens v.depth (shape_in tables u n) (n - v.place) (state_with (file_words bs) v lv) fits.counted few_tags so_far.reads so_far.opened deep) ∙ inv

  -- its end is that of the walk: only the stamp is read
  pub ends_said : (lv : kept.Levels) (x o m : ℕ) {t : Bool} → t ≡ ends_from header n u (lows_in tables) (highs_in tables) lv x o m →
      t ≡ ends_from (file_words bs) n u (lows_in tables) (highs_in tables) lv x o m
  unfolding ends_from
  ends_said lv x o m e = rw (header_said bs at_stamp (omega arith), ← fits.header_is) e

-- WITH ALL PLACES that can be needed none is too few
pub most_judged : {q : Result (Unit {0}) Fault} {n : ℕ} (whole : Bool) (room : ℕ) → JudgedSo q whole room n → n ≤ most_tags → most_tags < 2 * room → q ≡ judgement whole
most_judged whole room (inl e) few many = e
most_judged whole room (inr (deep, half)) few many = absurd (omega arith)

pub never_deep : {q : Result (Unit {0}) Fault} {n : ℕ} (whole : Bool) (room : ℕ) → JudgedSo q whole room n → n ≤ most_tags → most_tags < 2 * room → q ≡ Err TooDeep → ⊥
never_deep {q} whole room told few many deep = go whole (most_judged whole room told few many)
  where
    go : (b : Bool) → q ≡ judgement b → ⊥
    go true e = cc deep
    go false e = cc deep
