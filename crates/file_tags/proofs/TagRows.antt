-- One tag of the file's pass: a row that is read gives the words of its tag, so that what the tests read of rows is what those of
-- the soundness walk (walk_tags' TestLaws) read of records; its number, the row beside it, its depth. Assumes nothing.
use mathlib.Core.Path.{◌≡◌, refl, sym, ◌∙◌}
use mathlib.Core.Bool.{Bool, true, false, not, cond}
use mathlib.Core.Logic.{⊎_elim}
use mathlib.Core.List.{List}
use Prim.Native.Nat.{ℕ, suc, ◌+◌, ◌-◌, ◌%◌, ◌≤◌, ◌<◌}
use native.Mathlib.Omega.{arith}
use borrow.Author.Tests.{eq-eqb, eqb-true, ne_eqb, lt-ltb, le-ltb}
use lib.Dec.{ltb, eqb}
use lib.ListN.{length}
use Rattle.store_types.specs.Layout.{at_prior, at_mate, at_up, at_kind, at_depth, field, label_at}
use Rattle.store_types.specs.FileLayout.{kept_words, file_bytes, at_label}
use Rattle.words.specs.Offsets.{offset_of}
use Rattle.tree.specs.Row.{member}
use Rattle.calls.specs.File.{count_in, rows_in, file_words}
use Rattle.walk_model.specs.Walk.{depth_fits, depth_after}
use Rattle.walk_tags.specs.Needs.{Open, TagReads}
use Rattle.walk_tags.proofs.TagLaws.{open_cases}
use Rattle.file_model.specs.Judge.{row_word, met_before}
use Rattle.file_model.proofs.Rows.{length_file_words}
use Rattle.file_form.specs.Needs.{RowThere}
use Rattle.file_tags.specs.Needs.{number_at, RowRead, TagRow, number_passes}

-- A ROW THAT IS READ can be read, and its words are those of its tag
module _ {bs : List ℕ} {i : ℕ} (row : RowRead bs i) where
  pub row_there : length bs ≡ file_bytes (count_in bs) → RowThere bs i
  row_there long = record { long = long; below = row.inside }

  module _ {x v : ℕ} (own : x ≡ number_at bs i) where
    pub field_there : (k : ℕ) → k < kept_words → v ≡ row_word (rows_in bs) i (suc k) → v ≡ field (file_words bs) x k
    field_there k small e = rw own (e ∙ sym (row.fields k small))

    pub label_there : v ≡ row_word (rows_in bs) i at_label → v ≡ label_at (file_words bs) x
    label_there e = rw own (e ∙ sym row.label)

-- ITS NUMBER w, where x is due
module _ (bs : List ℕ) (i x : ℕ) {w : ℕ} (number : w ≡ number_at bs i) where
  pub number_other : (w ≡ x → ⊥) → false ≡ number_passes bs i x
  unfolding number_passes
  number_other ne = rw (← number, ne_eqb w x ne)

  module _ {n : ℕ} (due : w ≡ x) (count : n ≡ count_in bs) where
    pub number_beyond : n ≤ x → false ≡ number_passes bs i x
    unfolding number_passes
    number_beyond far = rw (← number, eq-eqb w x due, ← count, le-ltb x n far)

    pub number_new : {t : Bool} → x < n → t ≡ member x (met_before (rows_in bs) i) → not t ≡ number_passes bs i x
    unfolding number_passes
    number_new below e = rw (← number, eq-eqb w x due, ← count, lt-ltb x n below, e)

-- ONE OF TWO ROWS, by a test
module _ (bs : List ℕ) (q i : ℕ) {p : ℕ} where
  pub picked_read : (t : Bool) → p ≡ cond t q i → RowRead bs q → RowRead bs i → RowRead bs p
  picked_read true e a b = rw e a
  picked_read false e a b = rw e b

  pub picked_number : {x : ℕ} (t : Bool) → x ≡ number_at bs i → p ≡ cond t q i → number_at bs p ≡ cond t (number_at bs q) x
  picked_number true own e = rw e
  picked_number false own e = rw (own, e)

-- ONE OF TWO WORDS, by the kind: that which names the open begin, and that which names the tag back. A file keeps them
kept_either : (t : Bool) (a b : ℕ) → a < kept_words → b < kept_words → cond t a b < kept_words
kept_either true a b l m = l
kept_either false a b l m = m

pub open_kept : (c : ℕ) {r : ℕ} → r ≡ cond (eqb (c % 16) 2) at_mate at_up → r < kept_words
open_kept c e = rw e (kept_either (eqb (c % 16) 2) at_mate at_up (omega arith) (omega arith))

pub back_kept : (c : ℕ) {r : ℕ} → r ≡ cond (eqb (c % 16) 1) at_prior at_mate → r < kept_words
back_kept c e = rw e (kept_either (eqb (c % 16) 1) at_prior at_mate (omega arith) (omega arith))

-- THE ROW BESIDE A TAG'S OWN: that of the open begin o, or its own where none is open
module _ {bs : List ℕ} {n place x o top : ℕ} (row : TagRow bs place x o top) (count : n ≡ count_in bs) (around : Open (file_words bs) n o) where
  pub reads_there : TagReads (file_words bs) n x (offset_of x) o
  reads_there = record {
    records = record { few = rw count row.few; long = rw count (omega (arith, length_file_words bs)) };
    below = rw (count, row.own) row.read.below;
    there = refl;
    around = around;
  }

  pub beside_read : {q : ℕ} → q ≡ cond (ltb o n) top place → RowRead bs q × (number_at bs q ≡ cond (ltb o n) o x)
  beside_read of_q =
      ⊎_elim
      (λ none. let own = rw (le-ltb o n (omega (arith, count, row.few))) at of_q in
      (rw own row.read, rw (own, le-ltb o n (omega (arith, count, row.few))) (sym row.own)))
      (λ inner. let own = rw (lt-ltb o n inner.0) at of_q in
      let there = row.open_row (λ z. omega (arith, inner.0, count, row.few)) in
      (rw own there.1, rw (own, lt-ltb o n inner.0) (sym there.0)))
      (open_cases around)

-- ITS DEPTH, where it fits (document 02, CR 7): e is 1 for an end, b for a begin
module _ (ws : List ℕ) (x d : ℕ) (fits : depth_fits ws x (field ws x at_kind) d ≡ true) where
  pub depth_sum : field ws x at_depth + cond (eqb (field ws x at_kind % 16) 2) 1 0 ≡ d
  unfolding depth_fits
  depth_sum = eqb-true _ _ fits

  module _ {e : ℕ} (ends : e ≡ cond (eqb (field ws x at_kind % 16) 2) 1 0) where
    pub depth_enough : e ≤ d
    depth_enough = omega (arith, depth_sum, ends)

    pub depth_counted : {b : ℕ} → b ≡ cond (eqb (field ws x at_kind % 16) 1) 1 0 → d - e + b ≡ depth_after ws x (field ws x at_kind)
    unfolding depth_after
    depth_counted begins = omega (arith, depth_sum, ends, begins)
