-- Writing a read book: the words of a row, and rows one after the other. At each turn of the loop what is left to write comes to the
-- whole. Assumes nothing.
use mathlib.Core.Path.{◌≡◌, refl, ap, sym, ◌∙◌}
use mathlib.Core.Bool.{Bool, true, false, cond}
use mathlib.Core.List.{List, [], ◌∷◌, ◌++◌}
use Prim.Native.Nat.{ℕ, suc, ◌+◌, ◌-◌, ◌%◌, ◌≤◌, ◌<◌}
use native.Mathlib.Numerals.{add-one}
use native.Mathlib.Omega.{arith}
use lib.Dec.{eqb}
use lib.ListN.{length, get_or, drop}
use lib.Seq.{drop-cons, drop-length}
use Rattle.store_types.specs.Layout.{at_next, at_prior, at_mate, at_up, at_kind, at_depth, with_field, with_label, Room}
use Rattle.store_types.specs.FileLayout.{row_words, at_number, at_label}
use Rattle.words.proofs.Fields.{room_same}
use Rattle.calls.specs.Kind.{own_depth, opens_after, depth_after}
use Rattle.calls.specs.File.{rows_in, row_kind, row_number, deepened}
use Rattle.calls_laws.proofs.FileForm.{length_rows}
use Rattle.kind_pick.specs.Needs.{KindWord}
use Rattle.file_form.specs.Needs.{RowThere}
use Rattle.file_model.specs.Judge.{row_word, opens_before, with_row, with_rows}
use Rattle.file_model.proofs.Rows.{length_row, word_before, depth_last}
use Rattle.file_model.proofs.RowKinds.{word_tests, opens_few}
use Rattle.file_model.proofs.Written.{length_with_row}
use Rattle.file_read.specs.Needs.{RowsFit}

-- A ROW, of which each word is read, then written
pub room_of : {ws : List ℕ} {x y : ℕ} → Room ws y → x ≡ y → Room ws x
room_of room e = rw e room

pub row_put : (ws bs : List ℕ) (i depth : ℕ) {us vs ps ms qs ks ds : List ℕ} {x l next prior mate up kind : ℕ} → RowThere bs i → let row = get_or (rows_in bs) i [] in
    x ≡ row_number row → l ≡ get_or row at_label 0 → next ≡ get_or row (suc at_next) 0 → prior ≡ get_or row (suc at_prior) 0 →
    mate ≡ get_or row (suc at_mate) 0 → up ≡ get_or row (suc at_up) 0 → kind ≡ get_or row (suc at_kind) 0 →
    us ≡ with_label ws x l → vs ≡ with_field us x at_next next → ps ≡ with_field vs x at_prior prior → ms ≡ with_field ps x at_mate mate →
    qs ≡ with_field ms x at_up up → ks ≡ with_field qs x at_kind kind → ds ≡ with_field ks x at_depth depth → ds ≡ with_row ws (row ++ depth ∷ [])
unfolding with_row
row_put ws bs i depth there a b c d e f g labelled next_put prior_put mate_put up_put kind_put depth_put =
    let row = get_or (rows_in bs) i [] in
    let long = length_row bs i there.below in
    let word : (k : ℕ) → k < row_words → get_or (row ++ depth ∷ []) k 0 ≡ get_or row k 0 = λ k small. word_before row depth k long small in
    rw (
      word at_number (omega arith),
      word at_label (omega arith),
      word (suc at_next) (omega arith),
      word (suc at_prior) (omega arith),
      word (suc at_mate) (omega arith),
      word (suc at_up) (omega arith),
      word (suc at_kind) (omega arith),
      depth_last row depth long,
    )
    cc

either_few : (t : Bool) (d : ℕ) → cond t (d - 1) d ≤ d
either_few true d = omega arith
either_few false d = omega arith

-- ITS DEPTH, and the number of begins that are open after it, by the row's kind
module _ (row : List ℕ) (d : ℕ) {c : ℕ} (word : c ≡ get_or row (suc at_kind) 0) (right : KindWord c) where
  pub own_right : {depth : ℕ} → depth ≡ cond (eqb (c % 16) 2) (d - 1) d → depth ≡ own_depth (row_kind row) d
  unfolding own_depth
  own_right e = rw (← word, ← (word_tests c right.small right.low right.high).0) e

  pub after_right : {depth e : ℕ} → depth ≡ own_depth (row_kind row) d → e ≡ cond (eqb (c % 16) 1) (suc depth) depth → e ≡ depth_after (row_kind row) d
  unfolding depth_after opens_after
  after_right own f = rw (← own, ← word, ← (word_tests c right.small right.low right.high).1) f

-- THE ROWS, from the i-th on, before which d begins are open
pub record Putting (bs : List ℕ) (n : ℕ) (ws₀ ws : List ℕ) (i d : ℕ) : Type 0 where
  pub fits : RowsFit bs n ws₀
  pub among : i ≤ n
  pub long : length ws ≡ length ws₀
  pub counted : d ≡ opens_before 0 (rows_in bs) i
  pub rest : with_rows ws (deepened d (drop i (rows_in bs))) ≡ with_rows ws₀ (deepened 0 (rows_in bs))

pub putting_first : {bs ws : List ℕ} {n : ℕ} → RowsFit bs n ws → Putting bs n ws ws 0 0
unfolding opens_before
putting_first f = record { fits = f; among = omega arith; long = refl; counted = refl; rest = refl }

module _ {bs ws₀ ws : List ℕ} {n i d : ℕ} (h : Putting bs n ws₀ ws i d) where
  all_rows : length (rows_in bs) ≡ n
  all_rows = length_rows bs ∙ sym h.fits.all

  module _ (l : i < n) where
    pub row_there : RowThere bs i
    row_there = record { long = h.fits.long; below = omega (arith, h.fits.all) }

    pub row_room : Room ws (row_word (rows_in bs) i at_number)
    row_room = room_same (h.fits.rooms i l) h.long

    -- its kind's word c
    module _ {c : ℕ} (word : c ≡ row_word (rows_in bs) i (suc at_kind)) where
      pub kind_right : KindWord c
      kind_right = rw word (h.fits.kinds i l)

      pub end_open : c % 16 ≡ 2 → 1 ≤ d
      end_open e = rw h.counted (h.fits.opened i l (rw word at e))

      pub depth_few : {depth : ℕ} → depth ≡ cond (eqb (c % 16) 2) (d - 1) d → depth ≤ i
      depth_few e = omega (arith, either_few (eqb (c % 16) 2) d, e, h.counted, opens_few (rows_in bs) i)

      pub putting_turn : {vs : List ℕ} {depth e : ℕ} → depth ≡ cond (eqb (c % 16) 2) (d - 1) d → vs ≡ with_row ws (get_or (rows_in bs) i [] ++ depth ∷ []) →
          e ≡ cond (eqb (c % 16) 1) (suc depth) depth → Putting bs n ws₀ vs (i + 1) e
      unfolding with_rows deepened opens_before
      putting_turn {vs} {depth} {e} own put after =
          let row = get_or (rows_in bs) i [] in
          let inside : i < length (rows_in bs) = omega (arith, all_rows) in
          let deep = own_right row d word kind_right own in
          let next = after_right row d word kind_right deep after in
          record {
            fits = h.fits;
            among = omega arith;
            long = ap length put ∙ length_with_row ws (row ++ depth ∷ []) ∙ h.long;
            counted = rw (add-one, next, h.counted);
            rest = rw (put, deep, next, add-one) (rw (drop-cons (rows_in bs) i [] inside) at h.rest);
          }

  pub putting_end : n ≤ i → ws ≡ with_rows ws₀ (deepened 0 (rows_in bs))
  unfolding with_rows deepened
  putting_end l =
      let all : i ≡ length (rows_in bs) = omega (arith, h.among, all_rows) in
      rw (all, drop-length (rows_in bs)) at h.rest
