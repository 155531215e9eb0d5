-- `console::lines::load` meets its contract, by the tests on the fields after `load `. Assumes nothing.
use Rattle.std.proofs.Common.{refl, ap, ◌∙◌}
use native.Mathlib.Nat.{le_trans}
use Rattle.console.proofs.Loads.{load_one, load_two, load_no_s, load_no_r, load_no_book, load_letters, load_no_letters, letters_within, letters_or_none}
use Rattle.console.proofs.lines.load.Goals as goal

pub returns-in_err-rest : goal.returns-in_err-rest
returns-in_err-rest c = rw c.from_residual.ensures (load_one _ (rw c.in_err-rest.was at c.split_field.ensures))

pub returns-in_err-rest-2 : goal.returns-in_err-rest-2
returns-in_err-rest-2 c = rw c.from_residual-in_err-rest-2.ensures (load_two _ (rw c.in_ok-rest.was at c.split_field.ensures) (rw c.in_err-rest-2.was at c.split_field-2.ensures))

pub returns-in_err-s : goal.returns-in_err-s
returns-in_err-s c =
    rw c.from_residual-in_err-s.ensures
    (load_no_s (rw c.in_ok-rest.was at c.split_field.ensures) (rw c.in_ok-rest-2.was at c.split_field-2.ensures) c.split_field-3.ensures _ c.in_err-s.ensures)

pub returns-in_err-r : goal.returns-in_err-r
returns-in_err-r c =
    rw c.from_residual-in_err-r.ensures
    (load_no_r (rw c.in_ok-rest.was at c.split_field.ensures) (rw c.in_ok-rest-2.was at c.split_field-2.ensures) c.split_field-3.ensures _ c.in_ok-s.ensures _ c.in_err-r.ensures)

pub returns-in_err-book : goal.returns-in_err-book
returns-in_err-book c =
    rw c.from_residual-in_err-book.ensures
    (load_no_book (rw c.in_ok-rest.was at c.split_field.ensures) (rw c.in_ok-rest-2.was at c.split_field-2.ensures) c.split_field-3.ensures _ c.in_ok-s.ensures _ c.in_ok-r.ensures _ c.in_err-book.ensures)

pub letters-requires : goal.letters-requires
letters-requires c =
    le_trans (letters_within (rw c.in_ok-rest.was at c.split_field.ensures) (rw c.in_ok-rest-2.was at c.split_field-2.ensures) c.split_field-3.ensures _ (ap (λ b. b.now) c.unwrap_or-field.ensures ∙ letters_or_none c.split_field-3.result.1 _ refl)) c.requires

pub returns-then-not-letters : goal.returns-then-not-letters
returns-then-not-letters c =
    load_no_letters (rw c.in_ok-rest.was at c.split_field.ensures) (rw c.in_ok-rest-2.was at c.split_field-2.ensures) c.split_field-3.ensures
    _ c.in_ok-s.ensures _ c.in_ok-r.ensures _ c.in_ok-book.ensures
    _ _ _ (ap (λ b. b.now) c.unwrap_or-field.ensures ∙ letters_or_none c.split_field-3.result.1 _ refl) c.letters.ensures c.if-not-letters.true

pub returns : goal.returns
returns c =
    load_letters (rw c.in_ok-rest.was at c.split_field.ensures) (rw c.in_ok-rest-2.was at c.split_field-2.ensures) c.split_field-3.ensures
    _ c.in_ok-s.ensures _ c.in_ok-r.ensures _ c.in_ok-book.ensures
    _ _ _ (ap (λ b. b.now) c.unwrap_or-field.ensures ∙ letters_or_none c.split_field-3.result.1 _ refl) c.letters.ensures c.if-not-letters.false
