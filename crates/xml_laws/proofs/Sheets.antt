-- The reader replies what the grammar says, for every text, and so every text is in the grammar or outside it, in one way
-- (document 02, CR 1). Assumes nothing.
use mathlib.Core.Path.{◌≡◌, refl, sym, ◌∙◌, ap, subst}
use mathlib.Core.Bool.{false}
use mathlib.Core.List.{List}
use mathlib.Core.Logic.{◌⊎◌, inl, inr, ⊎_elim}
use Prim.Native.Nat.{ℕ}
use native.Mathlib.Nat.{le_refl}
use native.Mathlib.Omega.{arith}
use lib.ListN.{length}
use Rattle.xml.specs.Grammar.{top, not_a_sheet, too_deep, not_read}
use Rattle.xml.specs.Reader.{Reading, accepted, refused, read_sheet}
use Rattle.xml.specs.Promise.{InGrammar, Outside, SheetsRight, OneKinds, OneNumber, NotBoth, Either}
use Rattle.xml_laws.proofs.Readings.{ReadSo, RefusedSo, Means, row_read, refused_read, means}

-- from the top these are the grammar's own statements
in_grammar : {bs ks : List ℕ} → ReadSo top false bs ks → InGrammar bs ks
in_grammar m = record { row = m.row; written = m.written; stand = m.stand; closed = m.closed; give = m.give }

outside : {bs : List ℕ} {n : ℕ} → RefusedSo top bs n → Outside bs n
outside m =
    record {
      before = m.before;
      rest = m.rest;
      parted = m.parted;
      stand = m.stand;
      stuck = m.stuck;
      not_whole = m.not_whole;
      fourteen = m.number.fourteen;
      thirteen = m.number.thirteen;
      only = m.number.only;
    }

refused_so : {bs : List ℕ} {n : ℕ} → Outside bs n → RefusedSo top bs n
refused_so m =
    record {
      before = m.before;
      rest = m.rest;
      parted = m.parted;
      stand = m.stand;
      stuck = m.stuck;
      not_whole = m.not_whole;
      number = record { fourteen = m.fourteen; thirteen = m.thirteen; only = m.only };
    }

said : (bs : List ℕ) → Means top false bs (read_sheet bs)
unfolding read_sheet
said bs = means (length bs) top false bs (le_refl _) (omega arith)

pub sheets_right : SheetsRight
unfolding Means read_sheet
sheets_right =
    record {
      accepts =
          λ bs ks. (
            (λ e. in_grammar (subst (Means top false bs) e (said bs))),
            λ g. ap (λ l. read_sheet l) (sym g.written) ∙ row_read g.row top false g.stand g.closed ∙ ap accepted g.give,
          );
      refuses =
          λ bs n. (
            (λ e. outside (subst (Means top false bs) e (said bs))),
            λ o. refused_read top false bs n (omega arith) (refused_so o),
          );
    }

pub one_kinds : OneKinds
unfolding OneKinds
one_kinds bs ks ls g h = cc ((sheets_right.accepts bs ks).1 g, (sheets_right.accepts bs ls).1 h)

pub one_number : OneNumber
unfolding OneNumber
one_number bs m n g h = cc ((sheets_right.refuses bs m).1 g, (sheets_right.refuses bs n).1 h)

pub not_both : NotBoth
unfolding NotBoth
not_both bs ks n g h =
    let z : ◌≡◌ {A = ℕ} 0 1 = cc ((sheets_right.accepts bs ks).1 g, (sheets_right.refuses bs n).1 h) in
    omega arith

pub either : Either
unfolding Either
either bs = by_reading (read_sheet bs) refl
  where
    by_reading : (q : Reading) → read_sheet bs ≡ q → ((ks : List ℕ) × InGrammar bs ks) ⊎ ((n : ℕ) × Outside bs n)
    by_reading (accepted ks) e = inl (ks, (sheets_right.accepts bs ks).0 e)
    by_reading (refused n) e = inr (n, (sheets_right.refuses bs n).0 e)

-- no refusal is 0, which stands for none
pub refused_some : (bs : List ℕ) (k : ℕ) → read_sheet bs ≡ refused k → k ≡ 0 → ⊥
refused_some bs k e z =
    ⊎_elim (λ (a : k ≡ not_a_sheet). omega arith) (⊎_elim (λ (a : k ≡ too_deep). omega arith) (λ (a : k ≡ not_read). omega arith)) ((sheets_right.refuses bs k).0 e).only
