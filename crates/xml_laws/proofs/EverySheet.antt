-- What the call on a sheet replies and leaves, for every text and every lent list, by the grammar alone (document 02, CR 1).
-- Assumes nothing.
use mathlib.Core.Path.{◌≡◌, refl, sym, ◌∙◌, ap, subst}
use mathlib.Core.Bool.{Bool, true, false, cond}
use mathlib.Core.List.{List, [], ◌∷◌}
use mathlib.Core.Logic.{◌↔◌, ◌⊎◌, inl, inr, ⊎_elim}
use Prim.Native.Nat.{ℕ, suc, ◌≤◌, ◌<◌}
use native.Mathlib.Nat.{not-le_of_lt}
use native.Mathlib.Omega.{arith}
use borrow.Author.Tests.{ltb-true, ltb-false}
use lib.Dec.{ltb}
use lib.ListN.{length, length-append}
use Rattle.lists.specs.Fronts.{in_front, replied, written}
use Rattle.lists.proofs.Fronts.{length_in_front}
use Rattle.lists.proofs.Replied.{replied_refused, written_refused}
use Rattle.lists.proofs.Tests.{by_test}
use Rattle.xml.specs.Bytes.{lone_closes}
use Rattle.xml.specs.Grammar.{Construct, datum, reference, cdata, comment, start, empty_element, stop, Tag, text_of, texts, tag_text, kinds_from, not_a_sheet, too_deep, not_read}
use Rattle.std.specs.Prelude.{Result, Ok, Err}
use Rattle.xml.specs.Reader.{Reading, accepted, refused, read_sheet}
use Rattle.xml.specs.Replies.{list_short, sheet_refusal, kinds_in, sheet_reply, sheet_list}
use Rattle.xml.specs.Promise.{InGrammar, Outside, Fits, TooShort, EverySheet, OneKinds, OneNumber, NotBoth}
use Rattle.xml_laws.proofs.Readings.{begun}
use Rattle.xml_laws.proofs.Sheets.{sheets_right, one_kinds, one_number, not_both, refused_some}

-- NO CONSTRUCT GIVES MORE KINDS THAN IT HAS BYTES
some_byte : (c : Construct) → 1 ≤ length (text_of c)
some_byte c = omega (arith, ap length (begun c).are)

two_bytes : (t : Tag) → 2 ≤ length (text_of (empty_element t))
unfolding text_of
two_bytes t = omega (arith, length-append (tag_text t) lone_closes)

text_kinds : (r : Bool) (ks : List ℕ) → length (cond r ks (3 ∷ ks)) ≤ suc (length ks)
text_kinds true ks = omega arith
text_kinds false ks = omega arith

kinds_fewer : (r : Bool) (row : List Construct) → length (kinds_from r row) ≤ length (texts row)
unfolding kinds_from texts
kinds_fewer r [] = omega arith
kinds_fewer r (datum c ∷ cs) =
    omega (arith, text_kinds r (kinds_from true cs), kinds_fewer true cs, some_byte (datum c), length-append (text_of (datum c)) (texts cs))
kinds_fewer r (reference n ∷ cs) =
    omega (arith, text_kinds r (kinds_from true cs), kinds_fewer true cs, some_byte (reference n), length-append (text_of (reference n)) (texts cs))
kinds_fewer r (cdata bs ∷ cs) =
    omega (arith, text_kinds r (kinds_from true cs), kinds_fewer true cs, some_byte (cdata bs), length-append (text_of (cdata bs)) (texts cs))
kinds_fewer r (comment bs ∷ cs) = omega (arith, kinds_fewer false cs, length-append (text_of (comment bs)) (texts cs))
kinds_fewer r (start t ∷ cs) = omega (arith, kinds_fewer false cs, some_byte (start t), length-append (text_of (start t)) (texts cs))
kinds_fewer r (empty_element t ∷ cs) = omega (arith, kinds_fewer false cs, two_bytes t, length-append (text_of (empty_element t)) (texts cs))
kinds_fewer r (stop n b ∷ cs) = omega (arith, kinds_fewer false cs, some_byte (stop n b), length-append (text_of (stop n b)) (texts cs))

pub room_enough : (text kinds : List ℕ) → InGrammar text kinds → length kinds ≤ length text
room_enough text kinds g = omega (arith, kinds_fewer false g.row, ap length g.give, ap length g.written)

-- THE THREE ENDS of a call, each with what it replies and leaves
data End (text list : List ℕ) : Type 0 where
  taken : (kinds : List ℕ) → InGrammar text kinds → length kinds ≤ length list → sheet_reply text list ≡ Ok (length kinds) → sheet_list text list ≡ in_front kinds list → End text list
  short : (kinds : List ℕ) → InGrammar text kinds → length list < length kinds → sheet_reply text list ≡ Err list_short → sheet_list text list ≡ list → End text list
  outside : (number : ℕ) → Outside text number → sheet_reply text list ≡ Err number → sheet_list text list ≡ list → End text list

ends : (text list : List ℕ) → End text list
unfolding sheet_reply sheet_list sheet_refusal kinds_in replied written
ends bs ls = by_reading (read_sheet bs) refl
  where
    by_reading : (q : Reading) → read_sheet bs ≡ q → End bs ls
    by_reading (accepted ks) e =
        let g = (sheets_right.accepts bs ks).0 e in
        by_test (ltb (length ls) (length ks))
        (λ t. short ks g (ltb-true (length ls) (length ks) t) (rw (e, t)) (rw (e, t)))
        (λ f. taken ks g (ltb-false (length ls) (length ks) f) (rw (e, f)) (rw (e, f)))
    by_reading (refused k) e =
        let o = (sheets_right.refuses bs k).0 e in
        outside k o (rw e (sym (replied_refused Err k _ (refused_some bs k e)))) (rw e (sym (written_refused k [] ls (refused_some bs k e))))

apart : {n k : ℕ} → ◌≡◌ {A = Result ℕ ℕ} (Ok n) (Err k) → ⊥
apart e = cc e

-- WHAT A REPLY SAYS. Accepted with a count
told_accepted : (text list : List ℕ) (count : ℕ) → sheet_reply text list ≡ Ok count → End text list → Fits text list count
told_accepted text list n e (taken ks g l r w) =
    let same : length ks ≡ n = cc (e, r) in
    record { kinds = ks; sheet = g; counted = same; room = omega arith }
told_accepted text list n e (short ks g l r w) = absurd (apart (sym e ∙ r))
told_accepted text list n e (outside k o r w) = absurd (apart (sym e ∙ r))

-- refused: the text is outside with that number, or the list is too short
told_refused : (text list : List ℕ) (number : ℕ) → sheet_reply text list ≡ Err number → End text list →
    Outside text number ⊎ ((number ≡ list_short) × TooShort text list)
told_refused text list n e (taken ks g l r w) = absurd (apart (sym r ∙ e))
told_refused text list n e (short ks g l r w) =
    let same : n ≡ list_short = cc (e, r) in inr (same, record { kinds = ks; sheet = g; short = l })
told_refused text list n e (outside k o r w) =
    let same : k ≡ n = cc (e, r) in inl (subst (Outside text) same o)

-- AND IS REPLIED WHERE IT IS SO
fits_accepted : (text list : List ℕ) (count : ℕ) (fits : Fits text list count) → End text list →
    (sheet_reply text list ≡ Ok count) × (sheet_list text list ≡ in_front fits.kinds list)
unfolding OneKinds NotBoth
fits_accepted text list n f (taken ks g l r w) =
    let same = one_kinds text ks f.kinds g f.sheet in
    (r ∙ ap (λ (m : ℕ). Ok m) (ap length same ∙ f.counted), w ∙ ap (λ l. in_front l list) same)
fits_accepted text list n f (short ks g l r w) =
    let same = ap length (one_kinds text ks f.kinds g f.sheet) in
    absurd (not-le_of_lt l (omega (arith, same, f.counted, f.room)))
fits_accepted text list n f (outside k o r w) = absurd (not_both text f.kinds k f.sheet o)

outside_refused : (text list : List ℕ) (number : ℕ) → Outside text number → End text list → sheet_reply text list ≡ Err number
unfolding OneNumber NotBoth
outside_refused text list n o (taken ks g l r w) = absurd (not_both text ks n g o)
outside_refused text list n o (short ks g l r w) = absurd (not_both text ks n g o)
outside_refused text list n o (outside k p r w) = r ∙ ap (λ (m : ℕ). Err m) (one_number text k n p o)

short_refused : (text list : List ℕ) → TooShort text list → End text list → sheet_reply text list ≡ Err list_short
unfolding OneKinds NotBoth
short_refused text list s (taken ks g l r w) =
    let same = ap length (one_kinds text ks s.kinds g s.sheet) in
    absurd (not-le_of_lt s.short (omega (arith, same, l)))
short_refused text list s (short ks g l r w) = r
short_refused text list s (outside k o r w) = absurd (not_both text s.kinds k s.sheet o)

left : (text list : List ℕ) (number : ℕ) → sheet_reply text list ≡ Err number → End text list → sheet_list text list ≡ list
left text list n e (taken ks g l r w) = absurd (apart (sym r ∙ e))
left text list n e (short ks g l r w) = w
left text list n e (outside k o r w) = w

as_long : (text list : List ℕ) → End text list → length (sheet_list text list) ≡ length list
as_long text list (taken ks g l r w) = ap length w ∙ length_in_front ks list l
as_long text list (short ks g l r w) = ap length w
as_long text list (outside k o r w) = ap length w

-- 11 is no number of a text outside the grammar
outside_numbers : (text : List ℕ) (number : ℕ) → Outside text number → number ≡ list_short → ⊥
outside_numbers text n o e =
    ⊎_elim (λ (a : n ≡ not_a_sheet). omega arith) (⊎_elim (λ (a : n ≡ too_deep). omega arith) (λ (a : n ≡ not_read). omega arith)) o.only

own_number : (text list : List ℕ) (number : ℕ) → (number ≡ list_short → ⊥) → End text list → (sheet_reply text list ≡ Err number) ↔ Outside text number
own_number text list n other q =
    ((λ e. ⊎_elim (λ o. o) (λ s. absurd (other s.0)) (told_refused text list n e q)), λ o. outside_refused text list n o q)

pub every_sheet : EverySheet
unfolding EverySheet
every_sheet text list =
    let q = ends text list in
    record {
      accepts = λ n. ((λ e. told_accepted text list n e q), λ f. (fits_accepted text list n f q).0);
      writes = λ n f. (fits_accepted text list n f q).1;
      fourteen = own_number text list not_read (λ e. omega arith) q;
      thirteen = own_number text list too_deep (λ e. omega arith) q;
      twelve = own_number text list not_a_sheet (λ e. omega arith) q;
      eleven =
          ((λ e. ⊎_elim (λ o. absurd (outside_numbers text list_short o refl)) (λ s. s.1) (told_refused text list list_short e q)), λ s. short_refused text list s q);
      leaves = λ n e. left text list n e q;
      no_other = λ n e. ⊎_elim (λ o. inr o.only) (λ s. inl s.0) (told_refused text list n e q);
      as_many = as_long text list q;
      suffices = λ l s. not-le_of_lt s.short (omega (arith, room_enough text s.kinds s.sheet, l));
    }
