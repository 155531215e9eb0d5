-- Character data, of which the reader's definition takes a byte at a step and the code a whole run: a run that `data_length` ends
-- is read through, and one that it breaks is refused. Assumes nothing.
use mathlib.Core.Path.{◌≡◌, refl, sym, ◌∙◌, ap}
use mathlib.Core.Bool.{Bool, true, false, ◌&&◌, ◌||◌, not, cond, true≢false, false≢true}
use mathlib.Core.List.{List, [], ◌∷◌, ◌++◌}
use mathlib.Core.Option.{Option, none, some}
use Prim.Native.Nat.{ℕ, zero, suc, pred, ◌+◌, ◌≤◌}
use native.Mathlib.Omega.{arith}
use borrow.Author.Tests.{eqb-true, not-true}
use lib.Dec.{ltb, eqb}
use lib.ListN.{length, drop}
use lib.Seq.{drop-nil}
use Rattle.lists.specs.Lists.{first}
use Rattle.lists.proofs.Tests.{by_test, and_left, and_right, and_both, or_left_false, or_right_false}
use Rattle.lists.specs.Fronts.{starts_with}
use Rattle.lists.proofs.Fronts.{rest_of}
use Rattle.xml.specs.Bytes.{is_char, less_than, greater_than, ampersand, bracket, comment_opens, cdata_opens, cdata_closes, end_opens, comment_closes, tag_closes, is_space}
use Rattle.xml.specs.Grammar.{Place, at_place, brackets_after, most_depth, refused_opener, not_a_sheet}
use Rattle.xml.specs.Scan.{run, later, data_length, reference_length, SizedTag, tag_at}
use Rattle.xml.specs.Reader.{Step, next, markup_step, comment_step, cdata_step, end_step, tag_step, reference_step, datum_step, used, past, of_text, text_kind, gives, Reading, accepted, refused, preceded, reading, read_from}
use Rattle.xml.specs.Reader as reader
use Rattle.xml_laws.proofs.Readings.{stepped}

pub none_preceded : (q : Reading) → preceded [] q ≡ q
unfolding preceded
none_preceded (accepted ks) = refl
none_preceded (refused n) = refl

-- ] of data before a place, and the bytes behind it: these do not make up ]]>
unfoldable apart : (brackets : ℕ) → List ℕ → Bool
apart zero cs = true
apart (suc zero) cs = not (starts_with (bracket ∷ greater_than ∷ []) cs)
apart (suc (suc b)) cs = not (starts_with (greater_than ∷ []) cs) && not (starts_with (bracket ∷ greater_than ∷ []) cs)

abbrev with_brackets : List (List ℕ) → ℕ → Place
with_brackets os b = record { opened = os; brackets = b }

-- a byte of data is one step
datum_read : (os : List (List ℕ)) (b : ℕ) (c : ℕ) (cs : List ℕ) → (eqb c less_than || eqb c ampersand) ≡ false → datum_step b c ≡ reader.Step.one_byte c →
    read_from (with_brackets os b) true 0 (c ∷ cs) ≡ read_from (with_brackets os (brackets_after c b)) true 0 cs
unfolding next past of_text used reading gives
datum_read os b c cs e d =
    stepped (with_brackets os b) true c cs ∙ rw (or_left_false (eqb c less_than) (eqb c ampersand) e, or_right_false (eqb c less_than) (eqb c ampersand) e, d) (none_preceded _)

-- a byte behind which data may go on
no_third : (t : Bool) → (t && false) ≡ false
no_third true = refl
no_third false = refl

apart_datum : (b c : ℕ) (cs : List ℕ) → b ≤ 2 → is_char c ≡ true → apart b (c ∷ cs) ≡ true → datum_step b c ≡ reader.Step.one_byte c
unfolding datum_step apart starts_with
apart_datum zero c cs h i a = rw (i, no_third (eqb c greater_than))
apart_datum (suc zero) c cs h i a = rw (i, no_third (eqb c greater_than))
apart_datum (suc (suc zero)) c cs h i a =
    by_test (eqb c greater_than)
    (λ e. absurd (true≢false (sym (and_left (not (starts_with (greater_than ∷ []) (c ∷ cs))) _ a) ∙ rw (eqb-true c greater_than e))))
    (λ e. rw (i, e))
apart_datum (suc (suc (suc b))) c cs h i a = absurd (omega arith)

apart_behind : (b c : ℕ) (cs : List ℕ) → b ≤ 2 → apart b (c ∷ cs) ≡ true → starts_with cdata_closes (c ∷ cs) ≡ false → apart (brackets_after c b) cs ≡ true
unfolding brackets_after apart starts_with
apart_behind zero c cs h a n =
    by_test (eqb c bracket) (λ e. rw e (ap not (rw (eqb-true c bracket e) at n))) (λ e. rw e)
apart_behind (suc zero) c cs h a n =
    by_test (eqb c bracket) (λ e. rw e (and_both (rw (eqb-true c bracket e) at a) (ap not (rw (eqb-true c bracket e) at n)))) (λ e. rw e)
apart_behind (suc (suc zero)) c cs h a n =
    by_test (eqb c bracket)
    (λ e.
    let second = and_right (not (starts_with (greater_than ∷ []) (c ∷ cs))) _ a in
    rw e (and_both (rw (eqb-true c bracket e) at second) (ap not (rw (eqb-true c bracket e) at n))))
    (λ e. rw e)
apart_behind (suc (suc (suc b))) c cs h a n = absurd (omega arith)

brackets_two : (c b : ℕ) → brackets_after c b ≤ 2
unfolding brackets_after
brackets_two c b = by_test (eqb c bracket) (λ e. rw e (by_test (eqb b 0) (λ f. rw f (omega arith)) (λ f. rw f (omega arith)))) (λ e. rw e (omega arith))

-- MARKUP does not look at brackets, and is no data
is_datum : Step → Bool
is_datum (reader.Step.stuck k) = false
is_datum (reader.Step.one_byte c) = true
is_datum (reader.Step.piece u) = false
is_datum (reader.Step.aside u) = false
is_datum (reader.Step.opening n u) = false
is_datum (reader.Step.whole u) = false
is_datum (reader.Step.closing u) = false

pick_no_datum : (t : Bool) (a b : Step) → is_datum a ≡ false → is_datum b ≡ false → is_datum (cond t a b) ≡ false
pick_no_datum true a b e f = e
pick_no_datum false a b e f = f

comment_no_datum : (cs : List ℕ) (m : Option ℕ) → is_datum (comment_step cs m) ≡ false
unfolding is_datum comment_step
comment_no_datum cs none = refl
comment_no_datum cs (some m) = pick_no_datum (starts_with comment_closes (drop m cs)) _ _ refl refl

cdata_no_datum : (m : Option ℕ) → is_datum (cdata_step m) ≡ false
unfolding is_datum cdata_step
cdata_no_datum none = refl
cdata_no_datum (some m) = refl

end_no_datum : (os : List (List ℕ)) (cs : List ℕ) → is_datum (end_step os cs) ≡ false
unfolding is_datum end_step
end_no_datum [] cs = refl
end_no_datum (o ∷ os) cs =
    let e = length (end_opens ++ o) in
    let g = run is_space (drop e cs) in
    pick_no_datum (starts_with (end_opens ++ o) cs && starts_with tag_closes (drop (e + g) cs)) (reader.Step.closing (suc (e + g))) (reader.Step.stuck not_a_sheet) refl refl

tag_no_datum : (d : ℕ) (cs : List ℕ) (t : Option SizedTag) → is_datum (tag_step d cs t) ≡ false
unfolding is_datum tag_step
tag_no_datum d cs none = refl
tag_no_datum d cs (some t) = pick_no_datum (ltb d most_depth) _ _ (pick_no_datum t.lone _ _ refl refl) refl

reference_no_datum : (u : ℕ) → is_datum (reference_step u) ≡ false
unfolding is_datum reference_step
reference_no_datum zero = refl
reference_no_datum (suc u) = refl

markup_no_datum : (p : Place) (cs : List ℕ) → is_datum (markup_step p cs) ≡ false
unfolding markup_step first is_datum
markup_no_datum p cs =
    pick_no_datum (starts_with comment_opens cs) _ _ (comment_no_datum _ _)
    (pick_no_datum (starts_with cdata_opens cs) _ _ (cdata_no_datum _)
    (pick_no_datum (starts_with end_opens cs) _ _ (end_no_datum p.opened cs) (pick_no_datum (refused_opener cs) _ _ refl (tag_no_datum _ cs (tag_at cs)))))

-- a step that is no data comes to the same whatever brackets stand before it
same_past : (os : List (List ℕ)) (b : ℕ) (r : Bool) (s : Step) (m : ℕ) (cs : List ℕ) → is_datum s ≡ false →
    reading r s (read_from (past s (with_brackets os b)) (of_text s) m cs) ≡ reading r s (read_from (past s (at_place os)) (of_text s) m cs)
unfolding is_datum reading past
same_past os b r (reader.Step.stuck k) m cs e = refl
same_past os b r (reader.Step.one_byte c) m cs e = absurd (true≢false e)
same_past os b r (reader.Step.piece u) m cs e = refl
same_past os b r (reader.Step.aside u) m cs e = refl
same_past os b r (reader.Step.opening n u) m cs e = refl
same_past os b r (reader.Step.whole u) m cs e = refl
same_past os b r (reader.Step.closing u) m cs e = refl

next_markup : (os : List (List ℕ)) (b : ℕ) (c : ℕ) (cs : List ℕ) → (eqb c less_than || eqb c ampersand) ≡ true →
    (next (with_brackets os b) (c ∷ cs) ≡ next (at_place os) (c ∷ cs)) × (is_datum (next (at_place os) (c ∷ cs)) ≡ false)
unfolding next markup_step
next_markup os b c cs e =
    by_test (eqb c less_than) (λ f. rw f (refl, markup_no_datum (at_place os) (c ∷ cs)))
    (λ f.
    let g : eqb c ampersand ≡ true = rw f at e in
    rw (f, g) (refl, reference_no_datum (reference_length (c ∷ cs))))

pub brackets_forgotten : (os : List (List ℕ)) (b : ℕ) (r : Bool) (c : ℕ) (cs : List ℕ) → (eqb c less_than || eqb c ampersand) ≡ true →
    read_from (with_brackets os b) r 0 (c ∷ cs) ≡ read_from (at_place os) r 0 (c ∷ cs)
brackets_forgotten os b r c cs e =
    let h = next_markup os b c cs e in
    stepped (with_brackets os b) r c cs
    ∙ ap (λ s. reading r s (read_from (past s (with_brackets os b)) (of_text s) 0 (drop (pred (used s)) cs))) h.0
    ∙ same_past os b r (next (at_place os) (c ∷ cs)) 0 (drop (pred (used (next (at_place os) (c ∷ cs)))) cs) h.1
    ∙ sym (stepped (at_place os) r c cs)

forbidden_refused : (os : List (List ℕ)) (b : ℕ) (c : ℕ) (cs : List ℕ) → (eqb c less_than || eqb c ampersand) ≡ false → is_char c ≡ false →
    read_from (with_brackets os b) true 0 (c ∷ cs) ≡ refused not_a_sheet
unfolding next datum_step reading
forbidden_refused os b c cs f i =
    stepped (with_brackets os b) true c cs ∙ rw (or_left_false (eqb c less_than) (eqb c ampersand) f, or_right_false (eqb c less_than) (eqb c ampersand) f, i)

-- A RUN OF DATA is read through
pub later_some : (m : Option ℕ) (u : ℕ) → later m ≡ some u → (k : ℕ) × (m ≡ some k) × (u ≡ suc k)
unfolding later
later_some none u e = let z : ◌≡◌ {A = ℕ} 0 1 = cc in absurd (omega arith)
later_some (some k) u e = (k, refl, cc)

pub data_within : (cs : List ℕ) (u : ℕ) → data_length cs ≡ some u → u ≤ length cs
unfolding data_length
data_within [] u e = let z : 0 ≡ u = cc in omega arith
data_within (c ∷ cs) u e =
    by_test (eqb c less_than || eqb c ampersand) (λ f. let z : 0 ≡ u = cc (rw f at e) in omega arith)
    (λ f.
    by_test (is_char c && not (starts_with cdata_closes (c ∷ cs)))
    (λ g. let more = later_some (data_length cs) u (rw (f, g) at e) in omega (arith, data_within cs more.0 more.1, more.2))
    (λ g. let z : ◌≡◌ {A = ℕ} 0 1 = cc (rw (f, g) at e) in absurd (omega arith)))

nothing_read : (os : List (List ℕ)) (b u : ℕ) (r : Bool) → read_from (with_brackets os b) r 0 [] ≡ read_from (at_place os) r 0 (drop u [])
unfolding read_from
nothing_read os b u r = rw (drop-nil {A = ℕ} u)

run_read : (os : List (List ℕ)) (b : ℕ) (cs : List ℕ) (u : ℕ) → b ≤ 2 → apart b cs ≡ true → data_length cs ≡ some u →
    read_from (with_brackets os b) true 0 cs ≡ read_from (at_place os) true 0 (drop u cs)
unfolding data_length
run_read os b [] u h a e = nothing_read os b u true
run_read os b (c ∷ cs) u h a e =
    by_test (eqb c less_than || eqb c ampersand)
    (λ f.
    let z : 0 ≡ u = cc (rw f at e) in
    rw (← z) (brackets_forgotten os b true c cs f))
    (λ f.
    by_test (is_char c && not (starts_with cdata_closes (c ∷ cs)))
    (λ g.
    let more = later_some (data_length cs) u (rw (f, g) at e) in
    let char = and_left (is_char c) _ g in
    let whole = not-true _ (and_right (is_char c) _ g) in
    datum_read os b c cs f (apart_datum b c cs h char a)
    ∙ run_read os (brackets_after c b) cs more.0 (brackets_two c b) (apart_behind b c cs h a whole) more.1
    ∙ ap (λ (k : ℕ). read_from (at_place os) true 0 (drop k (c ∷ cs))) (sym more.2))
    (λ g. let z : ◌≡◌ {A = ℕ} 0 1 = cc (rw (f, g) at e) in absurd (omega arith)))

-- and a broken one is refused
later_none : (m : Option ℕ) → later m ≡ none → m ≡ none
unfolding later
later_none none e = refl
later_none (some k) e = let z : ◌≡◌ {A = ℕ} 0 1 = cc in absurd (omega arith)

stuck_here : (p : Place) (r : Bool) (c : ℕ) (cs : List ℕ) (n : ℕ) → next p (c ∷ cs) ≡ reader.Step.stuck n → read_from p r 0 (c ∷ cs) ≡ refused n
unfolding reading
stuck_here p r c cs n e =
    stepped p r c cs ∙ ap (λ s. reading r s (read_from (past s p) (of_text s) 0 (drop (pred (used s)) cs))) e

two_brackets : (b : ℕ) → brackets_after bracket (brackets_after bracket b) ≡ 2
unfolding brackets_after
two_brackets b = by_test (eqb b 0) (λ e. rw e) (λ e. rw e)

-- the third byte of ]]>, behind two brackets
third_refused : (os : List (List ℕ)) (cs : List ℕ) → read_from (with_brackets os 2) true 0 (greater_than ∷ cs) ≡ refused not_a_sheet
unfolding next datum_step is_char
third_refused os cs = stuck_here (with_brackets os 2) true greater_than cs not_a_sheet refl

closer_refused : (os : List (List ℕ)) (b : ℕ) (c : ℕ) (cs : List ℕ) → starts_with cdata_closes (c ∷ cs) ≡ true →
    read_from (with_brackets os b) true 0 (c ∷ cs) ≡ refused not_a_sheet
unfolding datum_step is_char
closer_refused os b c cs e =
    let rest = drop (length cdata_closes) (c ∷ cs) in
    rw (rest_of cdata_closes (c ∷ cs) e)
    (datum_read os b bracket (bracket ∷ greater_than ∷ rest) refl refl
    ∙ datum_read os (brackets_after bracket b) bracket (greater_than ∷ rest) refl refl
    ∙ rw (two_brackets b) (third_refused os rest))

broken_refused : (os : List (List ℕ)) (b : ℕ) (cs : List ℕ) → b ≤ 2 → apart b cs ≡ true → data_length cs ≡ none →
    read_from (with_brackets os b) true 0 cs ≡ refused not_a_sheet
unfolding data_length
broken_refused os b [] h a e = let z : ◌≡◌ {A = ℕ} 0 1 = cc in absurd (omega arith)
broken_refused os b (c ∷ cs) h a e =
    by_test (eqb c less_than || eqb c ampersand) (λ f. let z : ◌≡◌ {A = ℕ} 0 1 = cc (rw f at e) in absurd (omega arith))
    (λ f.
    by_test (starts_with cdata_closes (c ∷ cs)) (λ s. closer_refused os b c cs s)
    (λ s.
    by_test (is_char c)
    (λ i.
    datum_read os b c cs f (apart_datum b c cs h i a)
    ∙ broken_refused os (brackets_after c b) cs (brackets_two c b) (apart_behind b c cs h a s) (later_none (data_length cs) (rw (f, i, s) at e)))
    (λ i. forbidden_refused os b c cs f i)))

-- A TEXT BEGINS, or goes on, with a step that is a piece of one; what is stuck is refused either way
unfoldable pub text_of_steps : Step → Bool
text_of_steps (reader.Step.stuck k) = true
text_of_steps (reader.Step.one_byte c) = true
text_of_steps (reader.Step.piece u) = true
text_of_steps (reader.Step.aside u) = false
text_of_steps (reader.Step.opening n u) = false
text_of_steps (reader.Step.whole u) = false
text_of_steps (reader.Step.closing u) = false

begins : (r : Bool) (s : Step) (q : Reading) → text_of_steps s ≡ true → reading r s q ≡ preceded (text_kind r) (reading true s q)
unfolding reading text_of_steps preceded gives
begins r (reader.Step.stuck k) q e = refl
begins r (reader.Step.one_byte c) q e = ap (preceded (text_kind r)) (sym (none_preceded q))
begins r (reader.Step.piece u) q e = ap (preceded (text_kind r)) (sym (none_preceded q))
begins r (reader.Step.aside u) q e = absurd (false≢true e)
begins r (reader.Step.opening n u) q e = absurd (false≢true e)
begins r (reader.Step.whole u) q e = absurd (false≢true e)
begins r (reader.Step.closing u) q e = absurd (false≢true e)

pub text_begins : (p : Place) (r : Bool) (c : ℕ) (cs : List ℕ) → text_of_steps (next p (c ∷ cs)) ≡ true →
    read_from p r 0 (c ∷ cs) ≡ preceded (text_kind r) (read_from p true 0 (c ∷ cs))
text_begins p r c cs e =
    stepped p r c cs ∙ begins r (next p (c ∷ cs)) _ e ∙ ap (preceded (text_kind r)) (sym (stepped p true c cs))

datum_text : (os : List (List ℕ)) (c : ℕ) (cs : List ℕ) → (eqb c less_than || eqb c ampersand) ≡ false → text_of_steps (next (at_place os) (c ∷ cs)) ≡ true
unfolding next datum_step text_of_steps
datum_text os c cs f =
    rw (or_left_false (eqb c less_than) (eqb c ampersand) f, or_right_false (eqb c less_than) (eqb c ampersand) f)
    (by_test (is_char c && not (eqb c greater_than && eqb 0 2)) (λ e. rw e) (λ e. rw e))

-- data from its first byte on
pub data_read : (os : List (List ℕ)) (r : Bool) (c : ℕ) (cs : List ℕ) (u : ℕ) → (eqb c less_than || eqb c ampersand) ≡ false → data_length (c ∷ cs) ≡ some u →
    read_from (at_place os) r 0 (c ∷ cs) ≡ preceded (text_kind r) (read_from (at_place os) true 0 (drop u (c ∷ cs)))
unfolding apart
data_read os r c cs u f e =
    text_begins (at_place os) r c cs (datum_text os c cs f) ∙ ap (preceded (text_kind r)) (run_read os 0 (c ∷ cs) u (omega arith) refl e)

pub data_refused : (os : List (List ℕ)) (r : Bool) (c : ℕ) (cs : List ℕ) → (eqb c less_than || eqb c ampersand) ≡ false → data_length (c ∷ cs) ≡ none →
    read_from (at_place os) r 0 (c ∷ cs) ≡ refused not_a_sheet
unfolding apart preceded
data_refused os r c cs f e =
    text_begins (at_place os) r c cs (datum_text os c cs f) ∙ ap (preceded (text_kind r)) (broken_refused os 0 (c ∷ cs) (omega arith) refl e)
