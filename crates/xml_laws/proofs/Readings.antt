-- The reader is right on every text, from what Steps.antt states of one step: a row of constructs that stand is read to its kinds,
-- and where none can be completed the reader refuses with the number that the grammar says. Assumes nothing.
use mathlib.Core.Path.{◌≡◌, refl, sym, ◌∙◌, ap, subst, subst⁻¹}
use mathlib.Core.Bool.{Bool, true, false, cond, true≢false, false≢true}
use mathlib.Core.List.{List, [], ◌∷◌, ◌++◌, append_assoc}
use mathlib.Core.Logic.{⊎_elim, inl}
use Prim.Native.Nat.{ℕ, zero, suc, pred, ◌≤◌}
use native.Mathlib.Nat.{not-suc-le-zero}
use native.Mathlib.Omega.{arith}
use borrow.Author.Tests.{ltb-true}
use lib.Dec.{ltb}
use lib.ListN.{length, drop, length-append}
use lib.Seq.{drop-append_seam}
use Rattle.lists.proofs.Tests.{by_test, and_left, and_right, and_both}
use Rattle.lists.specs.Fronts.{starts_with}
use Rattle.xml.specs.Grammar.{Construct, datum, reference, cdata, comment, start, empty_element, stop, text_of, texts, tag_text, reference_text, Place, may_stand, place_after, tail_of, is_tag, all_stand, place_after_all, kinds_from, most_depth, refused_opener, not_a_sheet, too_deep, not_read, is_construct}
use Rattle.xml.specs.Reader.{Step, next, used, past, of_text, gives, Reading, accepted, refused, preceded, reading, at_end, read_from}
use Rattle.xml.specs.Reader as reader
use Rattle.xml.specs.Promise.{Stuck, WholeTag}
use Rattle.xml_laws.proofs.Next.{constructs_found, constructs_written, numbers_right}
use Rattle.xml_laws.specs.Steps.{step_of, is_stuck, ConstructsFound, ConstructsWritten, NumberRight, NumbersRight}

-- bytes that have been read already are passed over
pub skipped : (p : Place) (r : Bool) (m : ℕ) (cs : List ℕ) → read_from p r m cs ≡ read_from p r 0 (drop m cs)
unfolding read_from
skipped p r zero [] = refl
skipped p r (suc m) [] = refl
skipped p r zero (c ∷ cs) = refl
skipped p r (suc m) (c ∷ cs) = skipped p r m cs

-- one step, and what stands behind it
pub stepped : (p : Place) (r : Bool) (c : ℕ) (cs : List ℕ) →
    let s = next p (c ∷ cs) in
    read_from p r 0 (c ∷ cs) ≡ reading r s (read_from (past s p) (of_text s) 0 (drop (pred (used s)) cs))
unfolding read_from
stepped p r c cs =
    let s = next p (c ∷ cs) in
    ap (reading r s) (skipped (past s p) (of_text s) (pred (used s)) cs)

-- every construct has a first byte
pub record Begun (bs : List ℕ) : Type 0 where
  pub first : ℕ
  pub rest : List ℕ
  pub are : bs ≡ first ∷ rest

pub begun : (c : Construct) → Begun (text_of c)
unfolding text_of reference_text tag_text
begun (datum c) = record { first = c; rest = []; are = refl }
begun (reference n) = record { first = _; rest = _; are = refl }
begun (cdata cs) = record { first = _; rest = _; are = refl }
begun (comment cs) = record { first = _; rest = _; are = refl }
begun (start t) = record { first = _; rest = _; are = refl }
begun (empty_element t) = record { first = _; rest = _; are = refl }
begun (stop n b) = record { first = _; rest = _; are = refl }

pub step_used : (c : Construct) → used (step_of c) ≡ length (text_of c)
unfolding step_of used text_of
step_used (datum c) = refl
step_used (reference n) = refl
step_used (cdata cs) = refl
step_used (comment cs) = refl
step_used (start t) = refl
step_used (empty_element t) = refl
step_used (stop n b) = refl

step_past : (c : Construct) (p : Place) → past (step_of c) p ≡ place_after c p
unfolding step_of past place_after
step_past (datum c) p = refl
step_past (reference n) p = refl
step_past (cdata cs) p = refl
step_past (comment cs) p = refl
step_past (start t) p = refl
step_past (empty_element t) p = refl
step_past (stop n b) p = refl

step_reading : (c : Construct) (r : Bool) (q : Reading) → reading r (step_of c) q ≡ preceded (gives r (step_of c)) q
unfolding step_of reading
step_reading (datum c) r q = refl
step_reading (reference n) r q = refl
step_reading (cdata cs) r q = refl
step_reading (comment cs) r q = refl
step_reading (start t) r q = refl
step_reading (empty_element t) r q = refl
step_reading (stop n b) r q = refl

one_text : (r : Bool) (ks : List ℕ) → cond r ks (3 ∷ ks) ≡ cond r [] (3 ∷ []) ++ ks
one_text true ks = refl
one_text false ks = refl

step_kinds : (c : Construct) (r : Bool) (cs : List Construct) → kinds_from r (c ∷ cs) ≡ gives r (step_of c) ++ kinds_from (of_text (step_of c)) cs
unfolding step_of gives of_text kinds_from
step_kinds (datum c) r cs = one_text r _
step_kinds (reference n) r cs = one_text r _
step_kinds (cdata bs) r cs = one_text r _
step_kinds (comment bs) r cs = refl
step_kinds (start t) r cs = refl
step_kinds (empty_element t) r cs = refl
step_kinds (stop n b) r cs = refl

-- no construct that stands brings more elements than may be open
tail_shorter : (ns : List (List ℕ)) → length (tail_of ns) ≤ length ns
unfolding tail_of
tail_shorter [] = omega arith
tail_shorter (n ∷ ns) = omega arith

pub depth_kept : (c : Construct) (p : Place) → length p.opened ≤ most_depth → may_stand c p ≡ true → length (place_after c p).opened ≤ most_depth
unfolding may_stand is_construct place_after
depth_kept (datum c) p h s = h
depth_kept (reference n) p h s = h
depth_kept (cdata cs) p h s = h
depth_kept (comment cs) p h s = h
depth_kept (start t) p h s = ltb-true _ _ (and_right (is_tag t) (ltb (length p.opened) most_depth) s)
depth_kept (empty_element t) p h s = h
depth_kept (stop n b) p h s = omega (arith, tail_shorter p.opened)

-- IN THE GRAMMAR and OUTSIDE IT, from a place on
pub record ReadSo (p : Place) (r : Bool) (bs ks : List ℕ) : Type 0 where
  pub row : List Construct
  pub written : texts row ≡ bs
  pub stand : all_stand row p ≡ true
  pub closed : (place_after_all row p).opened ≡ []
  pub give : kinds_from r row ≡ ks

pub record RefusedSo (p : Place) (bs : List ℕ) (n : ℕ) : Type 0 where
  pub before : List Construct
  pub rest : List ℕ
  pub parted : texts before ++ rest ≡ bs
  pub stand : all_stand before p ≡ true
  pub stuck : Stuck (place_after_all before p) rest
  pub not_whole : rest ≡ [] → (place_after_all before p).opened ≡ [] → ⊥
  pub number : NumberRight (place_after_all before p) rest n

unfoldable pub Means : Place → Bool → List ℕ → Reading → Type 0
Means p r bs (accepted ks) = ReadSo p r bs ks
Means p r bs (refused n) = RefusedSo p bs n

-- nothing at all opens no instruction and is no tag
no_opener : refused_opener [] ≡ true → ⊥
unfolding refused_opener starts_with
no_opener e = false≢true e

nothing_begun : {bs : List ℕ} → Begun bs → (more : List ℕ) → bs ++ more ≡ [] → ⊥
nothing_begun b more e = omega (arith, ap length (rw b.are at e))

no_tag_there : WholeTag [] → ⊥
no_tag_there w =
    ⊎_elim (nothing_begun (begun (start w.tag)) w.more) (nothing_begun (begun (empty_element w.tag)) w.more) w.written

-- the number of a place is one
pub one_number : (p : Place) (rest : List ℕ) (m n : ℕ) → NumberRight p rest m → NumberRight p rest n → m ≡ n
one_number p rest m n a b =
    ⊎_elim
    (λ (e : m ≡ not_a_sheet). ⊎_elim (λ (f : n ≡ not_a_sheet). e ∙ sym f)
    (⊎_elim (λ (f : n ≡ too_deep). a.thirteen.1 (b.thirteen.0 f) ∙ sym f) (λ (f : n ≡ not_read). a.fourteen.1 (b.fourteen.0 f) ∙ sym f))
    b.only)
    (⊎_elim (λ (e : m ≡ too_deep). e ∙ sym (b.thirteen.1 (a.thirteen.0 e))) (λ (e : m ≡ not_read). e ∙ sym (b.fourteen.1 (a.fourteen.0 e))))
    a.only

-- at the end of the text it is 12
pub number_at_end : (p : Place) (n : ℕ) → NumberRight p [] n → n ≡ not_a_sheet
number_at_end p n a =
    ⊎_elim (λ (e : n ≡ not_a_sheet). e)
    (⊎_elim (λ (e : n ≡ too_deep). absurd (no_tag_there (a.thirteen.0 e).1)) (λ (e : n ≡ not_read). absurd (no_opener (a.fourteen.0 e))))
    a.only

pub end_number : (p : Place) → NumberRight p [] not_a_sheet
end_number p =
    record {
      fourteen = ((λ e. absurd (numbers_apart e)), λ e. absurd (no_opener e));
      thirteen = ((λ e. absurd (numbers_apart' e)), λ h. absurd (no_tag_there h.1));
      only = inl refl;
    }
  where
    numbers_apart : not_a_sheet ≡ not_read → ⊥
    numbers_apart e = omega arith

    numbers_apart' : not_a_sheet ≡ too_deep → ⊥
    numbers_apart' e = omega arith

open_at_end : (os : List (List ℕ)) → (os ≡ [] → ⊥) → at_end os ≡ refused not_a_sheet
unfolding at_end
open_at_end [] h = absurd (h refl)
open_at_end (o ∷ os) h = refl

is_stuck_number : (s : Step) → is_stuck s ≡ true → (n : ℕ) × (s ≡ reader.Step.stuck n)
unfolding is_stuck
is_stuck_number (reader.Step.stuck n) e = (n, refl)
is_stuck_number (reader.Step.one_byte c) e = absurd (false≢true e)
is_stuck_number (reader.Step.piece u) e = absurd (false≢true e)
is_stuck_number (reader.Step.aside u) e = absurd (false≢true e)
is_stuck_number (reader.Step.opening n u) e = absurd (false≢true e)
is_stuck_number (reader.Step.whole u) e = absurd (false≢true e)
is_stuck_number (reader.Step.closing u) e = absurd (false≢true e)

-- the step over a construct is not stuck
step_goes : (c : Construct) → is_stuck (step_of c) ≡ false
unfolding is_stuck step_of
step_goes (datum c) = refl
step_goes (reference n) = refl
step_goes (cdata cs) = refl
step_goes (comment cs) = refl
step_goes (start t) = refl
step_goes (empty_element t) = refl
step_goes (stop n b) = refl

-- where the reader is stuck it refuses
stuck_refuses : (p : Place) (r : Bool) (c : ℕ) (cs : List ℕ) (n : ℕ) → next p (c ∷ cs) ≡ reader.Step.stuck n → read_from p r 0 (c ∷ cs) ≡ refused n
unfolding reading
stuck_refuses p r c cs n e =
    stepped p r c cs ∙ ap (λ s. reading r s (read_from (past s p) (of_text s) 0 (drop (pred (used s)) cs))) e

-- a construct that stands is one step of the reader
pub construct_read : (c : Construct) (p : Place) (r : Bool) (more : List ℕ) → may_stand c p ≡ true →
    read_from p r 0 (text_of c ++ more) ≡ preceded (gives r (step_of c)) (read_from (place_after c p) (of_text (step_of c)) 0 more)
unfolding ConstructsFound
construct_read c p r more h =
    let b = begun c in
    let cs = b.rest ++ more in
    let at : next p (b.first ∷ cs) ≡ step_of c = rw b.are at (constructs_found c p more h) in
    let far : pred (used (step_of c)) ≡ length b.rest = omega (arith, step_used c, ap length b.are) in
    rw b.are
    (stepped p r b.first cs
    ∙ ap (λ s. reading r s (read_from (past s p) (of_text s) 0 (drop (pred (used s)) cs))) at
    ∙ step_reading c r _
    ∙ rw (step_past c p, far, drop-append_seam b.rest more))

-- a row that stands and closes all is read to its kinds
pub row_read : (row : List Construct) (p : Place) (r : Bool) → all_stand row p ≡ true → (place_after_all row p).opened ≡ [] →
    read_from p r 0 (texts row) ≡ accepted (kinds_from r row)
unfolding all_stand place_after_all texts kinds_from read_from at_end preceded
row_read [] p r s e = ap at_end e
row_read (c ∷ cs) p r s e =
    let stands = and_left (may_stand c p) (all_stand cs (place_after c p)) s in
    let behind_it = row_read cs (place_after c p) (of_text (step_of c)) (and_right (may_stand c p) (all_stand cs (place_after c p)) s) e in
    construct_read c p r (texts cs) stands ∙ ap (preceded (gives r (step_of c))) behind_it ∙ ap accepted (sym (step_kinds c r cs))

-- behind a row that stands, a refusal of the rest is the whole's
pub row_refused : (row : List Construct) (p : Place) (r : Bool) (rest : List ℕ) (n : ℕ) → all_stand row p ≡ true →
    ((t : Bool) → read_from (place_after_all row p) t 0 rest ≡ refused n) → read_from p r 0 (texts row ++ rest) ≡ refused n
unfolding all_stand place_after_all texts preceded
row_refused [] p r rest n s e = e r
row_refused (c ∷ cs) p r rest n s e =
    let stands = and_left (may_stand c p) (all_stand cs (place_after c p)) s in
    let behind_it = row_refused cs (place_after c p) (of_text (step_of c)) rest n (and_right (may_stand c p) (all_stand cs (place_after c p)) s) e in
    rw (append_assoc (text_of c) (texts cs) rest) (construct_read c p r (texts cs ++ rest) stands ∙ ap (preceded (gives r (step_of c))) behind_it)

-- where no construct can be completed the reader refuses with the number of the place
stuck_read : (p : Place) (r : Bool) (rest : List ℕ) (n : ℕ) → length p.opened ≤ most_depth → Stuck p rest → (rest ≡ [] → p.opened ≡ [] → ⊥) →
    NumberRight p rest n → read_from p r 0 rest ≡ refused n
unfolding read_from ConstructsWritten NumbersRight Stuck
stuck_read p r [] n d h w a = open_at_end p.opened (w refl) ∙ ap refused (sym (number_at_end p n a))
stuck_read p r (c ∷ cs) n d h w a =
    by_test (is_stuck (next p (c ∷ cs)))
    (λ e.
    let k = is_stuck_number (next p (c ∷ cs)) e in
    stuck_refuses p r c cs k.0 k.1 ∙ ap refused (one_number p (c ∷ cs) k.0 n (numbers_right p (c ∷ cs) k.0 d k.1) a))
    (λ e. let t = constructs_written p (c ∷ cs) e in absurd (h t.construct t.more t.written t.stands))

depth_behind : (row : List Construct) (p : Place) → length p.opened ≤ most_depth → all_stand row p ≡ true → length (place_after_all row p).opened ≤ most_depth
unfolding all_stand place_after_all
depth_behind [] p h s = h
depth_behind (c ∷ cs) p h s =
    depth_behind cs (place_after c p) (depth_kept c p h (and_left (may_stand c p) (all_stand cs (place_after c p)) s)) (and_right (may_stand c p) (all_stand cs (place_after c p)) s)

pub refused_read : (p : Place) (r : Bool) (bs : List ℕ) (n : ℕ) → length p.opened ≤ most_depth → RefusedSo p bs n → read_from p r 0 bs ≡ refused n
refused_read p r bs n d h =
    rw (← h.parted)
    (row_refused h.before p r h.rest n h.stand
    (λ t. stuck_read (place_after_all h.before p) t h.rest n (depth_behind h.before p d h.stand) h.stuck h.not_whole h.number))

-- EVERY TEXT: what the reader says is so
stuck_means : (p : Place) (r : Bool) (c : ℕ) (cs : List ℕ) → length p.opened ≤ most_depth → is_stuck (next p (c ∷ cs)) ≡ true → Means p r (c ∷ cs) (read_from p r 0 (c ∷ cs))
unfolding Means texts all_stand place_after_all Stuck ConstructsFound NumbersRight
stuck_means p r c cs d e =
    let k = is_stuck_number (next p (c ∷ cs)) e in
    rw (stuck_refuses p r c cs k.0 k.1)
    (record {
      before = [];
      rest = c ∷ cs;
      parted = refl;
      stand = refl;
      stuck = λ x more w s. true≢false (sym e ∙ ap is_stuck (ap (next p) (sym w) ∙ constructs_found x p more s) ∙ step_goes x);
      not_whole = λ n _. nothing_there n;
      number = numbers_right p (c ∷ cs) k.0 d k.1;
    })
  where
    nothing_there : c ∷ cs ≡ [] → ⊥
    nothing_there n = omega (arith, ap length n)

-- a construct in front of what is read so
further : (x : Construct) (p : Place) (r : Bool) (more : List ℕ) (q : Reading) → may_stand x p ≡ true → Means (place_after x p) (of_text (step_of x)) more q →
    Means p r (text_of x ++ more) (preceded (gives r (step_of x)) q)
unfolding Means texts all_stand place_after_all preceded
further x p r more (accepted ks) s m =
    record {
      row = x ∷ m.row;
      written = ap (λ l. text_of x ++ l) m.written;
      stand = and_both s m.stand;
      closed = m.closed;
      give = step_kinds x r m.row ∙ ap (λ l. gives r (step_of x) ++ l) m.give;
    }
further x p r more (refused n) s m =
    record {
      before = x ∷ m.before;
      rest = m.rest;
      parted = append_assoc (text_of x) (texts m.before) m.rest ∙ ap (λ l. text_of x ++ l) m.parted;
      stand = and_both s m.stand;
      stuck = m.stuck;
      not_whole = m.not_whole;
      number = m.number;
    }

end_means : (p : Place) (r : Bool) (os : List (List ℕ)) → p.opened ≡ os → Means p r [] (at_end os)
unfolding Means at_end texts all_stand place_after_all kinds_from Stuck
end_means p r [] e = record { row = []; written = refl; stand = refl; closed = e; give = refl }
end_means p r (o ∷ os) e =
    record {
      before = [];
      rest = [];
      parted = refl;
      stand = refl;
      stuck = λ x more w s. nothing_begun (begun x) more w;
      not_whole = λ _ n. omega (arith, ap length (sym e ∙ n));
      number = end_number p;
    }

pub means : (fuel : ℕ) (p : Place) (r : Bool) (bs : List ℕ) → length bs ≤ fuel → length p.opened ≤ most_depth → Means p r bs (read_from p r 0 bs)
unfolding read_from ConstructsWritten
means zero p r [] h d = end_means p r p.opened refl
means (suc fuel) p r [] h d = end_means p r p.opened refl
means zero p r (c ∷ cs) h d = absurd (not-suc-le-zero h)
means (suc fuel) p r (c ∷ cs) h d =
    by_test (is_stuck (next p (c ∷ cs))) (λ e. stuck_means p r c cs d e)
    (λ e.
    let t = constructs_written p (c ∷ cs) e in
    let x = t.construct in
    let shorter : length t.more ≤ fuel = omega (arith, ap length (begun x).are, length-append (text_of x) t.more, ap length t.written) in
    let behind_it = means fuel (place_after x p) (of_text (step_of x)) t.more shorter (depth_kept x p d t.stands) in
    subst (λ (l : List ℕ). Means p r l (read_from p r 0 l)) t.written
    (subst⁻¹ (Means p r (text_of x ++ t.more)) (construct_read x p r t.more t.stands) (further x p r t.more _ t.stands behind_it)))
