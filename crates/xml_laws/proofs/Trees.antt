-- Sheets nest as trees: a row of constructs, each where it may stand and with no element open at the end, is content as the
-- standard nests it, and content is such a row. Assumes nothing.
use mathlib.Core.Path.{◌≡◌, refl, ap, sym, ◌∙◌}
use mathlib.Core.Bool.{Bool, true, ◌&&◌, not, false≢true}
use mathlib.Core.List.{List, [], ◌∷◌, ◌++◌, append_assoc, append-nil}
use Prim.Native.Nat.{ℕ, zero, suc, ◌+◌, ◌-◌, ◌<◌}
use native.Mathlib.Omega.{arith}
use borrow.Author.Tests.{ltb-true, lt-ltb}
use lib.Dec.{ltb, eqb}
use lib.ListN.{length}
use Rattle.lists.proofs.Tests.{and_left, and_right, and_both}
use Rattle.xml.specs.Bytes.{is_char, less_than, greater_than, ampersand}
use Rattle.xml.specs.Grammar.{Construct, datum, reference, cdata, comment, start, empty_element, stop, Tag, is_tag, is_blank, Place, top, closes, tail_of, brackets_after, may_stand, place_after, all_stand, place_after_all, most_depth, is_construct}
use Rattle.xml.specs.Content.{Content, nothing, item, element, constructs, item_right, content_right}
use Rattle.xml.specs.Promise.{InGrammar, Nested, SheetsNestAsTrees}
use Rattle.lists.proofs.Same.{same_refl}
use Rattle.xml_laws.proofs.Standing.{first_stands, rest_stands, stop_closes}
use Rattle.xml_laws.proofs.Closers.{brackets_right, brackets_count}

-- FROM A ROW TO CONTENT. The depth that is left where some elements are open
abbrev left : (opened : List (List ℕ)) → ℕ
left os = most_depth - length os

-- content up to where the innermost open element ends, and what stands from there on
record Filled (ending : List Construct → Type 0) (depth : ℕ) (row : List Construct) : Type 0 where
  content : Content
  rest : List Construct
  written : constructs content ++ rest ≡ row
  right : content_right depth content ≡ true
  ends : ending rest

-- its end tag, and the content around it from there on
record Ended (name : List ℕ) (ending : List Construct → Type 0) (depth : ℕ) (rest : List Construct) : Type 0 where
  blank : List ℕ
  row : List Construct
  written : stop name blank ∷ row ≡ rest
  right : is_blank blank ≡ true
  around : Filled ending depth row

-- for all open elements, innermost first; at last the row ends
abbrev Ending : (opened : List (List ℕ)) → List Construct → Type 0
Ending [] rest = rest ≡ []
Ending (n ∷ os) rest = Ended n (Ending os) (left os) rest

abbrev Spine : (opened : List (List ℕ)) → List Construct → Type 0
Spine os row = Filled (Ending os) (left os) row

no_content : (os : List (List ℕ)) (row : List Construct) → Ending os row → Spine os row
unfolding constructs content_right
no_content os row e = record { content = nothing; rest = row; written = refl; right = refl; ends = e }

with_item : (os : List (List ℕ)) (c : Construct) (row : List Construct) → item_right (left os) c ≡ true → Spine os row → Spine os (c ∷ row)
unfolding constructs content_right
with_item os c row h s = record {
  content = item c s.content;
  rest = s.rest;
  written = ap (λ l. c ∷ l) s.written;
  right = and_both h s.right;
  ends = s.ends;
}

with_element : (os : List (List ℕ)) (t : Tag) (row : List Construct) → is_tag t ≡ true → length os < most_depth → Spine (t.name ∷ os) row → Spine os (start t ∷ row)
unfolding constructs content_right
with_element os t row h l s =
    let e : Ended t.name (Ending os) (left os) s.rest = s.ends in
    let a : Spine os e.row = e.around in
    let d : left os ≡ suc (left (t.name ∷ os)) = omega arith in
    record {
      content = element t s.content e.blank a.content;
      rest = a.rest;
      written = rw (append_assoc (constructs s.content), a.written, e.written, s.written);
      right = rw d (and_both (and_both h e.right) (and_both s.right (rw (← d) a.right)));
      ends = a.ends;
    }

-- a tag stands where some depth is left
tag_fits : (t : Tag) (p : Place) → (is_tag t && ltb (length p.opened) most_depth) ≡ true → length p.opened < most_depth
tag_fits t p h = ltb-true (length p.opened) most_depth (and_right (is_tag t) _ h)

lone_item : (t : Tag) (p : Place) → may_stand (empty_element t) p ≡ true → item_right (left p.opened) (empty_element t) ≡ true
unfolding may_stand is_construct item_right
lone_item t p h = and_both (and_left (is_tag t) _ h) (lt-ltb 0 (left p.opened) (omega (arith, tag_fits t p h)))

datum_item : (c : ℕ) (p : Place) → may_stand (datum c) p ≡ true → item_right (left p.opened) (datum c) ≡ true
unfolding may_stand is_construct item_right
datum_item c p h = and_left (is_char c && (not (eqb c less_than) && not (eqb c ampersand))) _ h

-- an end tag ends the innermost open element
with_end : (n b : List ℕ) (cs : List Construct) (p : Place) → may_stand (stop n b) p ≡ true → Spine (tail_of p.opened) cs → Spine p.opened (stop n b ∷ cs)
unfolding may_stand is_construct
with_end n b cs p h s =
    rw (stop_closes n b p h)
    (no_content (n ∷ tail_of p.opened) (stop n b ∷ cs) (record { blank = b; row = cs; written = refl; right = and_right (closes n p.opened) _ h; around = s }))

spine : (row : List Construct) (p : Place) → all_stand row p ≡ true → (place_after_all row p).opened ≡ [] → Spine p.opened row
unfolding place_after_all place_after may_stand is_construct item_right
spine [] p h e = rw e (no_content [] [] refl)
spine (datum c ∷ cs) p h e = with_item p.opened (datum c) cs (datum_item c p (first_stands (datum c) cs p h)) (spine cs (place_after (datum c) p) (rest_stands (datum c) cs p h) e)
spine (reference n ∷ cs) p h e = with_item p.opened (reference n) cs (first_stands (reference n) cs p h) (spine cs (place_after (reference n) p) (rest_stands (reference n) cs p h) e)
spine (cdata bs ∷ cs) p h e = with_item p.opened (cdata bs) cs (first_stands (cdata bs) cs p h) (spine cs (place_after (cdata bs) p) (rest_stands (cdata bs) cs p h) e)
spine (comment bs ∷ cs) p h e = with_item p.opened (comment bs) cs (first_stands (comment bs) cs p h) (spine cs (place_after (comment bs) p) (rest_stands (comment bs) cs p h) e)
spine (start t ∷ cs) p h e =
    let f : may_stand (start t) p ≡ true = first_stands (start t) cs p h in
    with_element p.opened t cs (and_left (is_tag t) _ f) (tag_fits t p f) (spine cs (place_after (start t) p) (rest_stands (start t) cs p h) e)
spine (empty_element t ∷ cs) p h e = with_item p.opened (empty_element t) cs (lone_item t p (first_stands (empty_element t) cs p h)) (spine cs (place_after (empty_element t) p) (rest_stands (empty_element t) cs p h) e)
spine (stop n b ∷ cs) p h e = with_end n b cs p (first_stands (stop n b) cs p h) (spine cs (place_after (stop n b) p) (rest_stands (stop n b) cs p h) e)

-- the brackets before each byte of data are counted right
stand_brackets : (row : List Construct) (p : Place) → all_stand row p ≡ true → brackets_right p.brackets row ≡ true
unfolding brackets_right place_after may_stand is_construct
stand_brackets [] p h = refl
stand_brackets (datum c ∷ cs) p h =
    and_both (and_right (is_char c && (not (eqb c less_than) && not (eqb c ampersand))) _ (first_stands (datum c) cs p h)) (stand_brackets cs (place_after (datum c) p) (rest_stands (datum c) cs p h))
stand_brackets (reference n ∷ cs) p h = stand_brackets cs (place_after (reference n) p) (rest_stands (reference n) cs p h)
stand_brackets (cdata bs ∷ cs) p h = stand_brackets cs (place_after (cdata bs) p) (rest_stands (cdata bs) cs p h)
stand_brackets (comment bs ∷ cs) p h = stand_brackets cs (place_after (comment bs) p) (rest_stands (comment bs) cs p h)
stand_brackets (start t ∷ cs) p h = stand_brackets cs (place_after (start t) p) (rest_stands (start t) cs p h)
stand_brackets (empty_element t ∷ cs) p h = stand_brackets cs (place_after (empty_element t) p) (rest_stands (empty_element t) cs p h)
stand_brackets (stop n b ∷ cs) p h = stand_brackets cs (place_after (stop n b) p) (rest_stands (stop n b) cs p h)

to_content : (text kinds : List ℕ) → InGrammar text kinds → Nested text kinds
to_content text kinds g =
    let s : Spine [] g.row = spine g.row top g.stand g.closed in
    let e : constructs s.content ≡ g.row = sym (append-nil (constructs s.content)) ∙ rw (← s.ends) s.written in
    record {
      content = s.content;
      written = rw e g.written;
      right = s.right;
      parted = rw e (sym (brackets_count g.row) ∙ stand_brackets g.row top g.stand);
      give = rw e g.give;
    }

-- FROM CONTENT TO A ROW. A row that stands from a place on and closes what is open there
record Closing (row : List Construct) (p : Place) : Type 0 where
  stand : all_stand row p ≡ true
  closed : (place_after_all row p).opened ≡ []

onto : (c : Construct) (row : List Construct) (p : Place) → may_stand c p ≡ true → Closing row (place_after c p) → Closing (c ∷ row) p
unfolding all_stand place_after_all
onto c row p h k = record { stand = and_both h k.stand; closed = k.closed }

-- whatever brackets stand before it, if they are counted right
abbrev ClosingAt : (opened : List (List ℕ)) → List Construct → Type 0
ClosingAt os row = (b : ℕ) → brackets_right b row ≡ true → Closing row (record { opened = os; brackets = b })

item_onto : (d : ℕ) (c : Construct) (row : List Construct) (os : List (List ℕ)) → item_right d c ≡ true → length os + d ≡ most_depth → ClosingAt os row → ClosingAt os (c ∷ row)
unfolding item_right brackets_right may_stand is_construct place_after
item_onto d (datum c) row os r e k b h =
    let fits : Bool = not (eqb c greater_than && eqb b 2) in
    onto (datum c) row (record { opened = os; brackets = b }) (and_both r (and_left fits _ h)) (k (brackets_after c b) (and_right fits _ h))
item_onto d (reference n) row os r e k b h = onto (reference n) row (record { opened = os; brackets = b }) r (k 0 h)
item_onto d (cdata bs) row os r e k b h = onto (cdata bs) row (record { opened = os; brackets = b }) r (k 0 h)
item_onto d (comment bs) row os r e k b h = onto (comment bs) row (record { opened = os; brackets = b }) r (k 0 h)
item_onto d (start t) row os r e k b h = absurd (false≢true r)
item_onto d (empty_element t) row os r e k b h =
    let l : 0 < d = ltb-true 0 d (and_right (is_tag t) _ r) in
    onto (empty_element t) row (record { opened = os; brackets = b }) (and_both (and_left (is_tag t) _ r) (lt-ltb (length os) most_depth (omega arith))) (k 0 h)
item_onto d (stop n bs) row os r e k b h = absurd (false≢true r)

start_onto : (t : Tag) (row : List Construct) (os : List (List ℕ)) → is_tag t ≡ true → length os < most_depth → ClosingAt (t.name ∷ os) row → ClosingAt os (start t ∷ row)
unfolding brackets_right may_stand is_construct place_after
start_onto t row os r l k b h =
    onto (start t) row (record { opened = os; brackets = b }) (and_both r (lt-ltb (length os) most_depth l)) (k 0 h)

stop_onto : (n bs : List ℕ) (row : List Construct) (os : List (List ℕ)) → is_blank bs ≡ true → ClosingAt os row → ClosingAt (n ∷ os) (stop n bs ∷ row)
unfolding brackets_right may_stand is_construct place_after closes tail_of
stop_onto n bs row os r k b h =
    onto (stop n bs) row (record { opened = n ∷ os; brackets = b }) (and_both (same_refl n) r) (k 0 h)

content_onto : (c : Content) (d : ℕ) (row : List Construct) (os : List (List ℕ)) → content_right d c ≡ true → length os + d ≡ most_depth → ClosingAt os row → ClosingAt os (constructs c ++ row)
unfolding content_right constructs
content_onto nothing d row os r e k = k
content_onto (item c rest) d row os r e k =
    item_onto d c (constructs rest ++ row) os (and_left (item_right d c) _ r) e (content_onto rest d row os (and_right (item_right d c) _ r) e k)
content_onto (element t inside bs rest) zero row os r e k = absurd (false≢true r)
content_onto (element t inside bs rest) (suc d) row os r e k =
    let parts : Bool = is_tag t && is_blank bs in
    let tag : parts ≡ true = and_left parts _ r in
    let both : (content_right d inside && content_right (suc d) rest) ≡ true = and_right parts _ r in
    let around : ClosingAt os (constructs rest ++ row) = content_onto rest (suc d) row os (and_right (content_right d inside) _ both) e k in
    let end : List Construct = stop t.name bs ∷ constructs rest ++ row in
    rw (append_assoc (constructs inside))
    (start_onto t (constructs inside ++ end) os (and_left (is_tag t) _ tag) (omega arith)
    (content_onto inside d end (t.name ∷ os) (and_left (content_right d inside) _ both) (omega arith)
    (stop_onto t.name bs (constructs rest ++ row) os (and_right (is_tag t) _ tag) around)))

to_row : (text kinds : List ℕ) → Nested text kinds → InGrammar text kinds
unfolding all_stand place_after_all
to_row text kinds n =
    let row : List Construct = constructs n.content in
    let nothing_left : ClosingAt [] [] = λ b h. record { stand = refl; closed = refl } in
    let k : Closing row top =
    rw (append-nil row) at (content_onto n.content most_depth [] [] n.right refl nothing_left 0 (rw (append-nil row) (brackets_count row ∙ n.parted))) in
    record { row = row; written = n.written; stand = k.stand; closed = k.closed; give = n.give }

pub sheets_nest_as_trees : SheetsNestAsTrees
unfolding SheetsNestAsTrees
sheets_nest_as_trees text kinds = (to_content text kinds, to_row text kinds)
