-- The reader's next construct: one that may stand at a place is found there, what is found may stand there and is written so,
-- and where none is found the number is right. Assumes nothing.
use mathlib.Core.Path.{◌≡◌, refl, ap, sym, ◌∙◌}
use mathlib.Core.Bool.{Bool, true, false, ◌&&◌, not, cond, and-true, true≢false, false≢true}
use mathlib.Core.List.{List, [], ◌∷◌, ◌++◌, append_assoc}
use mathlib.Core.Logic.{inl, inr, ⊎_elim}
use mathlib.Core.Option.{Option, none, some}
use Prim.Native.Nat.{ℕ, suc, ◌+◌, ◌≤◌}
use native.Mathlib.Omega.{arith}
use borrow.Author.Tests.{eqb-true, eqb-false, ne_eqb, not-true, ltb-false}
use lib.Dec.{eqb, ltb}
use lib.ListN.{length, take, drop, length-append}
use lib.Seq.{take-append_seam, drop-append_seam, drop-append-add, drop_at}
use Rattle.lists.specs.Lists.{all_hold, first}
use Rattle.lists.proofs.Tests.{by_test, and_left, and_right, and_both}
use Rattle.xml.specs.Bytes.{is_char, is_space, is_name_start, less_than, greater_than, ampersand, hyphen, bracket, comment_opens, comment_closes, two_hyphens, cdata_opens, cdata_closes, end_opens, tag_closes, lone_closes, instruction_opens, doctype_opens}
use Rattle.xml.specs.Grammar.{reference_text, Construct, datum, reference, cdata, comment, start, empty_element, stop, Tag, is_name, is_blank, is_tag, attributes_text, tag_text, text_of, Place, may_stand, closes, most_depth, refused_opener, not_a_sheet, too_deep, not_read, is_construct}
use Rattle.xml.specs.Scan.{run, body_length, reference_length, SizedTag, tag_at}
use Rattle.xml.specs.Reader.{Step, next, markup_step, comment_step, cdata_step, end_step, tag_step, reference_step, datum_step}
use Rattle.xml.specs.Reader as reader
use Rattle.xml.specs.Promise.{WholeTag}
use Rattle.xml_laws.specs.Steps.{step_of, is_stuck, tag_construct, size_of, TagsFound, TagsWritten, TagThere, ConstructsFound, ConstructThere, ConstructsWritten, NumberRight, NumbersRight}
use Rattle.lists.proofs.Same.{same_refl, same_equal}
use Rattle.lists.specs.Fronts.{starts_with}
use Rattle.lists.proofs.Fronts.{starts_front, rest_of}
use Rattle.xml_laws.proofs.Runs.{stops, run_found, RunThere, run_written}
use Rattle.xml_laws.proofs.References.{reference_found, reference_written}
use Rattle.xml_laws.proofs.Tags.{tags_found, tags_written}
use Rattle.xml_laws.proofs.Bodies.{cdata_within, contains_front, body_found, body_written}

-- BYTES. A name begins with none of the bytes that begin other markup
not_start : (x c : ℕ) → is_name_start x ≡ false → is_name_start c ≡ true → eqb x c ≡ false
not_start x c p q = ne_eqb x c (λ e. true≢false (sym q ∙ rw (← e) p))

-- TAGS. What begins with < and a name is read as a tag
named_step : (p : Place) (n more : List ℕ) → is_name n ≡ true →
    next p (less_than ∷ n ++ more) ≡ tag_step (length p.opened) (less_than ∷ n ++ more) (tag_at (less_than ∷ n ++ more))
unfolding next markup_step first refused_opener starts_with is_name is_name_start
named_step p [] more h = absurd (false≢true h)
named_step p (c ∷ cs) more h =
    let s : is_name_start c ≡ true = and_left (is_name_start c) _ h in
    rw (not_start 33 c refl s, not_start 47 c refl s, not_start 63 c refl s)

-- a tag begins with < and its name
tag_front : (l : Bool) (t : Tag) (more : List ℕ) → (behind : List ℕ) × (text_of (tag_construct l t) ++ more ≡ less_than ∷ t.name ++ behind)
unfolding tag_construct text_of tag_text
tag_front false t more = (attributes_text t.attributes ++ (t.blank ++ (tag_closes ++ more)), simp append_assoc)
tag_front true t more = (attributes_text t.attributes ++ (t.blank ++ (lone_closes ++ more)), simp append_assoc)

-- so its step has its name
sized_step : (l : Bool) (t : Tag) (more rest : List ℕ) (d : ℕ) → text_of (tag_construct l t) ++ more ≡ rest → ltb d most_depth ≡ true →
    tag_step d rest (some (size_of l t)) ≡ step_of (tag_construct l t)
unfolding tag_step size_of step_of tag_construct
sized_step l t more rest d e h =
    let (behind, f) = tag_front l t more in
    go l (rw (← e, f) (take-append_seam t.name behind))
  where
    go : (l : Bool) → take (length t.name) (drop 1 rest) ≡ t.name → tag_step d rest (some (size_of l t)) ≡ step_of (tag_construct l t)
    go false n = rw (h, n)
    go true n = rw h

tag_stands : (l : Bool) (t : Tag) (p : Place) → (is_tag t && ltb (length p.opened) most_depth) ≡ true → may_stand (tag_construct l t) p ≡ true
unfolding tag_construct may_stand is_construct
tag_stands false t p h = h
tag_stands true t p h = h

-- FOUND. A byte of character data
datum_found : (p : Place) (c : ℕ) (more : List ℕ) → may_stand (datum c) p ≡ true → next p (c ∷ more) ≡ reader.Step.one_byte c
unfolding may_stand is_construct next datum_step
datum_found p c more h =
    let a : Bool = is_char c in
    let b : Bool = not (eqb c less_than) in
    let d : Bool = not (eqb c ampersand) in
    let e : Bool = not (eqb c greater_than && eqb p.brackets 2) in
    let l : (a && (b && d)) ≡ true = and_left (a && (b && d)) e h in
    let bd : (b && d) ≡ true = and_right a (b && d) l in
    rw (not-true (eqb c less_than) (and_left b d bd), not-true (eqb c ampersand) (and_right b d bd), and_left a (b && d) l, and_right (a && (b && d)) e h)

reference_read : (p : Place) (n more : List ℕ) → may_stand (reference n) p ≡ true → next p (text_of (reference n) ++ more) ≡ step_of (reference n)
unfolding may_stand is_construct next reference_step text_of step_of reference_text
reference_read p n more h = rw (reference_found n more h)

-- how long what stands between an opener and a closer is with them
between_size : (opens cs closes : List ℕ) → length opens + (length cs + length closes) ≡ length (opens ++ (cs ++ closes))
between_size opens cs closes = simp length-append

cdata_read : (p : Place) (cs more : List ℕ) → may_stand (cdata cs) p ≡ true → next p (text_of (cdata cs) ++ more) ≡ step_of (cdata cs)
unfolding may_stand is_construct next markup_step first starts_with cdata_step text_of step_of
cdata_read p cs more h =
    rw (append_assoc cs cdata_closes more, body_found (bracket ∷ bracket ∷ []) greater_than cs more (and_left (all_hold is_char cs) _ h) (cdata_within cs (not-true _ (and_right (all_hold is_char cs) _ h))))
    (ap reader.Step.piece (between_size cdata_opens cs cdata_closes))

comment_read : (p : Place) (cs more : List ℕ) → may_stand (comment cs) p ≡ true → next p (text_of (comment cs) ++ more) ≡ step_of (comment cs)
unfolding may_stand is_construct next markup_step first starts_with comment_step text_of step_of
comment_read p cs more h =
    rw (append_assoc cs comment_closes more, body_found (hyphen ∷ []) hyphen cs (greater_than ∷ more) (and_left (all_hold is_char cs) _ h) (not-true _ (and_right (all_hold is_char cs) _ h)), drop-append_seam cs (comment_closes ++ more))
    (ap reader.Step.aside (between_size comment_opens cs comment_closes))

-- an end tag of the innermost open name, by what stands behind the name
named_end : (n : List ℕ) (ns : List (List ℕ)) (behind : List ℕ) →
    let g = run is_space behind in
    end_step (n ∷ ns) (end_opens ++ n ++ behind)
    ≡ cond (starts_with tag_closes (drop g behind)) (reader.Step.closing (suc (length (end_opens ++ n) + g))) (reader.Step.stuck not_a_sheet)
unfolding end_step
named_end n ns behind =
    let o : List ℕ = end_opens ++ n in
    rw (starts_front o behind, drop-append_seam o behind, drop-append-add o behind (run is_space behind))

end_size : (n b : List ℕ) → suc (length (end_opens ++ n) + length b) ≡ length (end_opens ++ (n ++ (b ++ tag_closes)))
end_size n b = simp length-append (omega arith)

end_read : (os : List (List ℕ)) (n b more : List ℕ) → closes n os ≡ true → is_blank b ≡ true → end_step os (text_of (stop n b) ++ more) ≡ step_of (stop n b)
unfolding closes text_of step_of is_blank is_space stops starts_with
end_read [] n b more c h = absurd (false≢true c)
end_read (m ∷ ms) n b more c h =
    let rest : List ℕ = tag_closes ++ more in
    let e : text_of (stop n b) ++ more ≡ end_opens ++ n ++ (b ++ rest) = simp append_assoc in
    rw (← (same_equal n m c), e, named_end n ms (b ++ rest), run_found is_space b rest h refl, drop-append_seam b rest)
    (ap reader.Step.closing (end_size n b))

stop_read : (p : Place) (n b more : List ℕ) → may_stand (stop n b) p ≡ true → next p (text_of (stop n b) ++ more) ≡ step_of (stop n b)
unfolding may_stand is_construct next markup_step first starts_with text_of
stop_read p n b more h = end_read p.opened n b more (and_left (closes n p.opened) _ h) (and_right (closes n p.opened) _ h)

-- TOLD. What a step says of the rest: a construct that stands there, or the number of what does not
data Told (p : Place) (rest : List ℕ) : Step → Type 0 where
  there : {s : Step} → ConstructThere p rest s → Told p rest s
  halted : {n : ℕ} → (length p.opened ≤ most_depth → NumberRight p rest n) → Told p rest (reader.Step.stuck n)

not_stuck : (c : Construct) → is_stuck (step_of c) ≡ false
unfolding step_of is_stuck
not_stuck (datum c) = refl
not_stuck (reference n) = refl
not_stuck (cdata cs) = refl
not_stuck (comment cs) = refl
not_stuck (start t) = refl
not_stuck (empty_element t) = refl
not_stuck (stop n b) = refl

told_there : {p : Place} {rest : List ℕ} {s : Step} → Told p rest s → is_stuck s ≡ false → ConstructThere p rest s
unfolding is_stuck
told_there (there c) e = c
told_there (halted f) e = absurd (true≢false e)

told_number : {p : Place} {rest : List ℕ} {s : Step} (n : ℕ) → Told p rest s → s ≡ reader.Step.stuck n → length p.opened ≤ most_depth → NumberRight p rest n
unfolding is_stuck
told_number n (there c) e l = absurd (true≢false (sym (ap is_stuck (c.step ∙ e)) ∙ not_stuck c.construct))
told_number n (halted {n = k} f) e l = let same_number : k ≡ n = cc in rw same_number at (f l)

-- a whole tag begins with < and a byte that begins a name
record OpensName (rest : List ℕ) : Type 0 where
  byte : ℕ
  more : List ℕ
  begins : is_name_start byte ≡ true
  written : less_than ∷ byte ∷ more ≡ rest

name_opens : (n more : List ℕ) → is_name n ≡ true → OpensName (less_than ∷ n ++ more)
unfolding is_name
name_opens [] more h = absurd (false≢true h)
name_opens (c ∷ cs) more h = record { byte = c; more = cs ++ more; begins = and_left (is_name_start c) _ h; written = refl }

tag_opens : (l : Bool) (t : Tag) (more rest : List ℕ) → is_tag t ≡ true → text_of (tag_construct l t) ++ more ≡ rest → OpensName rest
unfolding is_tag
tag_opens l t more rest h e =
    let (behind, f) = tag_front l t more in
    rw (sym f ∙ e) at (name_opens t.name behind (and_left (is_name t.name) _ h))

whole_opens : (rest : List ℕ) → WholeTag rest → OpensName rest
unfolding tag_construct
whole_opens rest w = ⊎_elim (tag_opens false w.tag w.more rest w.right) (tag_opens true w.tag w.more rest w.right) w.written

whole_of : (l : Bool) (t : Tag) (more rest : List ℕ) → is_tag t ≡ true → text_of (tag_construct l t) ++ more ≡ rest → WholeTag rest
unfolding tag_construct
whole_of false t more rest h e = record { tag = t; more = more; right = h; written = inl e }
whole_of true t more rest h e = record { tag = t; more = more; right = h; written = inr e }

-- where no refused opener and no whole tag stands, the number is 12
not_sheet : (p : Place) (rest : List ℕ) → refused_opener rest ≡ false → (WholeTag rest → ⊥) → Told p rest (reader.Step.stuck not_a_sheet)
not_sheet p rest r no_tag = halted (λ l. record {
  fourteen = (λ (e : not_a_sheet ≡ not_read). absurd (omega arith), λ t. absurd (true≢false (sym t ∙ r)));
  thirteen = (λ (e : not_a_sheet ≡ too_deep). absurd (omega arith), λ h. absurd (no_tag h.1));
  only = inl refl;
})

-- so also where the first byte is not <
not_markup : (p : Place) (c : ℕ) (cs : List ℕ) → eqb c less_than ≡ false → Told p (c ∷ cs) (reader.Step.stuck not_a_sheet)
unfolding refused_opener starts_with
not_markup p c cs e =
    let f : eqb less_than c ≡ false = ne_eqb less_than c (λ q. eqb-false c less_than e (sym q)) in
    not_sheet p (c ∷ cs) (rw f) (λ w. let o = whole_opens (c ∷ cs) w in eqb-false c less_than e (cc o.written))

-- or the second begins no name, and the opener is not refused
unnamed : (x : ℕ) (cs : List ℕ) → is_name_start x ≡ false → WholeTag (less_than ∷ x ∷ cs) → ⊥
unnamed x cs f w =
    let o = whole_opens (less_than ∷ x ∷ cs) w in
    let same_byte : o.byte ≡ x = cc o.written in
    true≢false (sym o.begins ∙ rw same_byte f)

not_named : (p : Place) (x : ℕ) (cs : List ℕ) → is_name_start x ≡ false → refused_opener (less_than ∷ x ∷ cs) ≡ false → Told p (less_than ∷ x ∷ cs) (reader.Step.stuck not_a_sheet)
not_named p x cs f r = not_sheet p (less_than ∷ x ∷ cs) r (unnamed x cs f)

datum_told : (p : Place) (c : ℕ) (cs : List ℕ) → eqb c less_than ≡ false → eqb c ampersand ≡ false → Told p (c ∷ cs) (datum_step p.brackets c)
unfolding datum_step may_stand is_construct text_of step_of
datum_told p c cs e f =
    by_test (is_char c && not (eqb c greater_than && eqb p.brackets 2))
    (λ t. rw t (there (record { construct = datum c; more = cs; written = refl; stands = rw (e, f, and-true (is_char c)) t; step = refl })))
    (λ t. rw t (not_markup p c cs e))

reference_told : (p : Place) (cs : List ℕ) → Told p (ampersand ∷ cs) (reference_step (reference_length (ampersand ∷ cs)))
unfolding reference_step may_stand is_construct text_of step_of reference_text
reference_told p cs =
    by_test (eqb (reference_length (ampersand ∷ cs)) 0)
    (λ e. rw (eqb-true (reference_length (ampersand ∷ cs)) 0 e) (not_markup p ampersand cs refl))
    (λ e. let r = reference_written (ampersand ∷ cs) e in
    rw (← r.size) (there (record { construct = reference r.name; more = r.more; written = r.written; stands = r.right; step = refl })))

cdata_told : (p : Place) (body : List ℕ) → Told p (cdata_opens ++ body) (cdata_step (body_length cdata_closes body))
unfolding cdata_step may_stand is_construct text_of step_of refused_opener starts_with is_name_start
cdata_told p body = go (body_length cdata_closes body) refl
  where
    go : (o : Option ℕ) → body_length cdata_closes body ≡ o → Told p (cdata_opens ++ body) (cdata_step o)
    go none e = not_named p 33 (91 ∷ 67 ∷ 68 ∷ 65 ∷ 84 ∷ 65 ∷ 91 ∷ body) refl refl
    go (some m) e =
        let b = body_written (bracket ∷ bracket ∷ []) greater_than body m e in
        there (record {
          construct = cdata b.bytes;
          more = b.more;
          written = ap (λ l. cdata_opens ++ l) (append_assoc b.bytes cdata_closes b.more ∙ b.written);
          stands = and_both b.right (rw (contains_front cdata_closes b.bytes (bracket ∷ bracket ∷ []) b.clear));
          step = ap reader.Step.piece (rw b.size at (sym (between_size cdata_opens b.bytes cdata_closes)));
        })

comment_told : (p : Place) (body : List ℕ) → Told p (comment_opens ++ body) (comment_step body (body_length two_hyphens body))
unfolding comment_step may_stand is_construct text_of step_of refused_opener starts_with is_name_start
comment_told p body = go (body_length two_hyphens body) refl
  where
    halts : Told p (comment_opens ++ body) (reader.Step.stuck not_a_sheet)
    halts = not_named p 33 (hyphen ∷ hyphen ∷ body) refl refl

    go : (o : Option ℕ) → body_length two_hyphens body ≡ o → Told p (comment_opens ++ body) (comment_step body o)
    go none e = halts
    go (some m) e =
        let b = body_written (hyphen ∷ []) hyphen body m e in
        let behind : drop m body ≡ two_hyphens ++ b.more = rw b.written at (drop_at b.bytes (two_hyphens ++ b.more) m b.size) in
        by_test (starts_with comment_closes (drop m body))
        (λ t. let more : List ℕ = drop (length comment_closes) (drop m body) in
        let split : drop m body ≡ comment_closes ++ more = rest_of comment_closes (drop m body) t in
        rw t (there (record {
          construct = comment b.bytes;
          more = more;
          written = ap (λ l. comment_opens ++ l) (append_assoc b.bytes comment_closes more ∙ ap (λ l. b.bytes ++ l) (sym split ∙ behind) ∙ b.written);
          stands = and_both b.right (rw b.clear);
          step = ap reader.Step.aside (rw b.size at (sym (between_size comment_opens b.bytes comment_closes)));
        })))
        (λ t. rw t halts)

-- behind the innermost open name
closing_told : (p : Place) (n : List ℕ) (ns : List (List ℕ)) (b more : List ℕ) → p.opened ≡ n ∷ ns → is_blank b ≡ true → stops is_space more ≡ true →
    Told p (end_opens ++ n ++ (b ++ more)) (end_step (n ∷ ns) (end_opens ++ n ++ (b ++ more)))
unfolding may_stand is_construct closes is_blank text_of step_of refused_opener starts_with is_name_start
closing_told p n ns b more o h s =
    rw (named_end n ns (b ++ more), run_found is_space b more h s, drop-append_seam b more)
    (by_test (starts_with tag_closes more)
    (λ t. let split : more ≡ tag_closes ++ drop 1 more = rest_of tag_closes more t in
    rw t (there (record {
      construct = stop n b;
      more = drop 1 more;
      written = simp (append_assoc, ← split);
      stands = rw o (and_both (same_refl n) h);
      step = ap reader.Step.closing (sym (end_size n b));
    })))
    (λ t. rw t (not_named p 47 (n ++ (b ++ more)) refl refl)))

end_told : (p : Place) (body : List ℕ) → Told p (end_opens ++ body) (end_step p.opened (end_opens ++ body))
unfolding end_step refused_opener starts_with is_name_start is_blank
end_told p body = go p.opened refl
  where
    go : (os : List (List ℕ)) → p.opened ≡ os → Told p (end_opens ++ body) (end_step os (end_opens ++ body))
    go [] o = not_named p 47 body refl refl
    go (n ∷ ns) o =
        by_test (starts_with n body)
        (λ t. let r : RunThere is_space (drop (length n) body) = run_written is_space (drop (length n) body) in
        let e : n ++ (r.front ++ r.more) ≡ body = rw r.written (sym (rest_of n body t)) in
        rw e at (closing_told p n ns r.front r.more o r.holds r.ends))
        (λ t. rw t (not_named p 47 body refl refl))

refused_told : (p : Place) (rest : List ℕ) → refused_opener rest ≡ true → Told p rest (reader.Step.stuck not_read)
unfolding refused_opener is_name_start
refused_told p rest r = halted (λ l. record {
  fourteen = (λ e. r, λ e. refl);
  thirteen = (λ (e : not_read ≡ too_deep). absurd (omega arith), λ h. absurd (no_tag h.1));
  only = inr (inr refl);
})
  where
    no_tag : WholeTag rest → ⊥
    no_tag w =
        by_test (starts_with instruction_opens rest)
        (λ t. unnamed 63 (drop 2 rest) refl (rw (rest_of instruction_opens rest t) at w))
        (λ t. unnamed 33 (68 ∷ 79 ∷ 67 ∷ 84 ∷ 89 ∷ 80 ∷ 69 ∷ drop 9 rest) refl (rw (rest_of doctype_opens rest (rw t at r)) at w))

tag_read : (l : Bool) (t : Tag) (p : Place) (more : List ℕ) → (is_tag t && ltb (length p.opened) most_depth) ≡ true →
    next p (text_of (tag_construct l t) ++ more) ≡ step_of (tag_construct l t)
unfolding TagsFound is_tag
tag_read l t p more h =
    let right : is_tag t ≡ true = and_left (is_tag t) _ h in
    let (behind, e) = tag_front l t more in
    let text : List ℕ = text_of (tag_construct l t) ++ more in
    let read : next p text ≡ tag_step (length p.opened) text (tag_at text) =
    rw e (named_step p t.name behind (and_left (is_name t.name) _ right)) in
    read ∙ rw (tags_found l t more right) (sized_step l t more text (length p.opened) refl (and_right (is_tag t) _ h))

pub constructs_found : ConstructsFound
unfolding ConstructsFound may_stand is_construct tag_construct text_of step_of
constructs_found (datum c) p more h = datum_found p c more h
constructs_found (reference n) p more h = reference_read p n more h
constructs_found (cdata cs) p more h = cdata_read p cs more h
constructs_found (comment cs) p more h = comment_read p cs more h
constructs_found (start t) p more h = tag_read false t p more h
constructs_found (empty_element t) p more h = tag_read true t p more h
constructs_found (stop n b) p more h = stop_read p n b more h

tag_at_whole : (l : Bool) (t : Tag) (more rest : List ℕ) → is_tag t ≡ true → text_of (tag_construct l t) ++ more ≡ rest → tag_at rest ≡ none → ⊥
unfolding TagsFound
tag_at_whole l t more rest h e m =
    let found : tag_at rest ≡ some (size_of l t) = rw e at (tags_found l t more h) in
    let z : ◌≡◌ {A = ℕ} 0 1 = cc in omega arith

no_whole : (rest : List ℕ) → tag_at rest ≡ none → WholeTag rest → ⊥
unfolding tag_construct
no_whole rest m w =
    ⊎_elim (λ e. tag_at_whole false w.tag w.more rest w.right e m) (λ e. tag_at_whole true w.tag w.more rest w.right e m) w.written

-- what begins with < and neither with another opener nor with a refused one
tag_told : (p : Place) (cs : List ℕ) → refused_opener (less_than ∷ cs) ≡ false →
    Told p (less_than ∷ cs) (tag_step (length p.opened) (less_than ∷ cs) (tag_at (less_than ∷ cs)))
unfolding tag_step TagsWritten
tag_told p cs r = go (tag_at (less_than ∷ cs)) refl
  where
    rest : List ℕ
    rest = less_than ∷ cs

    go : (o : Option SizedTag) → tag_at rest ≡ o → Told p rest (tag_step (length p.opened) rest o)
    go none e = not_sheet p rest r (no_whole rest e)
    go (some z) e =
        let w : TagThere rest z = tags_written cs z e in
        by_test (ltb (length p.opened) most_depth)
        (λ t. there (record {
          construct = tag_construct z.lone w.tag;
          more = w.more;
          written = w.written;
          stands = tag_stands z.lone w.tag p (and_both w.right t);
          step = sym (rw w.size at (sized_step z.lone w.tag w.more rest (length p.opened) w.written t));
        }))
        (λ t. rw t (halted (λ l. record {
          fourteen = (λ (q : too_deep ≡ not_read). absurd (omega arith), λ q. absurd (true≢false (sym q ∙ r)));
          thirteen = (λ q. (omega (arith, ltb-false (length p.opened) most_depth t), whole_of z.lone w.tag w.more rest w.right w.written), λ h. refl);
          only = inr (inl refl);
        })))

markup_told : (p : Place) (cs : List ℕ) → Told p (less_than ∷ cs) (markup_step p (less_than ∷ cs))
unfolding markup_step first
markup_told p cs =
    let rest : List ℕ = less_than ∷ cs in
    by_test (starts_with comment_opens rest)
    (λ t. rw t (rw (← (rest_of comment_opens rest t)) at (comment_told p (drop (length comment_opens) rest))))
    (λ t₁. by_test (starts_with cdata_opens rest)
    (λ t. rw (t₁, t) (rw (← (rest_of cdata_opens rest t)) at (cdata_told p (drop (length cdata_opens) rest))))
    (λ t₂. by_test (starts_with end_opens rest)
    (λ t. rw (t₁, t₂, t) (rw (← (rest_of end_opens rest t)) at (end_told p (drop (length end_opens) rest))))
    (λ t₃. by_test (refused_opener rest)
    (λ t. rw (t₁, t₂, t₃, t) (refused_told p rest t))
    (λ t. rw (t₁, t₂, t₃, t) (tag_told p cs t)))))

next_told : (p : Place) (rest : List ℕ) → Told p rest (next p rest)
unfolding next refused_opener starts_with
next_told p [] = not_sheet p [] refl (λ w. let z : ◌≡◌ {A = ℕ} 0 1 = cc (whole_opens [] w).written in omega arith)
next_told p (c ∷ cs) =
    by_test (eqb c less_than)
    (λ e. rw (eqb-true c less_than e) (markup_told p cs))
    (λ e. by_test (eqb c ampersand)
    (λ f. rw (eqb-true c ampersand f) (reference_told p cs))
    (λ f. rw (e, f) (datum_told p c cs e f)))

pub constructs_written : ConstructsWritten
unfolding ConstructsWritten
constructs_written p rest e = told_there (next_told p rest) e

pub numbers_right : NumbersRight
unfolding NumbersRight
numbers_right p rest n l e = told_number n (next_told p rest) e l
