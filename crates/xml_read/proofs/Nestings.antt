-- Elements: what their tags leave to be read, and the readers of content and elements one behind the other. Assumes nothing.
use mathlib.Core.Path.{◌≡◌, refl, sym, ◌∙◌, ap}
use mathlib.Core.Bool.{Bool, true, false, ◌&&◌, not, false≢true}
use mathlib.Core.List.{List, [], ◌∷◌}
use mathlib.Core.Option.{Option, none, some}
use Prim.Native.Nat.{ℕ, suc, ◌+◌, ◌-◌, ◌≤◌, ◌<◌}
use native.Mathlib.Nat.{le_refl}
use native.Mathlib.Omega.{arith}
use borrow.Author.Tests.{not-true, lt-ltb, le-ltb, eqb-false}
use lib.Dec.{eqb}
use Rattle.std.specs.Prelude.{Some, None, Ok, Err}
use lib.ListN.{length, take, drop, set, length-drop, length-set}
use lib.Seq.{drop-drop}
use Rattle.lists.proofs.Tests.{and_left, and_right}
use Rattle.lists.specs.Fronts.{starts_with}
use Rattle.lists.proofs.Fronts.{rest_of}
use Rattle.xml.specs.Bytes.{less_than, declaration_opens, instruction_opens}
use Rattle.xml.specs.Grammar.{at_place, most_depth, not_a_sheet, too_deep}
use Rattle.xml.specs.Scan.{SizedTag, tag_at}
use Rattle.xml.specs.Reader.{Step, next, tag_step, gives, past, of_text, used, Reading, refused, preceded, read_from}
use Rattle.xml.specs.Reader as reader
use Rattle.xml_laws.specs.Steps.{is_stuck}
use Rattle.xml_laws.proofs.Dispatch.{step_read, step_refused, next_tag}
use Rattle.xml_laws.proofs.Within.{TagWithin, tag_within}
use Rattle.xml_pieces.specs.declared.Cursor.{Cursor}
use Rattle.store_types.specs.declared.refusal.Refusal.{Refusal}
use Rattle.store_types.specs.declared.refusal.Refusal.TheVariants.{NotASheet, TooDeep}
use Rattle.store_types.specs.Replies.{number_of}
use Rattle.xml_tag.specs.declared.TagRead.{TagRead}
use Rattle.xml_tag.specs.Post.{tag_found}
use Rattle.xml_pieces.specs.Pieces.{goes_on, opens_element}
use Rattle.xml_pieces.specs.Outcome.{Part, in_text, done, failed, finish, outcome, cursor_at, InText, Reached, ReadsOn, Closes, Ended}
use Rattle.xml_read.specs.Sure.{Sure}
use Rattle.xml_pieces.proofs.PieceLaws.{dropped, some_used, no_end}
use Rattle.xml_pieces.proofs.Outcomes.{finish_kind, refused_on}

-- READERS ONE BEHIND THE OTHER
pub stays : (bs : List ℕ) (d : ℕ) (c : Cursor) (ls : List ℕ) → InText bs c → ReadsOn bs d c c.at ls ls (Ok c)
unfolding Reached
stays bs d c ls h = record { same = λ os w. refl; reached = (h, le_refl _); long = refl }

reached_on : (bs : List ℕ) (i j : ℕ) (q : Part) → i ≤ j → Reached bs j q → Reached bs i q
unfolding Reached
reached_on bs i j (Ok c) l r = (r.0, omega (arith, r.1))
reached_on bs i j (Err k) l r = tt

pub goes_further : (bs : List ℕ) (d : ℕ) (a b : Cursor) (ls ms ns : List ℕ) (q : Part) → ReadsOn bs d a a.at ls ms (Ok b) → ReadsOn bs d b (suc b.at) ms ns q → ReadsOn bs d a a.at ls ns q
unfolding Reached
goes_further bs d a b ls ms ns q f g =
    record {
      same = λ os w. g.same os w ∙ f.same os w;
      reached = reached_on bs a.at (suc b.at) q (omega (arith, f.reached.1)) g.reached;
      long = g.long ∙ f.long;
    }

-- what the one was told holds for the other
pub sure_on : (bs : List ℕ) (d i : ℕ) (a b : Cursor) (ls ms : List ℕ) → ReadsOn bs d a i ls ms (Ok b) → Sure bs d a ls → Sure bs d b ms
sure_on bs d i a b ls ms r s l =
    let h = s (omega (arith, r.long)) in
    record { opened = h.opened; deep = h.deep; count = h.count; list = h.list; accepts = r.same h.opened h.deep ∙ h.accepts }

-- where content goes on there is a byte
pub goes_within : (bs : List ℕ) (i : ℕ) → goes_on (drop i bs) ≡ true → i < length bs
unfolding goes_on
goes_within bs i g = some_byte (drop i bs) (length-drop i bs) g
  where
    some_byte : (cs : List ℕ) → length cs ≡ length bs - i → goes_on cs ≡ true → i < length bs
    some_byte [] e h = absurd (false≢true h)
    some_byte (c ∷ cs) e h = omega arith

-- a turn of the content reader: an element, or a construct that is none
pub record Turned (bs : List ℕ) (d : ℕ) (a b c : Cursor) (ls ns : List ℕ) : Type 0 where
  pub text : InText bs c
  pub on : suc b.at ≤ c.at
  pub reads : ReadsOn bs d a a.at ls ns (Ok c)

pub turned : (bs : List ℕ) (d : ℕ) (a b c : Cursor) (ls ms ns : List ℕ) (q : Part) → ReadsOn bs d a a.at ls ms (Ok b) → ReadsOn bs d b (suc b.at) ms ns q → q ≡ Ok c → Turned bs d a b c ls ns
unfolding Reached
turned bs d a b c ls ms ns q f g e =
    let h : ReadsOn bs d b (suc b.at) ms ns (Ok c) = rw e at g in
    record { text = h.reached.0; on = h.reached.1; reads = goes_further bs d a b ls ms ns (Ok c) f h }

pub ended_at : (bs : List ℕ) (d i : ℕ) (a b : Cursor) (ls ns : List ℕ) (q : Part) → ReadsOn bs d a i ls ns q → Ended bs q → q ≡ Ok b → InText bs b × (goes_on (drop b.at bs) ≡ false)
unfolding Reached Ended
ended_at bs d i a b ls ns q r e z =
    let r' : ReadsOn bs d a i ls ns (Ok b) = rw z at r in
    (r'.reached.0, rw z at e)

pub refused_ended : (bs : List ℕ) (q : Part) (k : Refusal) → q ≡ Err k → Ended bs q
unfolding Ended
refused_ended bs q k e = rw e tt

-- A TAG that the code has found, taken apart
pub record FoundTag (i n e : ℕ) (l : Bool) (o : Option SizedTag) : Type 0 where
  pub size : SizedTag
  pub is : o ≡ some size
  pub name : n ≡ suc i + size.name
  pub end : e ≡ i + size.used
  pub lone : l ≡ size.lone

pub tag_whole : (i : ℕ) (t : TagRead) (o : Option SizedTag) → Some t ≡ tag_found i o → FoundTag i t.name t.end t.lone o
unfolding tag_found
tag_whole i t none h = cc
tag_whole i t (some z) h =
    let e : t ≡ record { name = suc i + z.name; end = i + z.used; lone = z.lone } = cc in
    record { size = z; is = refl; name = ap (λ y. y.name) e; end = ap (λ y. y.end) e; lone = ap (λ y. y.lone) e }

pub tag_broken : (i : ℕ) (o : Option SizedTag) → None ≡ tag_found i o → o ≡ none
unfolding tag_found
tag_broken i none h = refl
tag_broken i (some z) h = cc

-- AN ELEMENT BEGINS at a place
module _ (bs : List ℕ) (c : Cursor) (h : InText bs c) (g : goes_on (drop c.at bs) ≡ true) (o : opens_element (drop c.at bs) ≡ true) where
  abbrev here : List ℕ
  here = drop c.at bs

  opens : starts_with (less_than ∷ []) here ≡ true
  unfolding opens_element
  opens = and_left (starts_with (less_than ∷ []) here) _ o

  other : (not (starts_with declaration_opens here) && not (starts_with instruction_opens here)) ≡ true
  unfolding opens_element
  other = and_right (starts_with (less_than ∷ []) here) _ o

  split : here ≡ less_than ∷ drop 1 here
  split = rest_of (less_than ∷ []) here opens

  tag_next : (os : List (List ℕ)) → next (at_place os) here ≡ tag_step (length os) here (tag_at here)
  tag_next os =
      let d : starts_with declaration_opens here ≡ false = not-true _ (and_left (not (starts_with declaration_opens here)) _ other) in
      let i : starts_with instruction_opens here ≡ false = not-true _ (and_right (not (starts_with declaration_opens here)) _ other) in
      rw split (next_tag (at_place os) (drop 1 here) (rw split at d) (rw split at i) (rw split at (no_end here g)))

  stuck_here : (os : List (List ℕ)) (r : Bool) (k : ℕ) → next (at_place os) here ≡ reader.Step.stuck k → read_from (at_place os) r 0 here ≡ refused k
  stuck_here os r k e = rw split (step_refused (at_place os) r less_than (drop 1 here) k (rw split at e))

  -- that is not whole
  pub tag_refused : (d : ℕ) (ls : List ℕ) → tag_at here ≡ none → ReadsOn bs d c (suc c.at) ls ls (Err NotASheet)
  unfolding tag_step number_of
  tag_refused d ls e = refused_on bs d c NotASheet _ ls (λ os w. stuck_here os (in_text c) not_a_sheet (tag_next os ∙ ap (tag_step (length os) here) e))

  -- which does not happen where the text is accepted
  pub tag_sure : (d : ℕ) (ls : List ℕ) → Sure bs d c ls → eqb (length ls) 0 ≡ false → tag_at here ≡ none → ⊥
  unfolding outcome number_of
  tag_sure d ls s t e =
      let h = s (omega (arith, eqb-false (length ls) 0 t)) in
      let both : failed not_a_sheet ≡ done h.count h.list = (tag_refused d ls e).same h.opened h.deep ∙ h.accepts in
      let z : ◌≡◌ {A = ℕ} 0 1 = cc in
      omega arith

  module _ (z : SizedTag) (e : tag_at here ≡ some z) where
    -- at no depth left
    pub deep_refused : (d : ℕ) (ls : List ℕ) → d ≡ 0 → ReadsOn bs d c (suc c.at) ls ls (Err TooDeep)
    unfolding tag_step number_of
    deep_refused d ls f =
        refused_on bs d c TooDeep _ ls
        (λ os w. stuck_here os (in_text c) too_deep (tag_next os ∙ ap (tag_step (length os) here) e ∙ rw (le-ltb (length os) most_depth (omega arith))))

    pub tag_size : TagWithin here z
    tag_size = rw split (tag_within (drop 1 here) z (rw split at e))

    abbrev end : ℕ
    end = c.at + z.used

    end_within : end ≤ length bs
    end_within = let t = tag_size in omega (arith, t.least, t.most, length-drop c.at bs)

    -- what stands behind an empty-element tag
    lone_next : (os : List (List ℕ)) → length os < most_depth → z.lone ≡ true → next (at_place os) here ≡ reader.Step.whole z.used
    unfolding tag_step
    lone_next os l f = tag_next os ∙ ap (tag_step (length os) here) e ∙ rw (lt-ltb (length os) most_depth l, f)

    twice : (n : ℕ) (ls : List ℕ) (q : Reading) → finish (n + 1 + 1) (set (set ls n 1) (n + 1) 2) q ≡ finish n ls (preceded (1 ∷ 2 ∷ []) q)
    unfolding preceded
    twice n ls q = finish_kind (n + 1) 2 (set ls n 1) q ∙ finish_kind n 1 ls (preceded (2 ∷ []) q) ∙ ap (finish n ls) (both q)
      where
        both : (q : Reading) → preceded (1 ∷ []) (preceded (2 ∷ []) q) ≡ preceded (1 ∷ 2 ∷ []) q
        both (reader.accepted ks) = refl
        both (reader.refused k) = refl

    pub lone_on : (d : ℕ) (ls : List ℕ) → 0 < d → z.lone ≡ true →
        ReadsOn bs d c (suc c.at) ls (set (set ls c.count 1) (c.count + 1) 2) (Ok (cursor_at end (c.count + 1 + 1) 0))
    unfolding outcome Reached gives past of_text used is_stuck
    lone_on d ls l f =
        let t = tag_size in
        let (k, is) = some_used z.used (omega (arith, t.least)) in
        record {
          same = λ os w.
              twice c.count ls _
              ∙ ap (finish c.count ls) (ap (λ m. preceded (1 ∷ 2 ∷ []) (read_from (at_place os) false 0 m)) (sym (dropped bs z.used c.at end refl))
              ∙ sym (step_read (at_place os) (in_text c) here _ k (lone_next os (omega arith) f) refl is));
          reached = (record { within = end_within; counted = omega (arith, h.counted, t.least) }, omega (arith, t.least));
          long = length-set (set ls c.count 1) (c.count + 1) 2 ∙ length-set ls c.count 1;
        }

    -- what stands behind a start tag is read with its name open
    abbrev name : List ℕ
    name = take z.name (drop 1 here)

    abbrev inside : Cursor
    inside = cursor_at end (c.count + 1) 0

    open_next : (os : List (List ℕ)) → length os < most_depth → z.lone ≡ false → next (at_place os) here ≡ reader.Step.opening name z.used
    unfolding tag_step
    open_next os l f = tag_next os ∙ ap (tag_step (length os) here) e ∙ rw (lt-ltb (length os) most_depth l, f)

    pub inside_text : InText bs inside
    inside_text = let t = tag_size in record { within = end_within; counted = omega (arith, h.counted, t.least) }

    opened : (d : ℕ) (ls : List ℕ) (os : List (List ℕ)) → 0 < d → length os + d ≡ most_depth → z.lone ≡ false →
        outcome bs (name ∷ os) (set ls c.count 1) (Ok inside) ≡ outcome bs os ls (Ok c)
    unfolding outcome gives past of_text used is_stuck
    opened d ls os l w f =
        let t = tag_size in
        let (k, is) = some_used z.used (omega (arith, t.least)) in
        finish_kind c.count 1 ls _
        ∙ ap (finish c.count ls) (ap (λ m. preceded (1 ∷ []) (read_from (at_place (name ∷ os)) false 0 m)) (sym (dropped bs z.used c.at end refl))
        ∙ sym (step_read (at_place os) (in_text c) here _ k (open_next os (omega arith) f) refl is))

    module _ (d : ℕ) (ls ms : List ℕ) (l : 0 < d) (f : z.lone ≡ false) where
      -- content that is refused
      pub content_refused : (k : Refusal) → ReadsOn bs (d - 1) inside end (set ls c.count 1) ms (Err k) → ReadsOn bs d c (suc c.at) ls ms (Err k)
      unfolding outcome Reached
      content_refused k r =
          record {
            same = λ os w. r.same (name ∷ os) (omega arith) ∙ opened d ls os l w f;
            reached = tt;
            long = r.long ∙ length-set ls c.count 1;
          }

      -- content and its end tag
      pub element_on : (b : Cursor) (ns : List ℕ) (q : Part) → ReadsOn bs (d - 1) inside end (set ls c.count 1) ms (Ok b) → Closes bs name b ms ns q → ReadsOn bs d c (suc c.at) ls ns q
      unfolding Reached
      element_on b ns q r s =
          let t = tag_size in
          record {
            same = λ os w. s.same os ∙ r.same (name ∷ os) (omega arith) ∙ opened d ls os l w f;
            reached = reached_on bs (suc c.at) b.at q (omega (arith, r.reached.1, t.least)) s.reached;
            long = s.long ∙ r.long ∙ length-set ls c.count 1;
          }

  -- THE SAME by what the code has in hand: where the name and the tag end, the cursor behind it, the lists
  module _ (n e : ℕ) (l : Bool) (f : FoundTag c.at n e l (tag_at here)) where
    pub record Places : Type 0 where
      pub name_least : suc c.at ≤ n
      pub name_most : n ≤ length bs
      pub least : c.at + 2 ≤ e
      pub most : e ≤ length bs

    pub places : Places
    places =
        let t = tag_size f.size f.is in
        let room = length-drop c.at bs in
        let ends = f.end in
        let named = f.name in
        record { name_least = omega arith; name_most = omega (arith, t.least, t.name, t.most); least = omega (arith, t.least); most = omega (arith, t.least, t.most) }

    pub found_deep : (d : ℕ) (ls : List ℕ) → d ≡ 0 → ReadsOn bs d c (suc c.at) ls ls (Err TooDeep)
    found_deep d ls z = deep_refused f.size f.is d ls z

    module _ (d : ℕ) (ls ms : List ℕ) (b : Cursor) (left : d ≡ 0 → ⊥) (begun : b ≡ cursor_at e (c.count + 1) 0) (put : ms ≡ set ls c.count 1) where
      inside_is : b ≡ inside f.size f.is
      inside_is = begun ∙ ap (λ k. cursor_at k (c.count + 1) 0) f.end

      pub found_inside : InText bs b
      found_inside = rw inside_is (inside_text f.size f.is)

      found_opened : (os : List (List ℕ)) → length os + d ≡ most_depth → l ≡ false → outcome bs (name f.size f.is ∷ os) ms (Ok b) ≡ outcome bs os ls (Ok c)
      found_opened os w t = rw (inside_is, put) (opened f.size f.is d ls os (omega arith) w (sym f.lone ∙ t))

      pub found_sure : l ≡ false → Sure bs d c ls → Sure bs (d - 1) b ms
      found_sure t s m =
          let h = s (omega (arith, ap length put, length-set ls c.count 1)) in
          record {
            opened = name f.size f.is ∷ h.opened;
            deep = omega (arith, h.deep);
            count = h.count;
            list = h.list;
            accepts = found_opened h.opened h.deep t ∙ h.accepts;
          }

      pub found_lone : (ns : List ℕ) (q : Part) → l ≡ true → q ≡ Ok (cursor_at e (b.count + 1) 0) → ns ≡ set ms b.count 2 → ReadsOn bs d c (suc c.at) ls ns q
      found_lone ns q t r p =
          rw (r, p, put, begun, f.end) (lone_on f.size f.is d ls (omega arith) (sym f.lone ∙ t))

      module _ (ns : List ℕ) (q : Part) (t : l ≡ false) (r : ReadsOn bs (d - 1) b b.at ms ns q) where
        inside_reads : ReadsOn bs (d - 1) (inside f.size f.is) (end f.size f.is) (set ls c.count 1) ns q
        inside_reads = rw (inside_is, put) at r

        pub found_refused : (k : Refusal) → q ≡ Err k → ReadsOn bs d c (suc c.at) ls ns q
        found_refused k z =
            rw z (content_refused f.size f.is d ls ns (omega arith) (sym f.lone ∙ t) k (rw z at inside_reads))

        pub found_element : (a : Cursor) (m xs : List ℕ) (w : Part) → q ≡ Ok a → m ≡ take (n - (c.at + 1)) (drop (c.at + 1) bs) → Closes bs m a ns xs w → ReadsOn bs d c (suc c.at) ls xs w
        found_element a m xs w z named closes =
            let size : n - (c.at + 1) ≡ f.size.name = omega (arith, f.name) in
            let is : m ≡ name f.size f.is = named ∙ rw (size, drop-drop 1 c.at bs) in
            element_on f.size f.is d ls ns (omega arith) (sym f.lone ∙ t) a xs w (rw z at inside_reads) (rw is at closes)
