-- The row of a sound store around a tag, the tags from a begin to its mate, and where mates and ups lie, whatever is known of depths.
-- Assumes nothing.
use mathlib.Core.Path.{◌≡◌, refl, ap, sym, ◌∙◌}
use mathlib.Core.Bool.{true, or-true, false≢true}
use mathlib.Core.List.{List, [], ◌∷◌, ◌++◌, append_assoc}
use mathlib.Core.Logic.{◌⊎◌, inl, inr}
use Prim.Native.Nat.{ℕ, suc, ◌+◌, ◌≤◌, ◌<◌}
use native.Mathlib.Omega.{arith}
use lib.ListN.{length, take, drop, length-append}
use lib.Seq.{split_at, append_snoc, get_or-append_seam}
use Rattle.lists.specs.Lists.{numbers}
use Rattle.lists.proofs.Tests.{fails}
use Rattle.store_types.specs.Limits.{no_tag}
use Rattle.tree.specs.Row.{member, place}
use Rattle.tree_laws.proofs.Rows.{Distinct, Apart, member_first, member_later, member_append, member_of_take, place_append_in, place_append_out, place_of_member, place_getD, getD_place, distinct_right, distinct_apart, apart_sym, distinct_all_below, member_all_below, member_of_drop, number_bounds}
use Rattle.calls.specs.Kind.{end, is_begin}
use Rattle.calls.specs.Store.{Store, Fact, fact_in, fact, count, row, place_of}
use Rattle.calls_laws.proofs.Tests.{SoundWith}
use Rattle.calls_laws.proofs.Nesting.{Begins, Ends, Stands, Step, begins, ends, stands, Pass, pass_of, pass_parts, Chain, bottom, above, chain_up, chain_pass, Tag, Marked, Alike, Closed, closed, pass_marked, pass_join}

-- PLACES in a row of distinct tags that is joined of three
pub place_at : (xs : List ℕ) (v : ℕ) (ys : List ℕ) → Distinct (xs ++ (v ∷ ys)) → place v (xs ++ (v ∷ ys)) ≡ length xs
place_at xs v ys h =
    let here = get_or-append_seam xs v ys 0 in
    ap (λ (u : ℕ). place u (xs ++ (v ∷ ys))) (sym here) ∙ place_getD (xs ++ (v ∷ ys)) (length xs) 0 h (omega (arith, length-append xs (v ∷ ys)))

module _ (all xs ys zs : List ℕ) (whole : all ≡ xs ++ (ys ++ zs)) (h : Distinct all) (d : ℕ) where
  pub place_first_part : member d xs ≡ true → place d all < length xs
  place_first_part m = rw (whole, place_append_in d xs (ys ++ zs) m) (place_of_member d xs m)

  past_first : member d (ys ++ zs) ≡ true → place d all ≡ length xs + place d (ys ++ zs)
  past_first m = rw whole (place_append_out d xs (ys ++ zs) (apart_sym xs (ys ++ zs) (distinct_apart xs (ys ++ zs) (rw whole at h)) d m))

  pub place_middle_part : member d ys ≡ true → (length xs ≤ place d all) × (place d all < length xs + length ys)
  place_middle_part m =
      let here = past_first (rw (member_append d ys zs, m)) in
      let own = place_append_in d ys zs m in
      omega (arith, place_of_member d ys m)

  pub place_last_part : member d zs ≡ true → length xs + length ys ≤ place d all
  place_last_part m =
      let apart = apart_sym ys zs (distinct_apart ys zs (distinct_right xs (ys ++ zs) (rw whole at h))) d m in
      let here = past_first (rw (member_append d ys zs, apart) m) in
      omega (arith, place_append_out d ys zs apart)

-- THE ROW OF A SOUND STORE holds each tag once
module _ {D : Type 0} {st : Store} (h : SoundWith D st) where
  pub distinct_row : Distinct (row st)
  distinct_row = (distinct_all_below (count st) (row st) h.each h.as_many).0

  pub row_below : (d : ℕ) → member d (row st) ≡ true → d < count st
  row_below = (distinct_all_below (count st) (row st) h.each h.as_many).1

  pub in_row : (d : ℕ) → d < count st → member d (row st) ≡ true
  in_row d l = member_all_below (count st) d (row st) h.each l

  -- and none of the numbers that new tags take
  pub new_apart : (k : ℕ) → Apart (numbers (count st) k) (row st)
  new_apart k d new = fails (member d (row st)) (λ old. omega (arith, row_below d old, (number_bounds d (count st) k new).0))

  pub is_tag : (d : ℕ) → d < count st → Tag d
  is_tag d l e = omega (arith, h.few)

  pub pass_row : Pass st.facts no_tag no_tag (row st) no_tag
  pass_row = pass_of st.facts no_tag (row st) h.nesting

  pub row_at : (y : ℕ) → y < count st → row st ≡ take (place_of st y) (row st) ++ (y ∷ drop (suc (place_of st y)) (row st))
  row_at y l =
      let j = place_of st y in
      let m = in_row y l in
      split_at (row st) j 0 (place_of_member y (row st) m) ∙ ap (λ (v : ℕ). take j (row st) ++ (v ∷ drop (suc j) (row st))) (getD_place y (row st) 0 m)

-- the pass around a tag y
pub record At (st : Store) (y : ℕ) : Type 0 where
  pub before : ℕ
  pub behind : ℕ
  pub front : Pass st.facts no_tag no_tag (take (place_of st y) (row st)) before
  pub step : Step st.facts no_tag before y behind
  pub back : Pass st.facts no_tag behind (drop (suc (place_of st y)) (row st)) no_tag
  pub chain : Chain st.facts (λ d. d < count st) no_tag before

pub pass_at : {D : Type 0} {st : Store} → SoundWith D st → (y : ℕ) → y < count st → At st y
pass_at {st} h y l =
    let fs = st.facts in
    let xs = take (place_of st y) (row st) in
    let ys = drop (suc (place_of st y)) (row st) in
    let p : (m : ℕ) × Pass fs no_tag no_tag xs m × Pass fs no_tag m (y ∷ ys) no_tag =
    pass_parts fs no_tag no_tag no_tag xs (y ∷ ys) (rw (row_at h y l) at (pass_row h)) in
    record {
      before = p.0;
      behind = p.2.0;
      front = p.1;
      step = p.2.1;
      back = p.2.2;
      chain = chain_pass xs no_tag p.0 (λ d m. row_below h d (member_of_take d (place_of st y) (row st) m)) p.1 (bottom refl);
    }

-- A SECTION: the row before it, its own tags, those behind it; `around` is the innermost begin open before and behind it.
-- Facts by which all its own tags are marked keep the pass along it.
pub record Section (st : Store) (x : ℕ) : Type 0 where
  pub before : List ℕ
  pub own : List ℕ
  pub behind : List ℕ
  pub around : ℕ
  pub whole : row st ≡ before ++ (own ++ behind)
  pub has : member x own ≡ true
  pub starts : place_of st x ≡ length before
  pub stops : suc (place_of st (fact st x).mate) ≡ length before + length own
  pub front : Pass st.facts no_tag no_tag before around
  pub back : Pass st.facts no_tag around behind no_tag
  pub inside : (gs : List Fact) → ((d : ℕ) → Alike st.facts gs d) → ((d : ℕ) → member d own ≡ true → Marked gs d) → Pass gs no_tag around own around

pub member_middle : (v : ℕ) (xs ys : List ℕ) → member v (xs ++ (v ∷ ys)) ≡ true
member_middle v xs ys = rw (member_append v xs (v ∷ ys), member_first v ys) (or-true (member v xs))

pass_element : (fs gs : List Fact) → ((d : ℕ) → Alike fs gs d) → (o x n : ℕ) (xs : List ℕ) → Begins fs o x n → Pass fs x x xs x →
    Ends fs x (fact_in fs x).mate (fact_in fs x).up → ((d : ℕ) → member d (x ∷ (xs ++ ((fact_in fs x).mate ∷ []))) ≡ true → Marked gs d) →
    Pass gs no_tag o (x ∷ (xs ++ ((fact_in fs x).mate ∷ []))) o
pass_element fs gs alike o x n xs s p c marked =
    let m = (fact_in fs x).mate in
    let own = marked x (member_first x (xs ++ (m ∷ []))) in
    let last = marked m (member_later m x (xs ++ (m ∷ [])) (member_middle m xs [])) in
    let middle = pass_marked fs gs alike x own xs x (λ d k. marked d (member_later d x (xs ++ (m ∷ [])) (rw (member_append d xs (m ∷ []), k)))) p in
    let close : Ends gs x m o = record {
      kind = (alike m).kind ∙ c.kind;
      mate = (alike m).mate ∙ c.mate;
      back = (alike x).mate;
      up = (alike m).up ∙ (c.up ∙ sym (alike x).up);
      mark = last.marked ∙ sym own.marked;
      next = sym ((alike x).up ∙ s.up);
    } in (
      x,
      begins (record { kind = (alike x).kind ∙ s.kind; up = (alike x).up ∙ s.up; mark = λ e. own.marked; next = refl }),
      pass_join gs no_tag x x o xs (m ∷ []) middle (o, ends own.tag close, refl),
    )

module _ {D : Type 0} {st : Store} (h : SoundWith D st) (x : ℕ) (l : x < count st) where
  place_in : (xs ys : List ℕ) (v : ℕ) → row st ≡ xs ++ (v ∷ ys) → place_of st v ≡ length xs
  place_in xs ys v e = ap (place v) e ∙ place_at xs v ys (rw e at (distinct_row h))

  text_section : (a : At st x) → Stands st.facts a.before x a.behind → Section st x
  text_section a s =
      let xs = take (place_of st x) (row st) in
      let ys = drop (suc (place_of st x)) (row st) in
      let here = place_in xs ys x (row_at h x l) in
      record {
        before = xs;
        own = x ∷ [];
        behind = ys;
        around = a.before;
        whole = row_at h x l;
        has = member_first x [];
        starts = here;
        stops = rw s.mate (omega arith);
        front = a.front;
        back = rw s.next at a.back;
        inside = λ gs alike marked. (
          a.before,
          stands (record {
            kind = (alike x).kind ∙ s.kind;
            mate = (alike x).mate ∙ s.mate;
            up = (alike x).up ∙ s.up;
            mark = λ e. (marked x (member_first x [])).marked;
            next = refl;
          }),
          refl,
        );
      }

  -- a begin's mate closes it
  pub closed_at : (a : At st x) → Begins st.facts a.before x a.behind → Closed st.facts x x (drop (suc (place_of st x)) (row st))
  closed_at a s =
      let j = suc (place_of st x) in
      closed st.facts x (is_tag h x l) (drop j (row st)) x (λ y m. is_tag h y (row_below h y (member_of_drop y j (row st) m))) (bottom refl) (rw s.next at a.back)

  element_section : (a : At st x) → Begins st.facts a.before x a.behind → Closed st.facts x x (drop (suc (place_of st x)) (row st)) → Section st x
  element_section a s c =
      let xs = take (place_of st x) (row st) in
      let m = (fact st x).mate in
      let parted : row st ≡ xs ++ (x ∷ (c.inside ++ (m ∷ c.behind))) = row_at h x l ∙ ap (λ (zs : List ℕ). xs ++ (x ∷ zs)) c.whole in
      let there = place_in (xs ++ (x ∷ c.inside)) c.behind m (parted ∙ sym (append_assoc xs (x ∷ c.inside) (m ∷ c.behind))) in
      record {
        before = xs;
        own = x ∷ (c.inside ++ (m ∷ []));
        behind = c.behind;
        around = a.before;
        whole = parted ∙ ap (λ (zs : List ℕ). xs ++ (x ∷ zs)) (sym (append_snoc c.inside m c.behind));
        has = member_first x (c.inside ++ (m ∷ []));
        starts = place_in xs _ x (row_at h x l);
        stops = omega (arith, length-append xs (x ∷ c.inside), length-append c.inside (m ∷ []));
        front = a.front;
        back = rw s.up at c.rest;
        inside = λ gs alike marked. pass_element st.facts gs alike a.before x a.behind c.inside s c.pass c.closes marked;
      }

  by_step : (a : At st x) → Step st.facts no_tag a.before x a.behind → ((fact st x).kind ≡ end → ⊥) → Section st x
  by_step a (begins s) n = element_section a s (closed_at a s)
  by_step a (ends shut s) n = absurd (n s.kind)
  by_step a (stands s) n = text_section a s

  -- every begin and text has its section
  pub section : ((fact st x).kind ≡ end → ⊥) → Section st x
  section = let a = pass_at h x l in by_step a a.step

  -- a begin stands before its mate
  before_mate : (a : At st x) → Step st.facts no_tag a.before x a.behind → is_begin (fact st x).kind ≡ true → place_of st x < place_of st (fact st x).mate
  unfolding element_section is_begin
  before_mate a (begins s) e =
      let c = closed_at a s in
      let whole = element_section a s c in
      omega (arith, whole.starts, whole.stops, length-append c.inside ((fact st x).mate ∷ []))
  before_mate a (ends shut s) e = absurd (false≢true (rw s.kind at e))
  before_mate a (stands s) e = absurd (false≢true (rw s.kind at e))

  pub begin_first : is_begin (fact st x).kind ≡ true → place_of st x < place_of st (fact st x).mate
  begin_first = let a = pass_at h x l in before_mate a a.step

  -- every up is no tag or a tag
  up_chain : (a : At st x) → Step st.facts no_tag a.before x a.behind → Chain st.facts (λ d. d < count st) no_tag (fact st x).up
  up_chain a (begins s) = rw s.up a.chain
  up_chain a (ends shut s) = rw s.up (chain_up shut a.chain)
  up_chain a (stands s) = rw s.up a.chain

  chain_either : (o : ℕ) → Chain st.facts (λ d. d < count st) no_tag o → (o ≡ no_tag) ⊎ (o < count st)
  chain_either o (bottom e) = inl e
  chain_either o (above b mark k c) = inr k

  pub up_fits : ((fact st x).up ≡ no_tag) ⊎ ((fact st x).up < count st)
  up_fits = let a = pass_at h x l in chain_either (fact st x).up (up_chain a a.step)

  -- every mate is a tag
  chain_tag : (o : ℕ) → Tag o → Chain st.facts (λ d. d < count st) no_tag o → o < count st
  chain_tag o t (bottom e) = absurd (t e)
  chain_tag o t (above b mark k c) = k

  mate_tag : (a : At st x) → Step st.facts no_tag a.before x a.behind → (fact st x).mate < count st
  mate_tag a (begins s) =
      let c = closed_at a s in
      let m = (fact st x).mate in
      row_below h m (member_of_drop m (suc (place_of st x)) (row st) (rw c.whole (member_middle m c.inside c.behind)))
  mate_tag a (ends shut s) = rw s.mate (chain_tag a.before shut a.chain)
  mate_tag a (stands s) = rw s.mate l

  pub mate_fits : (fact st x).mate < count st
  mate_fits = let a = pass_at h x l in mate_tag a a.step
