-- Depths along a row (`depths_right` of specs/Nesting.antt of calls; document 02, CR 7) as facts: of its parts, of other facts, of
-- new tags, and how deep a tag can be. Assumes nothing.
use mathlib.Core.Path.{◌≡◌, refl, ◌∙◌}
use mathlib.Core.Bool.{true, false, false≢true}
use mathlib.Core.List.{List, [], ◌∷◌, ◌++◌, head_d, tail}
use mathlib.Core.Logic.{◌⊎◌, ⊎_elim}
use Prim.Native.Nat.{ℕ, zero, suc, ◌+◌, ◌≤◌, ◌<◌}
use native.Mathlib.Omega.{arith}
use borrow.Author.Tests.{eqb-true, eq-eqb, ne_eqb}
use lib.Dec.{eqb}
use lib.ListN.{length, take, drop, length-take}
use lib.Seq.{take-suc}
use Rattle.store_types.specs.Limits.{no_tag}
use Rattle.lists.specs.Lists.{numbers}
use Rattle.lists.proofs.Tests.{and_left, and_right, and_both}
use Rattle.tree.specs.Row.{member}
use Rattle.tree_laws.proofs.Rows.{member_first, member_later, place_of_member, getD_place}
use Rattle.calls.specs.Kind.{Kind, begin, end, text, is_begin, is_end, own_depth, opens_after, depth_after}
use Rattle.calls.specs.Store.{Store, Fact, new_fact, fact_in, fact, count, row, place_of}
use Rattle.calls.specs.Nesting.{nests, closing, new_facts, depths_right}
use Rattle.calls.specs.Insert.{position, depth_at}
use Rattle.calls_laws.proofs.Tests.{Sound}
use Rattle.calls_laws.proofs.NewFacts.{first}
use Rattle.calls_laws.proofs.Sections.{in_row, is_tag, row_at}

-- THE DEPTHS along a row, from the number of begins open before it to the one after it
abbrev pub Depths : List Fact → (d : ℕ) → List ℕ → (e : ℕ) → Type 0
Depths fs d [] e = d ≡ e
Depths fs d (x ∷ xs) e = ((fact_in fs x).depth ≡ own_depth (fact_in fs x).kind d) × Depths fs (depth_after (fact_in fs x).kind d) xs e

-- the test of specs/Nesting.antt, both ways
pub depths_of : (fs : List Fact) (d : ℕ) (xs : List ℕ) → depths_right fs d xs ≡ true → (e : ℕ) × Depths fs d xs e
unfolding depths_right
depths_of fs d [] h = (d, refl)
depths_of fs d (x ∷ xs) h =
    let k = (fact_in fs x).kind in
    let own = eqb (fact_in fs x).depth (own_depth k d) in
    let rest = depths_right fs (depth_after k d) xs in
    let later = depths_of fs (depth_after k d) xs (and_right own rest h) in
    (later.0, (eqb-true _ _ (and_left own rest h), later.1))

pub depths_test : (fs : List Fact) (d : ℕ) (xs : List ℕ) (e : ℕ) → Depths fs d xs e → depths_right fs d xs ≡ true
unfolding depths_right
depths_test fs d [] e h = refl
depths_test fs d (x ∷ xs) e h = and_both (eq-eqb _ _ h.0) (depths_test fs (depth_after (fact_in fs x).kind d) xs e h.1)

-- of a row joined of two
pub depths_join : (fs : List Fact) (d m e : ℕ) (xs ys : List ℕ) → Depths fs d xs m → Depths fs m ys e → Depths fs d (xs ++ ys) e
depths_join fs d m e [] ys p q = rw p q
depths_join fs d m e (x ∷ xs) ys p q = (p.0, depths_join fs (depth_after (fact_in fs x).kind d) m e xs ys p.1 q)

pub depths_parts : (fs : List Fact) (d e : ℕ) (xs ys : List ℕ) → Depths fs d (xs ++ ys) e → (m : ℕ) × Depths fs d xs m × Depths fs m ys e
depths_parts fs d e [] ys p = (d, refl, p)
depths_parts fs d e (x ∷ xs) ys p = let rest = depths_parts fs (depth_after (fact_in fs x).kind d) e xs ys p.1 in (rest.0, (p.0, rest.1), rest.2)

-- OTHER FACTS that say the same kind and depth of a tag
pub record Level (fs gs : List Fact) (x : ℕ) : Type 0 where
  pub kind : (fact_in gs x).kind ≡ (fact_in fs x).kind
  pub depth : (fact_in gs x).depth ≡ (fact_in fs x).depth

pub level_of : (fs gs : List Fact) (x : ℕ) → fact_in gs x ≡ fact_in fs x → Level fs gs x
level_of fs gs x e = record { kind = rw e; depth = rw e }

pub depths_same : (fs gs : List Fact) (d : ℕ) (xs : List ℕ) (e : ℕ) → ((x : ℕ) → member x xs ≡ true → Level fs gs x) → Depths fs d xs e → Depths gs d xs e
depths_same fs gs d [] e all h = h
depths_same fs gs d (x ∷ xs) e all h =
    let own = all x (member_first x xs) in
    rw own.kind (own.depth ∙ h.0, depths_same fs gs (depth_after (fact_in fs x).kind d) xs e (λ y m. all y (member_later y x xs m)) h.1)

-- OF NEW TAGS: after kinds that nest where j begins of their own are open, as many are open as before those
module _ (fs : List Fact) (few : length fs ≤ no_tag) (base : ℕ) where
  pub depths_new : (j u : ℕ) (os : List ℕ) (d x : ℕ) (ks : List Kind) (front : List Fact) → fs ≡ front ++ new_facts u os d x ks → length front ≡ x →
      nests j ks ≡ true → d ≡ j + base → Depths fs d (numbers x (length ks)) base
  unfolding nests new_facts numbers own_depth opens_after depth_after is_begin is_end
  depths_new j u os d x [] front whole before n e = omega (arith, eqb-true j 0 n)
  depths_new j u os d x (begin ∷ ks) front whole before n e =
      let f : Fact = new_fact begin false (closing 0 (suc x) ks) u d in
      let t = first fs front f (new_facts x (u ∷ os) (suc d) (suc x) ks) x few whole before in
      rw t.fact (refl, depths_new (suc j) x (u ∷ os) (suc d) (suc x) ks (front ++ (f ∷ [])) t.whole t.before n (omega arith))
  depths_new zero u os d x (end ∷ ks) front whole before n e = absurd (false≢true n)
  depths_new (suc j) u os d x (end ∷ ks) front whole before n e =
      let f : Fact = new_fact end false u (head_d os no_tag) (own_depth end d) in
      let t = first fs front f (new_facts (head_d os no_tag) (tail os) (depth_after end d) (suc x) ks) x few whole before in
      rw t.fact (refl, depths_new j (head_d os no_tag) (tail os) (depth_after end d) (suc x) ks (front ++ (f ∷ [])) t.whole t.before n (omega arith))
  depths_new j u os d x (text ∷ ks) front whole before n e =
      let f : Fact = new_fact text false x u d in
      let t = first fs front f (new_facts u os d (suc x) ks) x few whole before in
      rw t.fact (refl, depths_new j u os d (suc x) ks (front ++ (f ∷ [])) t.whole t.before n e)

-- A TAG adds one at most
pub after_most : (k : Kind) (d : ℕ) → depth_after k d ≤ suc d
unfolding own_depth opens_after depth_after is_begin is_end
after_most begin d = omega arith
after_most end d = omega arith
after_most text d = omega arith

pub depths_most : (fs : List Fact) (d : ℕ) (xs : List ℕ) (e : ℕ) → Depths fs d xs e → e ≤ d + length xs
depths_most fs d [] e h = omega arith
depths_most fs d (x ∷ xs) e h = omega (arith, depths_most fs (depth_after (fact_in fs x).kind d) xs e h.1, after_most (fact_in fs x).kind d)

-- a whole book keeps its depths by facts that say the same
pub depths_kept : (fs gs : List Fact) (xs : List ℕ) → ((x : ℕ) → member x xs ≡ true → Level fs gs x) → depths_right fs 0 xs ≡ true → depths_right gs 0 xs ≡ true
depths_kept fs gs xs all h = let p = depths_of fs 0 xs h in depths_test gs 0 xs p.0 (depths_same fs gs 0 xs p.0 all p.1)

-- THE DEPTHS AROUND A TAG y of a sound store
pub record DepthOf (st : Store) (y : ℕ) : Type 0 where
  pub before : ℕ
  pub last : ℕ
  pub front : Depths st.facts 0 (take (place_of st y) (row st)) before
  pub own : (fact st y).depth ≡ own_depth (fact st y).kind before
  pub back : Depths st.facts (depth_after (fact st y).kind before) (drop (suc (place_of st y)) (row st)) last
  pub few : before ≤ place_of st y

-- the row before and after its first p tags, where d begins are open
pub record DepthGap (st : Store) (p d : ℕ) : Type 0 where
  pub last : ℕ
  pub front : Depths st.facts 0 (take p (row st)) d
  pub back : Depths st.facts d (drop p (row st)) last

module _ {st : Store} (h : Sound st) where
  pub depth_of : (y : ℕ) → y < count st → DepthOf st y
  depth_of y l =
      let fs = st.facts in
      let xs = take (place_of st y) (row st) in
      let ys = drop (suc (place_of st y)) (row st) in
      let whole = depths_of fs 0 (xs ++ (y ∷ ys)) (rw (row_at h y l) at h.depths) in
      let p : (m : ℕ) × Depths fs 0 xs m × Depths fs m (y ∷ ys) whole.0 =
      depths_parts fs 0 whole.0 xs (y ∷ ys) whole.1 in
      record {
        before = p.0;
        last = whole.0;
        front = p.1;
        own = p.2.0;
        back = p.2.1;
        few = omega (arith, depths_most fs 0 xs p.0 p.1, length-take (place_of st y) (row st));
      }

  -- THE GAP at a place: as many begins are open there as the place says
  pub depth_gap : (y : ℕ) → (y ≡ no_tag) ⊎ (y < count st) → DepthGap st (position y st) (depth_at y st)
  unfolding position depth_at opens_after depth_after
  depth_gap y place = ⊎_elim at_front after_tag place
    where
      at_front : y ≡ no_tag → DepthGap st (position y st) (depth_at y st)
      at_front e = let p = depths_of st.facts 0 (row st) h.depths in rw (eq-eqb _ _ e) (record { last = p.0; front = refl; back = p.1 })

      after_tag : y < count st → DepthGap st (position y st) (depth_at y st)
      after_tag l =
          let a = depth_of y l in
          let j = place_of st y in
          let m = in_row h y l in
          rw (ne_eqb _ _ (is_tag h y l), a.own) (record {
            last = a.last;
            front = rw (take-suc (row st) j 0 (place_of_member y (row st) m), getD_place y (row st) 0 m)
                (depths_join st.facts 0 a.before _ (take j (row st)) (y ∷ []) a.front (a.own, refl));
            back = a.back;
          })

  -- so no more than there are tags
  pub depth_at_few : (y : ℕ) → (y ≡ no_tag) ⊎ (y < count st) → depth_at y st ≤ count st
  depth_at_few y place =
      let p = position y st in
      let g = depth_gap y place in
      omega (arith, depths_most st.facts 0 (take p (row st)) (depth_at y st) g.front, length-take p (row st), h.as_many)
