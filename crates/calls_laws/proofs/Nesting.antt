-- The pass along the book (specs/Nesting.antt of calls) as facts: its steps, its parts, the begins that are open behind
-- it, and when it holds of other facts too. Assumes nothing.
use mathlib.Core.Path.{◌≡◌, refl, ap, sym, ◌∙◌}
use mathlib.Core.Bool.{Bool, true, false, ◌&&◌, ◌||◌, not, beq, false≢true}
use mathlib.Core.List.{List, [], ◌∷◌, ◌++◌}
use Prim.Native.Nat.{ℕ, ◌≤◌}
use borrow.Author.Tests.{eqb-true, eqb-false, eq-eqb, ne_eqb, not-true}
use lib.Dec.{eqb}
use lib.ListN.{length, get_or-eq_default}
use Rattle.store_types.specs.Limits.{no_tag}
use Rattle.lists.proofs.Tests.{and_left, and_right, and_both, by_test}
use Rattle.tree.specs.Row.{member}
use Rattle.tree_laws.proofs.Rows.{member_first, member_later}
use Rattle.calls.specs.Kind.{Kind, begin, end, text}
use Rattle.calls.specs.Store.{Fact, no_fact, fact_in}
use Rattle.calls.specs.Nesting.{fits, opened, nested}

-- THE STEP of tag x: o is the innermost open begin before it, m the one behind it
pub record Begins (fs : List Fact) (o x m : ℕ) : Type 0 where
  pub kind : (fact_in fs x).kind ≡ begin
  pub up : (fact_in fs x).up ≡ o
  pub mark : (fact_in fs o).marked ≡ true → (fact_in fs x).marked ≡ true
  pub next : m ≡ x

pub record Ends (fs : List Fact) (o x m : ℕ) : Type 0 where
  pub kind : (fact_in fs x).kind ≡ end
  pub mate : (fact_in fs x).mate ≡ o
  pub back : (fact_in fs o).mate ≡ x
  pub up : (fact_in fs x).up ≡ (fact_in fs o).up
  pub mark : (fact_in fs x).marked ≡ (fact_in fs o).marked
  pub next : m ≡ (fact_in fs o).up

pub record Stands (fs : List Fact) (o x m : ℕ) : Type 0 where
  pub kind : (fact_in fs x).kind ≡ text
  pub mate : (fact_in fs x).mate ≡ x
  pub up : (fact_in fs x).up ≡ o
  pub mark : (fact_in fs o).marked ≡ true → (fact_in fs x).marked ≡ true
  pub next : m ≡ o

-- the base is never closed; in the pass of a whole book that is no tag
pub data Step (fs : List Fact) (base o x m : ℕ) : Type 0 where
  begins : Begins fs o x m → Step fs base o x m
  ends : (o ≡ base → ⊥) → Ends fs o x m → Step fs base o x m
  stands : Stands fs o x m → Step fs base o x m

implied : (a b : Bool) → (not a || b) ≡ true → a ≡ true → b ≡ true
implied true b e h = e
implied false b e h = absurd (false≢true h)

implies : (a b : Bool) → (a ≡ true → b ≡ true) → (not a || b) ≡ true
implies true b f = f refl
implies false b f = refl

beq_true : (a b : Bool) → beq a b ≡ true → a ≡ b
beq_true true true e = refl
beq_true true false e = absurd (false≢true e)
beq_true false true e = absurd (false≢true e)
beq_true false false e = refl

beq_same : (a : Bool) → beq a a ≡ true
beq_same true = refl
beq_same false = refl

-- the test of specs/Nesting.antt, both ways
pub step_of : (fs : List Fact) (o x : ℕ) (k : Kind) → (fact_in fs x).kind ≡ k → fits fs o x k ≡ true → Step fs no_tag o x (opened fs o x k)
unfolding fits opened
step_of fs o x begin e h =
    let up = eqb (fact_in fs x).up o in
    let mark = not (fact_in fs o).marked || (fact_in fs x).marked in
    begins (record { kind = e; up = eqb-true _ _ (and_left up mark h); mark = implied _ _ (and_right up mark h); next = refl })
step_of fs o x end e h =
    let some = not (eqb o no_tag) in
    let mate = eqb (fact_in fs x).mate o in
    let back = eqb (fact_in fs o).mate x in
    let up = eqb (fact_in fs x).up (fact_in fs o).up in
    let mark = beq (fact_in fs x).marked (fact_in fs o).marked in
    let front = and_left (some && (mate && back)) (up && mark) h in
    let rest = and_right (some && (mate && back)) (up && mark) h in
    let mates = and_right some (mate && back) front in
    ends (eqb-false _ _ (not-true _ (and_left some (mate && back) front))) (record {
      kind = e;
      mate = eqb-true _ _ (and_left mate back mates);
      back = eqb-true _ _ (and_right mate back mates);
      up = eqb-true _ _ (and_left up mark rest);
      mark = beq_true _ _ (and_right up mark rest);
      next = refl;
    })
step_of fs o x text e h =
    let mate = eqb (fact_in fs x).mate x in
    let up = eqb (fact_in fs x).up o in
    let mark = not (fact_in fs o).marked || (fact_in fs x).marked in
    let front = and_left (mate && up) mark h in
    stands (record {
      kind = e;
      mate = eqb-true _ _ (and_left mate up front);
      up = eqb-true _ _ (and_right mate up front);
      mark = implied _ _ (and_right (mate && up) mark h);
      next = refl;
    })

test_of : (fs : List Fact) (o x m : ℕ) → Step fs no_tag o x m → (fits fs o x (fact_in fs x).kind ≡ true) × (m ≡ opened fs o x (fact_in fs x).kind)
unfolding fits opened
test_of fs o x m (begins h) = rw h.kind (and_both (eq-eqb _ _ h.up) (implies _ _ h.mark), h.next)
test_of fs o x m (ends shut h) =
    rw h.kind (
      and_both (and_both (ap not (ne_eqb _ _ shut)) (and_both (eq-eqb _ _ h.mate) (eq-eqb _ _ h.back)))
          (and_both (eq-eqb _ _ h.up) (rw h.mark (beq_same (fact_in fs o).marked))),
      h.next,
    )
test_of fs o x m (stands h) =
    rw h.kind (and_both (and_both (eq-eqb _ _ h.mate) (eq-eqb _ _ h.up)) (implies _ _ h.mark), h.next)

-- THE PASS along a row, from the innermost open begin before it to the one behind it
abbrev pub Pass : List Fact → (base o : ℕ) → List ℕ → (e : ℕ) → Type 0
Pass fs b o [] e = o ≡ e
Pass fs b o (x ∷ xs) e = (m : ℕ) × Step fs b o x m × Pass fs b m xs e

pub pass_of : (fs : List Fact) (o : ℕ) (xs : List ℕ) → nested fs o xs ≡ true → Pass fs no_tag o xs no_tag
unfolding nested
pass_of fs o [] h = eqb-true _ _ h
pass_of fs o (x ∷ xs) h =
    let k = (fact_in fs x).kind in
    let rest = nested fs (opened fs o x k) xs in
    (opened fs o x k, step_of fs o x k refl (and_left (fits fs o x k) rest h), pass_of fs (opened fs o x (fact_in fs x).kind) xs (and_right (fits fs o x k) rest h))

pub nested_of : (fs : List Fact) (o : ℕ) (xs : List ℕ) → Pass fs no_tag o xs no_tag → nested fs o xs ≡ true
unfolding nested
nested_of fs o [] h = eq-eqb _ _ h
nested_of fs o (x ∷ xs) (m, s, p) =
    let t = test_of fs o x m s in
    and_both t.0 (rw (← t.1) (nested_of fs m xs p))

-- of a row joined of two
pub pass_join : (fs : List Fact) (b o m e : ℕ) (xs ys : List ℕ) → Pass fs b o xs m → Pass fs b m ys e → Pass fs b o (xs ++ ys) e
pass_join fs b o m e [] ys p q = rw p q
pass_join fs b o m e (x ∷ xs) ys (n, s, p) q = (n, s, pass_join fs b n m e xs ys p q)

pub pass_parts : (fs : List Fact) (b o e : ℕ) (xs ys : List ℕ) → Pass fs b o (xs ++ ys) e → (m : ℕ) × Pass fs b o xs m × Pass fs b m ys e
pass_parts fs b o e [] ys p = (o, refl, p)
pass_parts fs b o e (x ∷ xs) ys (n, s, p) = let rest = pass_parts fs b n e xs ys p in (rest.0, (n, s, rest.1), rest.2)

-- THE OPEN BEGINS, from the innermost out to the base, each of which a claim holds of
pub data Chain (fs : List Fact) (K : ℕ → Type 0) (base : ℕ) : ℕ → Type 0 where
  bottom : {o : ℕ} → o ≡ base → Chain fs K base o
  above : {o : ℕ} → (fact_in fs o).kind ≡ begin → ((fact_in fs (fact_in fs o).up).marked ≡ true → (fact_in fs o).marked ≡ true) → K o →
      Chain fs K base (fact_in fs o).up → Chain fs K base o

module _ {fs : List Fact} {K : ℕ → Type 0} {base : ℕ} where
  pub chain_open : {o : ℕ} → K base → Chain fs K base o → K o
  chain_open k (bottom e) = rw e k
  chain_open k (above e mark h c) = h

  pub chain_up : {o : ℕ} → (o ≡ base → ⊥) → Chain fs K base o → Chain fs K base (fact_in fs o).up
  chain_up shut (bottom e) = absurd (shut e)
  chain_up shut (above e mark h c) = c

  -- an element inside a marked one is marked
  pub chain_mark : {o : ℕ} → (o ≡ base → ⊥) → Chain fs K base o → (fact_in fs (fact_in fs o).up).marked ≡ true → (fact_in fs o).marked ≡ true
  chain_mark shut (bottom e) = absurd (shut e)
  chain_mark shut (above e mark h c) = mark

  pub chain_step : {o x m : ℕ} → K x → Step fs base o x m → Chain fs K base o → Chain fs K base m
  chain_step k (begins h) c = rw h.next (above h.kind (rw h.up h.mark) k (rw h.up c))
  chain_step k (ends shut h) c = rw h.next (chain_up shut c)
  chain_step k (stands h) c = rw h.next c

  pub chain_pass : (xs : List ℕ) (o e : ℕ) → ((x : ℕ) → member x xs ≡ true → K x) → Pass fs base o xs e → Chain fs K base o → Chain fs K base e
  chain_pass [] o e all p c = rw p at c
  chain_pass (x ∷ xs) o e all (m, s, p) c =
      chain_pass xs m e (λ y h. all y (member_later y x xs h)) p (chain_step (all x (member_first x xs)) s c)

  -- the pass holds of other facts where each of its steps does
  pub transfer : (gs : List Fact) (after : ℕ) → K base → ((o x m : ℕ) → K o → K x → Step fs base o x m → Step gs after o x m) →
      (xs : List ℕ) (o e : ℕ) → ((x : ℕ) → member x xs ≡ true → K x) → Chain fs K base o → Pass fs base o xs e → Pass gs after o xs e
  transfer gs after k each [] o e all c p = p
  transfer gs after k each (x ∷ xs) o e all c (m, s, p) =
      let own = all x (member_first x xs) in (
        m,
        each o x m (chain_open k c) own s,
        transfer gs after k each xs m e (λ y h. all y (member_later y x xs h)) (chain_step own s c) p,
      )

abbrev pub Tag : ℕ → Type 0
Tag x = x ≡ no_tag → ⊥

pub record Marked (fs : List Fact) (x : ℕ) : Type 0 where
  pub tag : Tag x
  pub marked : (fact_in fs x).marked ≡ true

-- OTHER FACTS that say the same of a tag, but for its mark
pub record Alike (fs gs : List Fact) (x : ℕ) : Type 0 where
  pub kind : (fact_in gs x).kind ≡ (fact_in fs x).kind
  pub mate : (fact_in gs x).mate ≡ (fact_in fs x).mate
  pub up : (fact_in gs x).up ≡ (fact_in fs x).up

pub record Same (fs gs : List Fact) (x : ℕ) : Type 0 where
  pub alike : Alike fs gs x
  pub marked : (fact_in gs x).marked ≡ (fact_in fs x).marked

pub same_of : (fs gs : List Fact) (x : ℕ) → fact_in gs x ≡ fact_in fs x → Same fs gs x
same_of fs gs x e = record { alike = record { kind = rw e; mate = rw e; up = rw e }; marked = rw e }

-- no tag has no fact
pub no_tag_fact : (fs : List Fact) → length fs ≤ no_tag → fact_in fs no_tag ≡ no_fact
no_tag_fact fs few = get_or-eq_default fs no_fact few

pub no_tag_same : (fs gs : List Fact) → length fs ≤ no_tag → length gs ≤ no_tag → Same fs gs no_tag
no_tag_same fs gs few few_too = same_of fs gs no_tag (no_tag_fact gs few_too ∙ sym (no_tag_fact fs few))

-- a step where the marks are right too
module _ (fs gs : List Fact) (base after o x m : ℕ) (shut : (o ≡ base → ⊥) → o ≡ after → ⊥) (h : Alike fs gs o) (k : Alike fs gs x)
    (mark : ((fact_in fs o).marked ≡ true → (fact_in fs x).marked ≡ true) → (fact_in gs o).marked ≡ true → (fact_in gs x).marked ≡ true)
    (marks : (fact_in fs x).marked ≡ (fact_in fs o).marked → (fact_in gs x).marked ≡ (fact_in gs o).marked) where
  step_alike : Step fs base o x m → Step gs after o x m
  step_alike (begins s) = begins (record { kind = k.kind ∙ s.kind; up = k.up ∙ s.up; mark = mark s.mark; next = s.next })
  step_alike (ends n s) = ends (shut n) (record {
    kind = k.kind ∙ s.kind;
    mate = k.mate ∙ s.mate;
    back = h.mate ∙ s.back;
    up = cc;
    mark = marks s.mark;
    next = cc;
  })
  step_alike (stands s) = stands (record {
    kind = k.kind ∙ s.kind;
    mate = k.mate ∙ s.mate;
    up = k.up ∙ s.up;
    mark = mark s.mark;
    next = s.next;
  })

-- the pass holds of facts that say the same of its tags, of those open before it, and of no tag
pass_same : (fs gs : List Fact) → Same fs gs no_tag → (xs : List ℕ) (o e : ℕ) → ((x : ℕ) → member x xs ≡ true → Same fs gs x) →
    Chain fs (Same fs gs) no_tag o → Pass fs no_tag o xs e → Pass gs no_tag o xs e
pass_same fs gs none =
    transfer gs no_tag none λ o x m h k.
    step_alike fs gs no_tag no_tag o x m (λ n. n) h.alike k.alike (λ f e. k.marked ∙ f (sym h.marked ∙ e)) (λ e. k.marked ∙ (e ∙ sym h.marked))

-- so it holds around a middle part that leads from m back to m, if they say the same of all other tags
pub pass_around : (fs gs : List Fact) → Same fs gs no_tag → (xs ys zs : List ℕ) (m : ℕ) → ((x : ℕ) → member x xs ≡ true → Same fs gs x) →
    ((x : ℕ) → member x zs ≡ true → Same fs gs x) → Pass fs no_tag no_tag xs m → Pass fs no_tag m zs no_tag →
    (Same fs gs m → Pass gs no_tag m ys m) → Pass gs no_tag no_tag (xs ++ (ys ++ zs)) no_tag
pass_around fs gs none xs ys zs m before behind p q middle =
    let chain : Chain fs (Same fs gs) no_tag m = chain_pass xs no_tag m before p (bottom refl) in
    pass_join gs no_tag no_tag m no_tag xs (ys ++ zs) (pass_same fs gs none xs no_tag m before (bottom refl) p)
    (pass_join gs no_tag m m no_tag ys zs (middle (chain_open none chain)) (pass_same fs gs none zs m no_tag behind chain q))

-- the pass that never closes x holds, as part of a whole one, of facts by which x and all of its tags are marked
pub pass_marked : (fs gs : List Fact) → ((d : ℕ) → Alike fs gs d) → (x : ℕ) → Marked gs x → (xs : List ℕ) (e : ℕ) →
    ((d : ℕ) → member d xs ≡ true → Marked gs d) → Pass fs x x xs e → Pass gs no_tag x xs e
pass_marked fs gs alike x own xs e all =
    transfer gs no_tag own
    (λ o d m h k. step_alike fs gs x no_tag o d m (λ n. h.tag) (alike o) (alike d) (λ f i. k.marked) (λ i. k.marked ∙ sym h.marked))
    xs x e all (bottom refl)

-- AN OPEN BEGIN x IS CLOSED by its mate; up to there it stays open
pub record Closed (fs : List Fact) (x o : ℕ) (xs : List ℕ) : Type 0 where
  pub inside : List ℕ
  pub behind : List ℕ
  pub whole : xs ≡ inside ++ ((fact_in fs x).mate ∷ behind)
  pub pass : Pass fs x o inside x
  pub closes : Ends fs x (fact_in fs x).mate (fact_in fs x).up
  pub rest : Pass fs no_tag (fact_in fs x).up behind no_tag

module _ (fs : List Fact) (x : ℕ) where
  closed_later : (o y m : ℕ) (ys : List ℕ) → Step fs x o y m → Closed fs x m ys → Closed fs x o (y ∷ ys)
  closed_later o y m ys s c = record {
    inside = y ∷ c.inside;
    behind = c.behind;
    whole = ap (λ (zs : List ℕ). y ∷ zs) c.whole;
    pass = (m, s, c.pass);
    closes = c.closes;
    rest = c.rest;
  }

  closed_here : (y m : ℕ) (ys : List ℕ) → Ends fs x y m → Pass fs no_tag m ys no_tag → Closed fs x x (y ∷ ys)
  closed_here y m ys h p = record {
    inside = [];
    behind = ys;
    whole = rw h.back;
    pass = refl;
    closes = rw (h.back, ← h.next) h;
    rest = rw h.next at p;
  }

  -- a step closes x, or leaves it open
  either : {G : Type 0} (o y m : ℕ) → Step fs no_tag o y m → (Step fs x o y m → G) → (o ≡ x → Ends fs o y m → G) → G
  either o y m (begins h) f g = f (begins h)
  either o y m (ends shut h) f g = by_test (eqb o x) (λ e. g (eqb-true o x e) h) (λ e. f (ends (eqb-false o x e) h))
  either o y m (stands h) f g = f (stands h)

  pub closed : Tag x → (xs : List ℕ) (o : ℕ) → ((y : ℕ) → member y xs ≡ true → Tag y) → Chain fs Tag x o → Pass fs no_tag o xs no_tag → Closed fs x o xs
  closed t [] o all c p = absurd (chain_open t c p)
  closed t (y ∷ ys) o all c (m, s, p) =
      either o y m s
      (λ i. closed_later o y m ys i (closed t ys m (λ z k. all z (member_later z y ys k)) (chain_step (all y (member_first y ys)) i c) p))
      (λ same h. rw same (closed_here y m ys (rw same at h) p))
