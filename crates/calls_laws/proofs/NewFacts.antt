-- The facts of a row of new tags (`new_facts` of specs/Nesting.antt of calls): where the kinds nest, the pass goes along
-- them, from the begin that they stand under back to it. Assumes nothing.
use mathlib.Core.Path.{◌≡◌, refl, ap, sym, ◌∙◌}
use mathlib.Core.Bool.{true, false, true≢false, false≢true}
use mathlib.Core.List.{List, [], ◌∷◌, ◌++◌, head_d, tail}
use Prim.Native.Nat.{ℕ, zero, suc, ◌≤◌}
use native.Mathlib.Omega.{arith}
use borrow.Author.Tests.{eqb-true}
use lib.ListN.{length, length-append}
use lib.Seq.{append_snoc, get_or_at}
use Rattle.store_types.specs.Limits.{no_tag}
use Rattle.lists.specs.Lists.{numbers}
use Rattle.calls.specs.Kind.{Kind, begin, end, text, own_depth, depth_after}
use Rattle.calls.specs.Store.{Fact, new_fact, no_fact, fact_in}
use Rattle.calls.specs.Nesting.{nests, closing, new_facts}
use Rattle.calls_laws.proofs.Nesting.{begins, ends, stands, Pass}

pub length_new_facts : (u : ℕ) (os : List ℕ) (v x : ℕ) (ks : List Kind) → length (new_facts u os v x ks) ≡ length ks
unfolding new_facts
length_new_facts u os v x [] = refl
length_new_facts u os v x (begin ∷ ks) = ap suc (length_new_facts x (u ∷ os) (depth_after begin v) (suc x) ks)
length_new_facts u os v x (end ∷ ks) = ap suc (length_new_facts (head_d os no_tag) (tail os) (depth_after end v) (suc x) ks)
length_new_facts u os v x (text ∷ ks) = ap suc (length_new_facts u os (depth_after text v) (suc x) ks)

-- THE OPEN BEGINS OF THE ROW ITSELF: u and the first of os, d of them, down to the base
pub record Opened (fs : List Fact) (mate u up : ℕ) : Type 0 where
  pub tag : u ≡ no_tag → ⊥
  pub mate_is : (fact_in fs u).mate ≡ mate
  pub up_is : (fact_in fs u).up ≡ up
  pub unmarked : (fact_in fs u).marked ≡ false

abbrev pub Own : List Fact → (base d : ℕ) → (mates : ℕ → ℕ) → (u : ℕ) → (os : List ℕ) → Type 0
Own fs base zero c u os = u ≡ base
Own fs base (suc d) c u os = Opened fs (c 0) u (head_d os no_tag) × Own fs base d (λ i. c (suc i)) (head_d os no_tag) (tail os)

-- tag x, of which the facts fs say f, behind those of the tags before it
pub record First (fs front : List Fact) (f : Fact) (rest : List Fact) (x : ℕ) : Type 0 where
  pub fact : fact_in fs x ≡ f
  pub tag : x ≡ no_tag → ⊥
  pub whole : fs ≡ (front ++ (f ∷ [])) ++ rest
  pub before : length (front ++ (f ∷ [])) ≡ suc x

pub first : (fs front : List Fact) (f : Fact) (rest : List Fact) (x : ℕ) → length fs ≤ no_tag → fs ≡ front ++ (f ∷ rest) → length front ≡ x → First fs front f rest x
first fs front f rest x few whole before = record {
  fact = ap (λ (l : List Fact). fact_in l x) whole ∙ get_or_at front f rest no_fact x before;
  tag = λ e. omega (arith, ap length whole, length-append front (f ∷ rest));
  whole = whole ∙ sym (append_snoc front f rest);
  before = omega (arith, length-append front (f ∷ []));
}

module _ (fs : List Fact) (few : length fs ≤ no_tag) (base : ℕ) (free : (fact_in fs base).marked ≡ false) where
  own_unmarked : (d : ℕ) (c : ℕ → ℕ) (u : ℕ) (os : List ℕ) → Own fs base d c u os → (fact_in fs u).marked ≡ false
  own_unmarked zero c u os h = rw h free
  own_unmarked (suc d) c u os h = h.0.unmarked

  pub pass_new : (d u : ℕ) (os : List ℕ) (v x : ℕ) (ks : List Kind) (front : List Fact) → fs ≡ front ++ new_facts u os v x ks → length front ≡ x →
      nests d ks ≡ true → Own fs base d (λ i. closing i x ks) u os → Pass fs no_tag u (numbers x (length ks)) base
  unfolding nests closing new_facts numbers head_d
  pass_new d u os v x [] front whole before n own =
      let none : Own fs base 0 (λ i. closing i x []) u os = rw (eqb-true d 0 n) at own in none
  pass_new d u os v x (begin ∷ ks) front whole before n own =
      let f : Fact = new_fact begin false (closing 0 (suc x) ks) u (own_depth begin v) in
      let t = first fs front f (new_facts x (u ∷ os) (depth_after begin v) (suc x) ks) x few whole before in
      let free_u = own_unmarked d (λ i. closing i x (begin ∷ ks)) u os own in
      let opened : Opened fs (closing 0 (suc x) ks) x u = record {
        tag = t.tag;
        mate_is = rw t.fact;
        up_is = rw t.fact;
        unmarked = rw t.fact;
      } in (
        x,
        begins (record { kind = rw t.fact; up = opened.up_is; mark = λ e. absurd (true≢false (sym e ∙ free_u)); next = refl }),
        pass_new (suc d) x (u ∷ os) (depth_after begin v) (suc x) ks (front ++ (f ∷ [])) t.whole t.before n (opened, own),
      )
  pass_new zero u os v x (end ∷ ks) front whole before n own = absurd (false≢true n)
  pass_new (suc d) u os v x (end ∷ ks) front whole before n own =
      let f : Fact = new_fact end false u (head_d os no_tag) (own_depth end v) in
      let t = first fs front f (new_facts (head_d os no_tag) (tail os) (depth_after end v) (suc x) ks) x few whole before in
      let u_open = own.0 in (
        head_d os no_tag,
        ends u_open.tag (record {
          kind = rw t.fact;
          mate = rw t.fact;
          back = u_open.mate_is;
          up = rw (t.fact, u_open.up_is);
          mark = rw (t.fact, u_open.unmarked);
          next = sym u_open.up_is;
        }),
        pass_new d (head_d os no_tag) (tail os) (depth_after end v) (suc x) ks (front ++ (f ∷ [])) t.whole t.before n own.1,
      )
  pass_new d u os v x (text ∷ ks) front whole before n own =
      let f : Fact = new_fact text false x u (own_depth text v) in
      let t = first fs front f (new_facts u os (depth_after text v) (suc x) ks) x few whole before in
      let free_u = own_unmarked d (λ i. closing i x (text ∷ ks)) u os own in (
        u,
        stands (record {
          kind = rw t.fact;
          mate = rw t.fact;
          up = rw t.fact;
          mark = λ e. absurd (true≢false (sym e ∙ free_u));
          next = refl;
        }),
        pass_new d u os (depth_after text v) (suc x) ks (front ++ (f ∷ [])) t.whole t.before n own,
      )

-- none of them is marked
pub new_unmarked : (u : ℕ) (os : List ℕ) (v x : ℕ) (ks : List Kind) (i : ℕ) → (fact_in (new_facts u os v x ks) i).marked ≡ false
unfolding new_facts
new_unmarked u os v x [] i = refl
new_unmarked u os v x (begin ∷ ks) zero = refl
new_unmarked u os v x (begin ∷ ks) (suc i) = new_unmarked x (u ∷ os) _ (suc x) ks i
new_unmarked u os v x (end ∷ ks) zero = refl
new_unmarked u os v x (end ∷ ks) (suc i) = new_unmarked _ _ _ (suc x) ks i
new_unmarked u os v x (text ∷ ks) zero = refl
new_unmarked u os v x (text ∷ ks) (suc i) = new_unmarked u os _ (suc x) ks i
