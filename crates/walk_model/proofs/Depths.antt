-- Depths along a row (document 02, CR 7): the walk's tests of the depth words pass if and only if the store's depths are right,
-- where its row nests: then some begin is open before each end. Assumes nothing.
use mathlib.Core.Path.{◌≡◌, refl, sym, ◌∙◌}
use mathlib.Core.Bool.{Bool, true, false, cond, false≢true}
use mathlib.Core.List.{List, [], ◌∷◌}
use Prim.Native.Nat.{ℕ, zero, suc, ◌+◌, ◌-◌, ◌≤◌, ◌<◌}
use native.Mathlib.Nat.{add-zero}
use native.Mathlib.Numerals.{add-one}
use native.Mathlib.Omega.{arith}
use borrow.Author.Tests.{eqb-true, eq-eqb}
use lib.Dec.{eqb}
use Rattle.store_types.specs.Limits.{no_tag, most_tags}
use Rattle.store_types.specs.Layout.{at_kind, at_depth, field}
use Rattle.lists.proofs.Tests.{and_left, and_right, and_both}
use Rattle.tree.specs.Row.{member}
use Rattle.tree_laws.proofs.Rows.{member_first, member_later}
use Rattle.calls.specs.Kind.{Kind, begin, end, text, code, kind_word, is_begin, is_end, own_depth, opens_after, depth_after}
use Rattle.calls.specs.Store.{Store, Fact, fact_in, fact, count}
use Rattle.calls.specs.Nesting.{depths_right}
use Rattle.calls_laws.proofs.Nesting.{Step, begins, ends, stands, Pass}
use Rattle.calls_laws.proofs.Fields.{TagSays}
use Rattle.walk_model.specs.Walk.{depth_fits, depth_after as word_after}
use Rattle.walk_model.proofs.Passes.{depths_pass}

-- ONE TAG of kind k with the depth w, where d begins are open before it
pub own_of : (k : Kind) (w d : ℕ) → eqb (w + cond (is_end k) 1 0) d ≡ true → w ≡ own_depth k d
unfolding own_depth is_end
own_of begin w d e = omega (arith, eqb-true (w + 0) d e)
own_of end w d e = omega (arith, eqb-true (w + 1) d e)
own_of text w d e = omega (arith, eqb-true (w + 0) d e)

pub own_test : (k : Kind) (w d : ℕ) → (is_end k ≡ true → 1 ≤ d) → w ≡ own_depth k d → eqb (w + cond (is_end k) 1 0) d ≡ true
unfolding own_depth is_end
own_test begin w d some e = eq-eqb (w + 0) d (omega arith)
own_test end w d some e = eq-eqb (w + 1) d (omega (arith, some refl))
own_test text w d some e = eq-eqb (w + 0) d (omega arith)

-- the walk's test and its step, by the kind that a tag's word says
pub depth_by : (ws : List ℕ) (x d : ℕ) (k : Kind) (m : Bool) → let w = field ws x at_depth in
    (depth_fits ws x (kind_word k m) d ≡ eqb (w + cond (is_end k) 1 0) d) × (word_after ws x (kind_word k m) ≡ opens_after k w)
unfolding depth_fits word_after kind_word code is_end is_begin opens_after
depth_by ws x d begin true = (refl, add-one _)
depth_by ws x d begin false = (refl, add-one _)
depth_by ws x d end true = (refl, add-zero _)
depth_by ws x d end false = (refl, add-zero _)
depth_by ws x d text true = (refl, add-zero _)
depth_by ws x d text false = (refl, add-zero _)

-- SO MANY BEGINS ARE OPEN, from the innermost out
abbrev pub Opens : List Fact → (d o : ℕ) → Type 0
Opens fs zero o = o ≡ no_tag
Opens fs (suc d) o = (o ≡ no_tag → ⊥) × Opens fs d (fact_in fs o).up

-- after a tag too; and before an end there is one
pub opens_step : (fs : List Fact) (d o x m : ℕ) → (x ≡ no_tag → ⊥) → Step fs no_tag o x m → Opens fs d o →
    (is_end (fact_in fs x).kind ≡ true → 1 ≤ d) × Opens fs (depth_after (fact_in fs x).kind d) m
unfolding own_depth opens_after depth_after is_begin is_end
opens_step fs d o x m tag (begins h) c = rw (h.kind, h.next) ((λ e. absurd (false≢true e)), (tag, rw h.up c))
opens_step fs zero o x m tag (ends shut h) c = absurd (shut c)
opens_step fs (suc d) o x m tag (ends shut h) c = let less : suc d - 1 ≡ d = omega arith in rw (h.kind, h.next, less) ((λ e. omega arith), c.1)
opens_step fs d o x m tag (stands h) c = rw (h.kind, h.next) ((λ e. absurd (false≢true e)), c)

module _ (ws : List ℕ) (st : Store) (says : (x : ℕ) → x < count st → TagSays ws st x) where
  -- one tag's test and step over words
  test_same : (x d : ℕ) → x < count st → depth_fits ws x (field ws x at_kind) d ≡ eqb ((fact st x).depth + cond (is_end (fact st x).kind) 1 0) d
  test_same x d l = rw ((says x l).kind_is, ← (says x l).depth_is) (depth_by ws x d (fact st x).kind (fact st x).marked).0

  step_same : (x d : ℕ) → x < count st → (fact st x).depth ≡ own_depth (fact st x).kind d → word_after ws x (field ws x at_kind) ≡ depth_after (fact st x).kind d
  unfolding depth_after
  step_same x d l e = rw ((says x l).kind_is, ← e, ← (says x l).depth_is) (depth_by ws x d (fact st x).kind (fact st x).marked).1

  -- THE ROW: tests that pass say that its depths are right
  pub depths_said : (xs : List ℕ) (d : ℕ) → ((x : ℕ) → member x xs ≡ true → x < count st) → depths_pass ws d xs ≡ true → depths_right st.facts d xs ≡ true
  unfolding depths_right
  depths_said [] d below h = refl
  depths_said (x ∷ xs) d below h =
      let l = below x (member_first x xs) in
      let c = field ws x at_kind in
      let test = depth_fits ws x c d in
      let rest = depths_pass ws (word_after ws x c) xs in
      let own = own_of (fact st x).kind (fact st x).depth d (sym (test_same x d l) ∙ and_left test rest h) in
      and_both (eq-eqb _ _ own) (depths_said xs (depth_after (fact st x).kind d) (λ y m. below y (member_later y x xs m)) (rw (step_same x d l own) at (and_right test rest h)))

  -- and right depths pass them along a row that nests
  pub depths_walked : count st ≤ most_tags → (xs : List ℕ) (d o : ℕ) → ((x : ℕ) → member x xs ≡ true → x < count st) → Opens st.facts d o → Pass st.facts no_tag o xs no_tag →
      depths_right st.facts d xs ≡ true → depths_pass ws d xs ≡ true
  unfolding depths_right
  depths_walked few [] d o below c p h = refl
  depths_walked few (x ∷ xs) d o below c (m, s, p) h =
      let l = below x (member_first x xs) in
      let k = (fact st x).kind in
      let test = eqb (fact st x).depth (own_depth k d) in
      let rest = depths_right st.facts (depth_after k d) xs in
      let own = eqb-true _ _ (and_left test rest h) in
      let step = opens_step st.facts d o x m (λ e. omega arith) s c in
      and_both (test_same x d l ∙ own_test k (fact st x).depth d step.0 own)
      (rw (step_same x d l own) (depths_walked few xs (depth_after k d) m (λ y n. below y (member_later y x xs n)) step.1 p (and_right test rest h)))
