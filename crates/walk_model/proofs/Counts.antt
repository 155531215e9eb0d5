-- Numbers of tags added up along a row do not depend on its order; so the marks along a store's row are those of its
-- facts. Assumes nothing.
use mathlib.Core.Path.{◌≡◌, refl, sym, ◌∙◌}
use mathlib.Core.Bool.{true, cond, false≢true}
use mathlib.Core.List.{List, [], ◌∷◌}
use Prim.Native.Nat.{ℕ, suc, ◌+◌, ◌≤◌, ◌<◌}
use native.Mathlib.Nat.{zero-add}
use native.Mathlib.Omega.{arith}
use lib.ListN.{length, get_or}
use Rattle.lists.specs.Lists.{numbers, how_many}
use Rattle.lists.proofs.Numbers.{length_numbers}
use Rattle.tree.specs.Row.{member}
use Rattle.tree_laws.proofs.Rows.{Distinct, Among, differs, member_nil, member_first, member_later, member_cases, member_numbers, without, without_first, without_other, length_without, member_without}
use Rattle.calls.specs.Store.{Store, Fact, no_fact, fact, count, marked_count}
use Rattle.calls_laws.proofs.Fields.{TagSays}
use Rattle.calls_laws.proofs.Reader.{kind_back}
use Rattle.walk_model.proofs.Passes.{total, mark_word}

-- a tag's own number, and those of the others
total_without : (g : ℕ → ℕ) (v : ℕ) (xs : List ℕ) → member v xs ≡ true → total g xs ≡ g v + total g (without v xs)
total_without g v [] h = absurd (false≢true (sym (member_nil v) ∙ h))
total_without g v (x ∷ xs) h =
    member_cases v x xs h
    (λ e. rw (e, without_first x xs))
    (λ e m. rw (without_other v x xs e) omega (arith, total_without g v xs m))

-- distinct tags that all stand in a row no longer than theirs
pub total_same : (g : ℕ → ℕ) (xs ys : List ℕ) → Distinct xs → Among xs ys → length ys ≤ length xs → total g xs ≡ total g ys
total_same g [] [] h among l = refl
total_same g [] (y ∷ ys) h among l = absurd (omega arith)
total_same g (x ∷ xs) ys h among l =
    let inside = among x (member_first x xs) in
    let rest : Among xs (without x ys) = λ v m. member_without v x ys (differs v x xs m h.0) ∙ among v (member_later v x xs m) in
    let later = total_same g xs (without x ys) h.1 rest (omega (arith, length_without x ys inside)) in
    omega (arith, total_without g x ys inside)

-- the marked facts, counted by number from d on
marked_total : (g : ℕ → ℕ) (d : ℕ) (ts : List Fact) → ((i : ℕ) → i < length ts → g (d + i) ≡ cond (get_or ts i no_fact).marked 1 0) →
    total g (numbers d (length ts)) ≡ marked_count ts
unfolding numbers how_many
marked_total g d [] each = refl
marked_total g d (t ∷ ts) each =
    let first : d + 0 ≡ d = omega arith in
    let later : (i : ℕ) → i < length ts → g (suc d + i) ≡ cond (get_or ts i no_fact).marked 1 0 =
    λ i l. let same : suc d + i ≡ d + suc i = omega arith in rw same (each (suc i) (omega arith)) in
    let own : g d ≡ cond t.marked 1 0 = rw first at (each 0 (omega arith)) in
    rw (own, marked_total g (suc d) ts later)

-- the marks along a row of all tags
pub marks_same : (ws : List ℕ) (st : Store) → ((x : ℕ) → x < count st → TagSays ws st x) → (xs : List ℕ) → Distinct xs →
    ((x : ℕ) → member x xs ≡ true → x < count st) → length xs ≡ count st → total (mark_word ws) xs ≡ marked_count st.facts
marks_same ws st says xs h below l =
    total_same (mark_word ws) xs (numbers 0 (count st)) h
    (λ v m. member_numbers v 0 (count st) (omega arith) (omega (arith, below v m))) (omega (arith, length_numbers 0 (count st)))
    ∙ marked_total (mark_word ws) 0 st.facts
    (λ i k. rw (zero-add, (says i k).kind_is, (kind_back (fact st i).kind (fact st i).marked).1))
