-- What mark counts along a section of a sound store is how many tags become marked. Assumes nothing.
use mathlib.Core.Path.{◌≡◌, refl, sym, ◌∙◌}
use mathlib.Core.Bool.{Bool, true, false, ◌&&◌, not, cond, and-false}
use mathlib.Core.List.{List, [], ◌∷◌, ◌++◌}
use Prim.Native.Nat.{ℕ, suc, ◌+◌, ◌<◌}
use native.Mathlib.Nat.{zero-add, add-zero, add-suc, suc-add}
use native.Mathlib.Omega.{arith}
use lib.ListN.{length}
use Rattle.store_types.specs.Layout.{at_kind, field}
use Rattle.lists.specs.Lists.{numbers}
use Rattle.lists.proofs.Numbers.{length_numbers}
use Rattle.tree.specs.Row.{member}
use Rattle.tree_laws.proofs.Rows.{member_first, member_later, member_numbers, distinct_left, distinct_right}
use Rattle.calls.specs.Kind.{kind_word}
use Rattle.calls.specs.Store.{Store, Fact, fact_in, fact, count, row}
use Rattle.calls.specs.Mark.{within, new_marks, mark_count}
use Rattle.calls.specs.Words.{words_of}
use Rattle.calls_laws.proofs.Tests.{Sound}
use Rattle.calls_laws.proofs.Fields.{tag_says}
use Rattle.calls_laws.proofs.Reader.{kind_back}
use Rattle.calls_laws.proofs.Sections.{Section, distinct_row, row_below}
use Rattle.calls_laws.proofs.Marks.{outside_before, inside_own, outside_behind, own_below}
use Rattle.walk_model.proofs.Passes.{total}
use Rattle.walk_model.proofs.Counts.{total_same}
use Rattle.mark_call.specs.Run.{new_mark, count_new}
use Rattle.mark_call.proofs.Each.{total_alike, count_each}

-- SUMS along a row joined of two, and of tags that count nothing
total_append : (g : ℕ → ℕ) (xs ys : List ℕ) → total g (xs ++ ys) ≡ total g xs + total g ys
total_append g [] ys = omega arith
total_append g (x ∷ xs) ys = omega (arith, total_append g xs ys)

total_none : (g : ℕ → ℕ) (xs : List ℕ) → ((y : ℕ) → member y xs ≡ true → g y ≡ 0) → total g xs ≡ 0
total_none g [] none = refl
total_none g (x ∷ xs) none = omega (arith, none x (member_first x xs), total_none g xs (λ y m. none y (member_later y x xs m)))

-- 1 for a tag that becomes marked
abbrev becomes : Store → (section tag : ℕ) → ℕ
becomes st x y = cond (not (fact st y).marked && within st x y) 1 0

-- summed by number
new_total : (st : Store) (x d : ℕ) (ts : List Fact) → ((i : ℕ) → i < length ts → fact st (d + i) ≡ fact_in ts i) →
    total (becomes st x) (numbers d (length ts)) ≡ new_marks st x d ts
unfolding numbers new_marks
new_total st x d [] each = refl
new_total st x d (t ∷ ts) each =
    let own : fact st d ≡ t = rw add-zero at (each 0 (omega arith)) in
    let later = new_total st x (suc d) ts (λ i l. rw (suc-add, ← add-suc) (each (suc i) (omega arith))) in
    rw (own, later)

new_marked : (ws : List ℕ) (st : Store) (x y : ℕ) → field ws y at_kind ≡ kind_word (fact st y).kind (fact st y).marked → within st x y ≡ true →
    new_mark (field ws y at_kind) ≡ becomes st x y
unfolding new_mark
new_marked ws st x y e w = rw (e, (kind_back (fact st y).kind (fact st y).marked).1, w) (go (fact st y).marked)
  where
    go : (m : Bool) → ◌≡◌ {A = ℕ} (cond m 0 1) (cond (not m && true) 1 0)
    go true = refl
    go false = refl

module _ {st : Store} (h : Sound st) (x : ℕ) (c : Section st x) where
  -- along the row only the section's own count
  becomes_own : total (becomes st x) (row st) ≡ total (becomes st x) c.own
  becomes_own =
      let g : ℕ → ℕ = becomes st x in
      let out : (y : ℕ) → within st x y ≡ false → g y ≡ 0 = λ y e. rw (e, and-false (not (fact st y).marked)) in
      let front = total_none g c.before (λ y m. out y (outside_before h x c y m)) in
      let back = total_none g c.behind (λ y m. out y (outside_behind h x c y m)) in
      rw (c.whole, total_append g c.before (c.own ++ c.behind), total_append g c.own c.behind, front, back) (omega arith)

  pub counted : (rest : List ℕ) → count_new (words_of st ++ rest) c.own ≡ mark_count x st
  unfolding mark_count
  counted rest =
      let ws = words_of st ++ rest in
      let distinct = distinct_left c.own c.behind (distinct_right c.before (c.own ++ c.behind) (rw c.whole at (distinct_row h))) in
      count_each ws c.own distinct
      ∙ total_alike _ (becomes st x) c.own (λ y m. new_marked ws st x y (tag_says st rest y (own_below h x c y m)).kind_is (inside_own h x c y m))
      ∙ sym becomes_own
      ∙ total_same (becomes st x) (row st) (numbers 0 (count st)) (distinct_row h)
      (λ v m. member_numbers v 0 (count st) (omega arith) (omega (arith, row_below h v m))) (omega (arith, length_numbers 0 (count st), h.as_many))
      ∙ new_total st x 0 st.facts (λ i l. rw zero-add)
