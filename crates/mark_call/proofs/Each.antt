-- Words after tags are marked, on plain words: one tag, and a row of tags. Only kind words change, and each of those is
-- the marked one. Assumes nothing.
use mathlib.Core.Path.{◌≡◌, refl, ap, sym, ◌∙◌}
use mathlib.Core.Bool.{true, false, cond}
use mathlib.Core.List.{List, [], ◌∷◌, ◌++◌}
use Prim.Native.Nat.{ℕ, ◌+◌, ◌≤◌, ◌<◌}
use native.Mathlib.Omega.{arith}
use borrow.Author.Tests.{le-leb, lt-leb, eqb-true, eqb-false}
use lib.Dec.{leb, eqb}
use lib.ListN.{length}
use Rattle.store_types.specs.Layout.{header_words, at_kind, tag_words, word_at, field, label_at, with_field, Room}
use Rattle.lists.proofs.Tests.{by_test, either_way}
use Rattle.words.proofs.Fields.{room_same, with_own_field, label_past_field, field_same, field_other_tag, field_other_word, header_kept, length_with_field, with_field_front, field_front}
use Rattle.tree.specs.Row.{member}
use Rattle.tree_laws.proofs.Rows.{Distinct, member_first, member_later, differs}
use Rattle.walk_model.proofs.Passes.{total}
use Rattle.mark_call.specs.Run.{with_mark, new_mark, mark_one, mark_each, count_new}

-- KIND WORDS: a marked one stays
marked_twice : (c : ℕ) → with_mark (with_mark c) ≡ with_mark c
unfolding with_mark
marked_twice c =
    by_test (leb 16 c) (λ e. rw (e, e)) (λ e. rw (e, le-leb 16 (c + 16) (omega arith)))

pub new_mark_few : (c : ℕ) → new_mark c ≤ 1
unfolding new_mark
new_mark_few c = by_test (leb 16 c) (λ e. rw e (omega arith)) (λ e. rw e (omega arith))

-- ONE TAG, marked before or not: what was there, written again, changes nothing
module _ (ws : List ℕ) (x : ℕ) where
  pub mark_again : (c : ℕ) → c ≡ field ws x at_kind → 16 ≤ c → (0 ≡ new_mark (field ws x at_kind)) × (ws ≡ mark_one ws x)
  unfolding mark_one with_mark new_mark
  mark_again c e l = rw (← e, le-leb 16 c l, e) (refl, sym (with_own_field ws x at_kind))

  pub mark_first : (c : ℕ) (vs : List ℕ) → c ≡ field ws x at_kind → c < 16 → vs ≡ with_field ws x at_kind (c + 16) → (1 ≡ new_mark (field ws x at_kind)) × (vs ≡ mark_one ws x)
  unfolding mark_one with_mark new_mark
  mark_first c vs e l put = rw (← e, lt-leb 16 c l) (refl, put)

  pub length_one : length (mark_one ws x) ≡ length ws
  unfolding mark_one
  length_one = length_with_field ws x at_kind _

  -- other words stay
  pub one_header : (i : ℕ) → i < header_words → word_at (mark_one ws x) i ≡ word_at ws i
  unfolding mark_one
  one_header i l = header_kept ws x at_kind _ i l

  pub one_other_word : (y k : ℕ) → k < tag_words → (k ≡ at_kind → ⊥) → field (mark_one ws x) y k ≡ field ws y k
  unfolding mark_one
  one_other_word y k l other = field_other_word ws x y at_kind k _ (omega arith) l other

  one_other_tag : (y : ℕ) → eqb y x ≡ false → field (mark_one ws x) y at_kind ≡ field ws y at_kind
  unfolding mark_one
  one_other_tag y e = field_other_tag ws x y at_kind at_kind _ (omega arith) (omega arith) (eqb-false y x e)

  one_label : (y : ℕ) → label_at (mark_one ws x) y ≡ label_at ws y
  unfolding mark_one
  one_label y = label_past_field ws x y at_kind _ (omega arith) (omega arith)

  one_own : Room ws x → field (mark_one ws x) x at_kind ≡ with_mark (field ws x at_kind)
  unfolding mark_one
  one_own room = field_same ws x at_kind _ room (omega arith)

  one_front : (rest : List ℕ) → Room ws x → mark_one (ws ++ rest) x ≡ mark_one ws x ++ rest
  unfolding mark_one
  one_front rest room = rw (field_front ws rest x at_kind room (omega arith)) (with_field_front ws rest x at_kind _ room (omega arith))

-- A ROW OF TAGS
pub length_each : (ws xs : List ℕ) → length (mark_each ws xs) ≡ length ws
unfolding mark_each
length_each ws [] = refl
length_each ws (x ∷ xs) = length_each (mark_one ws x) xs ∙ length_one ws x

pub each_header : (ws xs : List ℕ) (i : ℕ) → i < header_words → word_at (mark_each ws xs) i ≡ word_at ws i
unfolding mark_each
each_header ws [] i l = refl
each_header ws (x ∷ xs) i l = each_header (mark_one ws x) xs i l ∙ one_header ws x i l

pub each_other_word : (ws xs : List ℕ) (y k : ℕ) → k < tag_words → (k ≡ at_kind → ⊥) → field (mark_each ws xs) y k ≡ field ws y k
unfolding mark_each
each_other_word ws [] y k l other = refl
each_other_word ws (x ∷ xs) y k l other = each_other_word (mark_one ws x) xs y k l other ∙ one_other_word ws x y k l other

pub each_label : (ws xs : List ℕ) (y : ℕ) → label_at (mark_each ws xs) y ≡ label_at ws y
unfolding mark_each
each_label ws [] y = refl
each_label ws (x ∷ xs) y = each_label (mark_one ws x) xs y ∙ one_label ws x y

-- each tag's own kind word is marked, and no other's
pub each_kind : (ws xs : List ℕ) (y : ℕ) → Room ws y →
    field (mark_each ws xs) y at_kind ≡ cond (member y xs) (with_mark (field ws y at_kind)) (field ws y at_kind)
unfolding mark_each member
each_kind ws [] y room = refl
each_kind ws (x ∷ xs) y room =
    let later = each_kind (mark_one ws x) xs y (room_same room (length_one ws x)) in
    by_test (eqb y x)
    (λ e. let same = eqb-true y x e in
    let own : field (mark_one ws x) y at_kind ≡ with_mark (field ws y at_kind) = rw same (one_own ws x (rw same at room)) in
    rw e (later ∙ rw (own, marked_twice (field ws y at_kind)) (either_way (member y xs) (with_mark (field ws y at_kind)))))
    (λ e. rw (e, ← one_other_tag ws x y e) later)

-- words behind those of the tags stay
pub each_front : (ws xs rest : List ℕ) → ((y : ℕ) → member y xs ≡ true → Room ws y) → mark_each (ws ++ rest) xs ≡ mark_each ws xs ++ rest
unfolding mark_each
each_front ws [] rest room = refl
each_front ws (x ∷ xs) rest room =
    rw (one_front ws x rest (room x (member_first x xs)))
    (each_front (mark_one ws x) xs rest (λ y m. room_same (room y (member_later y x xs m)) (length_one ws x)))

-- HOW MANY WERE NOT MARKED, of distinct tags
pub total_alike : (g k : ℕ → ℕ) (xs : List ℕ) → ((y : ℕ) → member y xs ≡ true → g y ≡ k y) → total g xs ≡ total k xs
total_alike g k [] same = refl
total_alike g k (x ∷ xs) same =
    omega (arith, same x (member_first x xs), total_alike g k xs (λ y m. same y (member_later y x xs m)))

pub count_each : (ws xs : List ℕ) → Distinct xs → count_new ws xs ≡ total (λ y. new_mark (field ws y at_kind)) xs
unfolding count_new
count_each ws [] h = refl
count_each ws (x ∷ xs) h =
    ap (λ (c : ℕ). new_mark (field ws x at_kind) + c)
    (count_each (mark_one ws x) xs h.1
    ∙ total_alike _ _ xs (λ y m. ap new_mark (one_other_tag ws x y (differs y x xs m h.0))))
