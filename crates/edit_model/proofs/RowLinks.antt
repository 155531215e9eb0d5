-- A row of tags with new ones behind its first p: what stands behind each tag and before it, and what goes with them.
-- Assumes nothing.
use mathlib.Core.Path.{◌≡◌, sym, ◌∙◌}
use mathlib.Core.Bool.{true, false}
use mathlib.Core.List.{List, [], ◌∷◌, ◌++◌}
use Prim.Native.Nat.{ℕ, zero, suc, ◌+◌, ◌≤◌, ◌<◌}
use native.Mathlib.Omega.{arith}
use borrow.Author.Tests.{ltb-true, ltb-false}
use lib.Dec.{ltb}
use lib.ListN.{length, get_or, get_or-append}
use lib.Seq.{get_or_at}
use Rattle.store_types.specs.Limits.{no_tag}
use Rattle.lists.proofs.Tests.{by_test}
use Rattle.tree.specs.Row.{member, place, insert_at}
use Rattle.tree_laws.proofs.Rows.{Distinct, Apart, place_before, place_behind, place_new, getD_before, getD_new, getD_behind}
use Rattle.calls.specs.Store.{next_in, prior_in}

module _ (ns : List ℕ) (p : ℕ) (xs : List ℕ) (fits : p ≤ length xs) where
  module _ (x : ℕ) (old : member x xs ≡ true) (other : member x ns ≡ false) where
    -- what goes with the tags, one by one, goes with them still
    pub kept_with_row : (ms : List ℕ) (d : ℕ) (ls : List ℕ) → length ms ≡ length ns → p ≤ length ls →
        get_or (insert_at p ms ls) (place x (insert_at p ns xs)) d ≡ get_or ls (place x xs) d
    kept_with_row ms d ls many room =
        by_test (ltb (place x xs) p)
        (λ t. let l = ltb-true (place x xs) p t in rw (place_before x p ns xs old l) (getD_before p ms ls (place x xs) d room l))
        (λ t. let l = ltb-false (place x xs) p t in
        rw (place_behind x p ns xs old other l, ← many) (getD_behind p ms ls (place x xs) d room l))

    pub next_kept : (suc (place x xs) ≡ p → ⊥) → next_in (insert_at p ns xs) x ≡ next_in xs x
    unfolding next_in
    next_kept far =
        by_test (ltb (place x xs) p)
        (λ t. let l = ltb-true (place x xs) p t in
        rw (place_before x p ns xs old l) (getD_before p ns xs (suc (place x xs)) no_tag fits (omega arith)))
        (λ t. let l = ltb-false (place x xs) p t in
        let later : suc (length ns + place x xs) ≡ length ns + suc (place x xs) = omega arith in
        rw (place_behind x p ns xs old other l, later) (getD_behind p ns xs (suc (place x xs)) no_tag fits (omega arith)))

    pub next_first : 1 ≤ length ns → suc (place x xs) ≡ p → next_in (insert_at p ns xs) x ≡ get_or ns 0 no_tag
    unfolding next_in
    next_first some e =
        let here : p ≡ p + 0 = omega arith in
        rw (place_before x p ns xs old (omega arith), e ∙ here) (getD_new p ns xs 0 no_tag fits some)

    pub prior_kept : (place x xs ≡ p → ⊥) → prior_in (insert_at p ns xs) x ≡ prior_in xs x
    unfolding prior_in insert_at
    prior_kept far =
        by_test (ltb (place x xs) p)
        (λ t. let l = ltb-true (place x xs) p t in
        rw (place_before x p ns xs old l) (getD_before (suc p) ns (no_tag ∷ xs) (place x xs) no_tag (omega arith) (omega arith)))
        (λ t. let l = ltb-false (place x xs) p t in
        rw (place_behind x p ns xs old other l) (getD_behind (suc p) ns (no_tag ∷ xs) (place x xs) no_tag (omega arith) (omega arith)))

    pub prior_last : (m : ℕ) → length ns ≡ suc m → place x xs ≡ p → prior_in (insert_at p ns xs) x ≡ get_or ns m no_tag
    unfolding prior_in
    prior_last m many e =
        let at : length ns + place x xs ≡ suc (p + m) = omega arith in
        rw (place_behind x p ns xs old other (omega arith), at) (getD_new p ns xs m no_tag fits (omega arith))

  -- the new ones themselves
  module _ (once : Distinct ns) (apart : Apart ns xs) (i : ℕ) (inside : i < length ns) where
    pub place_in_row : place (get_or ns i 0) (insert_at p ns xs) ≡ p + i
    place_in_row = place_new p ns xs i 0 once apart fits inside

    pub next_of_new : next_in (insert_at p ns xs) (get_or ns i 0) ≡ get_or (ns ++ (get_or xs p no_tag ∷ [])) (suc i) no_tag
    unfolding next_in
    next_of_new =
        rw place_in_row (by_test (ltb (suc i) (length ns))
        (λ t. let l = ltb-true (suc i) (length ns) t in
        let at : suc (p + i) ≡ p + suc i = omega arith in
        rw at (getD_new p ns xs (suc i) no_tag fits l ∙ sym (get_or-append ns (get_or xs p no_tag ∷ []) no_tag (suc i) l)))
        (λ t. let l = ltb-false (suc i) (length ns) t in
        let at : suc (p + i) ≡ length ns + p = omega arith in
        rw at (getD_behind p ns xs p no_tag fits (omega arith) ∙ sym (get_or_at ns (get_or xs p no_tag) [] no_tag (suc i) (omega arith)))))

  pub prior_of_new : Distinct ns → Apart ns xs → (i : ℕ) → i < length ns → prior_in (insert_at p ns xs) (get_or ns i 0) ≡ get_or (get_or (no_tag ∷ xs) p no_tag ∷ ns) i no_tag
  unfolding prior_in insert_at
  prior_of_new once apart zero inside =
      let here : p + 0 ≡ p = omega arith in
      rw (place_in_row once apart 0 inside, here) (getD_before (suc p) ns (no_tag ∷ xs) p no_tag (omega arith) (omega arith))
  prior_of_new once apart (suc i) inside =
      let at : p + suc i ≡ suc (p + i) = omega arith in
      rw (place_in_row once apart (suc i) inside, at) (getD_new p ns xs i no_tag fits (omega arith))
