-- The reach of one insertion: where the tags stand that it moves, and how many they are. Assumes nothing.
use mathlib.Core.Path.{◌≡◌, refl, ap, sym, ◌∙◌}
use mathlib.Core.Bool.{true}
use mathlib.Core.List.{List, [], ◌∷◌, ◌++◌}
use Prim.Native.Nat.{ℕ, zero, suc, ◌+◌, ◌*◌, ◌-◌, ◌^◌, ◌≤◌, ◌<◌}
use native.Mathlib.Nat.{pow-zero, pow-succ', mul-one}
use native.Mathlib.Omega.{arith}
use borrow.Author.Tests.{eq-eqb, ne_eqb, eqb-true, eqb-false, ltb-true, ltb-false}
use lib.Dec.{ltb, eqb}
use lib.ListN.{length, take, drop, length-take, length-drop, take-append-drop}
use lib.Seq.{take-take}
use Rattle.lists.proofs.Tests.{by_test}
use Rattle.tree.specs.Row.{member, place}
use Rattle.tree.specs.Book.{Book, height, tags, label_of, inserted, split_of, moved_among, moved}
use Rattle.tree.specs.Reach.{left_of, border, reach_bound}
use Rattle.tree.specs.Promise.{Step, Moves, ReachPlaces, ReachCounts}
use Rattle.tree_laws.proofs.Rows.{Distinct, member_first, member_later, member_of_take, member_of_drop, place_of_member, place_in_take, place_past_take, distinct_apart, apart_sym, distinct_all_below}
use Rattle.tree_laws.proofs.Insertion.{rooted}
use Rattle.tree_laws.proofs.Flat.{Parent}
use Rattle.tree_laws.proofs.Root.{whole, flat_whole, split_flat, left_flat, border_flat}
use Rattle.tree_laws.proofs.Falls.{left_of_new, border_of_new, keeps_left, keeps_right, climbs}

-- WHERE: a tag that moves stands from the left of the split node (of the new tag) on, before the border
module _ {w : ℕ → ℕ} {p x : ℕ} {k : Book} (step : Step w p x k) (t : ℕ) (old : member t (tags k) ≡ true) where
  pub moves_inside : Moves w p x t k → (left_of (split_of p k) p k ≤ place t (tags k)) × (place t (tags k) < border p k)
  unfolding Moves
  moves_inside m =
      let q = place t (tags k) in
      by_test (ltb q (left_of (split_of p k) p k))
      (λ a. absurd (m (keeps_left step t old (ltb-true _ _ a))))
      (λ a. by_test (ltb q (border p k))
      (λ b. (ltb-false _ _ a, ltb-true _ _ b))
      (λ b. absurd (m (keeps_right step t old (ltb-false _ _ b)))))

  pub inside_moves : p ≤ place t (tags k) → place t (tags k) < border p k → Moves w p x t k
  unfolding Moves
  inside_moves l n e = omega (arith, climbs step t old l n)

-- and right of the new tag all that stand there move
pub reach_places : ReachPlaces
unfolding ReachPlaces
reach_places w p x t k step old =
    record { left = λ m. (moves_inside step t old m).0; right = λ m. (moves_inside step t old m).1; all_right = inside_moves step t old }

-- HOW MANY: of a row, those that move

module _ (w : ℕ → ℕ) (k m : Book) where
  pub moved_kept : (x : ℕ) (xs : List ℕ) → label_of w k x ≡ label_of w m x → moved_among w (x ∷ xs) k m ≡ moved_among w xs k m
  unfolding moved_among
  moved_kept x xs e = rw (eq-eqb (label_of w k x) (label_of w m x) e)

  pub moved_other : (x : ℕ) (xs : List ℕ) → (label_of w k x ≡ label_of w m x → ⊥) → moved_among w (x ∷ xs) k m ≡ x ∷ moved_among w xs k m
  unfolding moved_among
  moved_other x xs n = rw (ne_eqb (label_of w k x) (label_of w m x) n)

  pub by_label : {G : Type 0} (x : ℕ) → (label_of w k x ≡ label_of w m x → G) → ((label_of w k x ≡ label_of w m x → ⊥) → G) → G
  by_label x same other = by_test (eqb (label_of w k x) (label_of w m x)) (λ e. same (eqb-true _ _ e)) (λ e. other (eqb-false _ _ e))

  moved_append : (xs ys : List ℕ) → length (moved_among w (xs ++ ys) k m) ≡ length (moved_among w xs k m) + length (moved_among w ys k m)
  unfolding moved_among
  moved_append [] ys = omega arith
  moved_append (x ∷ xs) ys =
      by_label x
      (λ e. rw (moved_kept x (xs ++ ys) e, moved_kept x xs e) (moved_append xs ys))
      (λ n. rw (moved_other x (xs ++ ys) n, moved_other x xs n) (omega (arith, moved_append xs ys)))

  moved_at_most : (xs : List ℕ) → length (moved_among w xs k m) ≤ length xs
  unfolding moved_among
  moved_at_most [] = omega arith
  moved_at_most (x ∷ xs) =
      by_label x
      (λ e. rw (moved_kept x xs e) (omega (arith, moved_at_most xs)))
      (λ n. rw (moved_other x xs n) (omega (arith, moved_at_most xs)))

  moved_none : (xs : List ℕ) → ((t : ℕ) → member t xs ≡ true → label_of w k t ≡ label_of w m t) → length (moved_among w xs k m) ≡ 0
  unfolding moved_among
  moved_none [] h = refl
  moved_none (x ∷ xs) h = rw (moved_kept x xs (h x (member_first x xs))) (moved_none xs (λ t n. h t (member_later t x xs n)))

  moved_cut : (n : ℕ) (xs : List ℕ) → length (moved_among w xs k m) ≡ length (moved_among w (take n xs) k m) + length (moved_among w (drop n xs) k m)
  moved_cut n xs = ap (λ (l : List ℕ). length (moved_among w l k m)) (sym (take-append-drop n xs)) ∙ moved_append (take n xs) (drop n xs)

  -- at most as many as stand in a part of the row outside which all keep their labels
  moved_between : (xs : List ℕ) (low high : ℕ) → low ≤ high → ((t : ℕ) → member t (take low xs) ≡ true → label_of w k t ≡ label_of w m t) →
      ((t : ℕ) → member t (drop high xs) ≡ true → label_of w k t ≡ label_of w m t) → length (moved_among w xs k m) + low ≤ high
  moved_between xs low high order before after =
      let part = drop low (take high xs) in
      omega (
        arith,
        moved_cut high xs,
        moved_none (drop high xs) after,
        moved_cut low (take high xs),
        moved_none (take low (take high xs)) (rw (take-take low high xs order) before),
        moved_at_most part,
        length-drop low (take high xs),
        length-take high xs,
      )

-- a tag of a row of distinct ones stands behind the first n where it is one of the rest
place_of_rest : (t n : ℕ) (xs : List ℕ) → Distinct xs → member t (drop n xs) ≡ true → n ≤ place t xs
place_of_rest t n xs once h =
    let parts : Distinct (take n xs ++ drop n xs) = rw take-append-drop once in
    let past = apart_sym (take n xs) (drop n xs) (distinct_apart (take n xs) (drop n xs) parts) t h in
    omega (arith, place_past_take t n xs past, length-take n xs, length-drop n xs, place_of_member t (drop n xs) h)

place_of_first : (t n : ℕ) (xs : List ℕ) → member t (take n xs) ≡ true → place t xs < n
place_of_first t n xs h = omega (arith, place_in_take t n xs h, place_of_member t (take n xs) h, length-take n xs)

module _ {w : ℕ → ℕ} {p x : ℕ} {k : Book} (step : Step w p x k) (once : Distinct (tags k)) where
  moved_reach : moved w k (inserted p x k) + left_of (split_of p k) p k ≤ border p k
  unfolding moved
  moved_reach =
      let low = left_of (split_of p k) p k in
      moved_between w k (inserted p x k) (tags k) low (border p k) (omega (arith, left_of_new step, border_of_new step))
      (λ t h. keeps_left step t (member_of_take t low (tags k) h) (place_of_first t low (tags k) h))
      (λ t h. keeps_right step t (member_of_drop t (border p k) (tags k) h) (place_of_rest t (border p k) (tags k) once h))

  -- where the parent is a tree below the root, or the root itself, which is not split
  moved_inner : (h : ℕ) → split_of p k ≡ h → h < height k → moved w k (inserted p x k) + 2 ≤ k.s * k.r ^ suc h
  moved_inner h e l =
      let d = flat_whole p k step.place_fits w x step.sane in
      let e' : d.height ≡ h = sym (split_flat step.place_fits d) ∙ e in
      let o : Parent k.s k.r (whole k) (height k) h p (length d.before) (length d.old + length d.beside) = rw e' at (d.parent (rw e' l)) in
      omega (arith, moved_reach, left_flat step.place_fits d, border_flat step.place_fits d)

moved_all : {w : ℕ → ℕ} {p x : ℕ} {k : Book} → Step w p x k → moved w k (inserted p x k) + 1 ≤ k.s * k.r ^ height k
unfolding moved
moved_all {w} {p} {x} {k} step = omega (arith, moved_at_most w k (inserted p x k) (tags k), (rooted k step.sane).high)

-- what the bound is at the root, and below it
pub reach_root : (s r h : ℕ) → reach_bound s r (suc h) (suc h) ≡ s * r ^ suc h - 1
unfolding reach_bound
reach_root s r h = rw (eq-eqb (suc h) (suc h) refl)

pub reach_inner : (s r h j : ℕ) → j < h → reach_bound s r h j ≡ s * r ^ suc j - 2
unfolding reach_bound
reach_inner s r h zero l = rw (pow-succ', pow-zero, mul-one)
reach_inner s r h (suc j) l = rw (ne_eqb (suc j) h (λ e. omega arith))

-- how many tags one insertion moves at most
pub reach_counts : ReachCounts
unfolding ReachCounts
reach_counts w p x k step each =
    let once = (distinct_all_below _ (tags k) each refl).0 in
    let d = flat_whole p k step.place_fits w x step.sane in
    let e = split_flat step.place_fits d in
    by_test (ltb (split_of p k) (height k))
    (λ t.
    let l = ltb-true (split_of p k) (height k) t in
    rw (reach_inner k.s k.r (height k) (split_of p k) l) (omega (arith, moved_inner step once (split_of p k) refl l)))
    (λ t.
    let top : split_of p k ≡ height k = omega (arith, e, d.most, ltb-false (split_of p k) (height k) t) in
    rw (top, reach_root k.s k.r k.under) (omega (arith, moved_all step)))
