-- The account of one book: what its insertions since the load have moved together, beside the potential. A row of
-- insertions keeps it, and it bounds all that was moved. Assumes nothing.
use mathlib.Core.Path.{◌≡◌, refl, ap, sym, ◌∙◌}
use mathlib.Core.Bool.{true, false, cond, or-true}
use mathlib.Core.List.{List, [], ◌∷◌, ◌++◌}
use Prim.Native.Nat.{ℕ, zero, suc, ◌+◌, ◌*◌, ◌-◌, ◌^◌, ◌≤◌}
use native.Mathlib.Nat.{add-zero, mul_assoc, mul_left_comm, pow-succ', mul-le-mul_left, mul-le-mul_right}
use native.Mathlib.Omega.{arith}
use borrow.Author.Tests.{eq-eqb, eqb-true, ltb-true, ltb-false}
use lib.Dec.{eqb, ltb}
use lib.ListN.{length, take, drop, take-append-drop}
use Rattle.lists.proofs.Tests.{by_test, fails}
use Rattle.lists.specs.Lists.{numbers}
use Rattle.lists.proofs.Numbers.{length_numbers}
use Rattle.tree.specs.Row.{member, insert_at, all_below}
use Rattle.tree.specs.Forest.{size, spread, split_height}
use Rattle.tree.specs.Book.{Book, height, tags, label_of, load_under, loaded, root_full, root_split, put_inside, inserted, inserted_row, moved_among, moved}
use Rattle.tree.specs.Reach.{reach_bound, account_bound}
use Rattle.tree.specs.Promise.{Widths, Sane, Step, ReachCounts}
use Rattle.tree_laws.proofs.Rows.{member_first, member_all_below, all_below_of, distinct_all_below, member_insert}
use Rattle.tree_laws.proofs.Spread.{complete_spread}
use Rattle.tree_laws.proofs.Insertion.{below, split_length, inserted_split, inserted_inside, split_of_split, split_of_inside, root_at_limit, rooted, tags_inserted, size_inserted, sane_inserted, inserted_s, inserted_r}
use Rattle.tree_laws.proofs.Flat.{split_at_most}
use Rattle.tree_laws.proofs.Reach.{reach_root, reach_inner, reach_counts}
use Rattle.tree_laws.proofs.Load.{Least, load_least, size_loaded, sane_loaded}
use Rattle.tree_laws.proofs.Potential.{excess, freed, excess_complete, excess_put, excess_spread_zero, excess_spread}

-- MOVED BY TWO BOOKS IN TURN

-- whether two labels differ, as a number
differ : (a b : ℕ) → ℕ
differ a b = cond (eqb a b) 0 1

differ_most : (a b : ℕ) → differ a b ≤ 1
unfolding differ
differ_most a b = by_test (eqb a b) (λ e. rw e omega arith) (λ e. rw e omega arith)

differ_same : (a : ℕ) → differ a a ≡ 0
unfolding differ
differ_same a = rw (eq-eqb a a refl)

differ_turn : (a b c : ℕ) → differ a c ≤ differ a b + differ b c
unfolding differ
differ_turn a b c =
    by_test (eqb a b) (λ e. rw (e, eqb-true a b e) omega arith) (λ e. rw e omega (arith, differ_most a c))

-- how many of a row are moved, tag by tag
among_count : (w : ℕ → ℕ) (x : ℕ) (xs : List ℕ) (k m : Book) →
    length (moved_among w (x ∷ xs) k m) ≡ differ (label_of w k x) (label_of w m x) + length (moved_among w xs k m)
unfolding moved_among differ
among_count w x xs k m = by_test (eqb (label_of w k x) (label_of w m x)) (λ e. rw e omega arith) (λ e. rw e omega arith)

among_none : (w : ℕ → ℕ) (xs : List ℕ) (k : Book) → length (moved_among w xs k k) ≡ 0
unfolding moved_among
among_none w [] k = refl
among_none w (x ∷ xs) k = among_count w x xs k k ∙ omega (arith, differ_same (label_of w k x), among_none w xs k)

among_turn : (w : ℕ → ℕ) (xs : List ℕ) (k l m : Book) →
    length (moved_among w xs k m) ≤ length (moved_among w xs k l) + length (moved_among w xs l m)
unfolding moved_among
among_turn w [] k l m = omega arith
among_turn w (x ∷ xs) k l m =
    rw (among_count w x xs k m, among_count w x xs k l, among_count w x xs l m)
    omega (arith, differ_turn (label_of w k x) (label_of w l x) (label_of w m x), among_turn w xs k l m)

among_append : (w : ℕ → ℕ) (xs ys : List ℕ) (k m : Book) →
    length (moved_among w (xs ++ ys) k m) ≡ length (moved_among w xs k m) + length (moved_among w ys k m)
unfolding moved_among
among_append w [] ys k m = omega arith
among_append w (x ∷ xs) ys k m = rw (among_count w x (xs ++ ys) k m, among_count w x xs k m) omega (arith, among_append w xs ys k m)

among_insert : (w : ℕ → ℕ) (p : ℕ) (ns xs : List ℕ) (k m : Book) →
    length (moved_among w xs k m) ≤ length (moved_among w (insert_at p ns xs) k m)
unfolding insert_at
among_insert w p ns xs k m =
    let whole = ap (λ ys. length (moved_among w ys k m)) (take-append-drop p xs) in
    omega (
      arith,
      whole,
      among_append w (take p xs) (drop p xs) k m,
      among_append w (take p xs) (ns ++ drop p xs) k m,
      among_append w ns (drop p xs) k m,
    )

-- a book moves none against itself
pub moved_none : (w : ℕ → ℕ) (k : Book) → moved w k k ≡ 0
unfolding moved
moved_none w k = among_none w (tags k) k

-- by two books in turn no more are moved than by each of them
pub moved_in_turn : (w : ℕ → ℕ) (p : ℕ) (ns : List ℕ) (k l m : Book) → tags l ≡ insert_at p ns (tags k) →
    moved w k m ≤ moved w k l + moved w l m
unfolding moved
moved_in_turn w p ns k l m e =
    rw e omega (arith, among_turn w (tags k) k l m, among_insert w p ns (tags k) l m)

-- THE ACCOUNT

-- a book of n0 loaded and m inserted tags, whose insertions moved t tags together: (s − 1) times t, with f times what its
-- nodes have above the least, is paid by the insertions, the load, and at_roots, which is what root splits moved
pub record Account (n0 m t : ℕ) (k : Book) : Type 0 where
  pub sane : Sane k
  pub all : size k.root ≡ n0 + m
  pub at_roots : ℕ
  pub roots_low : at_roots ≤ 2 * (k.s * k.r ^ k.under)
  pub roots_few : at_roots ≤ 2 * (n0 + m)
  pub balance :
      (k.s - 1) * t + k.s * k.r * excess k.root k.r k.under
      ≤ (k.s - 1) * (k.s * k.r * m + at_roots) + k.s * k.r * (k.under * m + n0)

-- one that moved fewer
pub account_fewer : {n0 m t : ℕ} {k : Book} (u : ℕ) → u ≤ t → Account n0 m t k → Account n0 m u k
account_fewer {k} u l a =
    record {
      sane = a.sane;
      all = a.all;
      at_roots = a.at_roots;
      roots_low = a.roots_low;
      roots_few = a.roots_few;
      balance = omega (arith, a.balance, mul-le-mul_left (k.s - 1) l);
    }

-- A LOAD of n tags starts it: its nodes have at most n above the least
excess_loaded : (r n h : ℕ) → 2 ≤ r → Least r n h → excess (spread h r (numbers 0 n)) r h ≤ n
excess_loaded r n zero q m = omega (arith, excess_spread_zero r (numbers 0 n))
excess_loaded r n (suc h) q m =
    let enough = m.least h refl in
    omega (arith, excess_spread (suc h) r (numbers 0 n) q (omega (arith, length_numbers 0 n)))

pub account_loaded : (s r n : ℕ) → 2 ≤ s → 2 ≤ r → Account n 0 0 (loaded s r n)
unfolding loaded
account_loaded s r n t q =
    let h = load_under r n in
    let few = excess_loaded r n h q (load_least r n q) in
    record {
      sane = sane_loaded s r n t q;
      all = omega (arith, size_loaded s r n q);
      at_roots = 0;
      roots_low = omega arith;
      roots_few = omega arith;
      balance = omega (arith, mul-le-mul_left (s * r) few);
    }

-- ONE INSERTION

-- what an insertion adds, where the moved are paid by its own share and by what the split freed
paid : (d f m h t e rs n0 mv e' free : ℕ) → d * mv ≤ d * f + f * free → e' + free ≤ e + h →
    d * t + f * e ≤ d * (f * m + rs) + f * (h * m + n0) → d * (t + mv) + f * e' ≤ d * (f * suc m + rs) + f * (h * suc m + n0)
paid d f m h t e rs n0 mv e' free own up old = omega (arith, mul-le-mul_left f up)

-- a root split pays by what root splits moved
paid_root : (d f m h t e rs n0 mv : ℕ) → d * t + f * e ≤ d * (f * m + rs) + f * (h * m + n0) →
    d * (t + mv) + f * 0 ≤ d * (f * suc m + (rs + mv)) + f * (suc h * suc m + n0)
paid_root d f m h t e rs n0 mv old = omega arith

-- what is moved where no root is split is paid by the insertion's own share and by what the split frees
own_share : (s r mv h under : ℕ) → h ≤ under → mv ≤ reach_bound s r (suc under) h →
    (s - 1) * mv ≤ (s - 1) * (s * r) + s * r * freed s r h
unfolding freed reach_bound
own_share s r mv zero under l most =
    let own : mv ≤ s * r - 2 = most in let few : mv ≤ s * r = omega arith in omega (arith, mul-le-mul_left (s - 1) few)
own_share s r mv (suc h) under l most =
    let d = s - 1 in
    let e = r ^ suc h in
    let far : s * r ^ suc (suc h) ≡ s * r * e = rw pow-succ' (sym (mul_assoc s r e)) in
    let few : mv ≤ s * r * e = omega (arith, most, reach_inner s r (suc under) (suc h) (omega arith)) in
    let share : d * (s * r * e) ≡ s * r * (d * e) = mul_left_comm d (s * r) e in
    omega (arith, mul-le-mul_left d few)

-- what root splits moved, with one more
roots_twice : (s r h rs mv : ℕ) → 2 ≤ r → rs ≤ 2 * (s * r ^ h) → mv + 1 ≤ s * r ^ suc h → rs + mv ≤ 2 * (s * r ^ suc h)
roots_twice s r h rs mv q old new =
    let next : s * r ^ suc h ≡ r * (s * r ^ h) = rw pow-succ' (mul_left_comm s r (r ^ h)) in
    omega (arith, mul-le-mul_right (s * r ^ h) q)

module _ {w : ℕ → ℕ} {n0 m t : ℕ} where
  -- with a root split, and without
  account_split : (p x : ℕ) (k : Book) → Step w p x k → all_below (size k.root) (tags k) ≡ true → Account n0 m t k → root_full k ≡ true → Account n0 (suc m) (t + moved w k (root_split p x k)) (root_split p x k)
  unfolding ReachCounts root_split
  account_split p x k st each a e =
      let row = insert_at p (x ∷ []) (tags k) in
      let limit = root_at_limit k e in
      let next = inserted_split p k x e in
      let grown = rw next at (size_inserted p x k st.sane st.place_fits) in
      let mv = moved w k (root_split p x k) in
      let far = rw (next, split_of_split p k e) at (reach_counts w p x k st each) in
      let most : mv + 1 ≤ k.s * k.r ^ height k = omega (arith, far, reach_root k.s k.r k.under, limit) in
      let none = excess_complete k.r (spread (height k) k.r row) (height k) (complete_spread (height k) k.r k.s row st.sane.r_least (split_length p x k.root ∙ limit)) in
      let roots = roots_twice k.s k.r k.under a.at_roots mv st.sane.r_least a.roots_low most in
      record {
        sane = rw next at (sane_inserted p x k st.sane st.place_fits);
        all = omega (arith, a.all);
        at_roots = a.at_roots + mv;
        roots_low = roots;
        roots_few = omega (arith, a.all);
        balance = rw none (paid_root (k.s - 1) (k.s * k.r) m k.under t (excess k.root k.r k.under) a.at_roots n0 mv a.balance);
      }

  account_inside : (p x : ℕ) (k : Book) → Step w p x k → all_below (size k.root) (tags k) ≡ true → Account n0 m t k → root_full k ≡ false → Account n0 (suc m) (t + moved w k (put_inside p x k)) (put_inside p x k)
  unfolding ReachCounts put_inside
  account_inside p x k st each a e =
      let next = inserted_inside p k x e in
      let grown = rw next at (size_inserted p x k st.sane st.place_fits) in
      let j = split_height k.root k.s k.r k.under p in
      let mv = moved w k (put_inside p x k) in
      let share : (k.s - 1) * mv ≤ (k.s - 1) * (k.s * k.r) + k.s * k.r * freed k.s k.r j =
      own_share k.s k.r mv j k.under (split_at_most k.root k.s k.r k.under p (rooted k st.sane).good)
      (rw (next, split_of_inside p k e) at (reach_counts w p x k st each)) in
      let up = excess_put k.s k.r k.root k.under p x st.sane.s_least st.sane.r_least (rooted k st.sane).good in
      record {
        sane = rw next at (sane_inserted p x k st.sane st.place_fits);
        all = omega (arith, a.all);
        at_roots = a.at_roots;
        roots_low = a.roots_low;
        roots_few = omega (arith, a.roots_few);
        balance = paid (k.s - 1) (k.s * k.r) m k.under t _ a.at_roots n0 mv _ (freed k.s k.r j) share up a.balance;
      }

  -- an insertion keeps the account
  pub account_inserted : (p x : ℕ) (k : Book) → Step w p x k → all_below (size k.root) (tags k) ≡ true → Account n0 m t k → Account n0 (suc m) (t + moved w k (inserted p x k)) (inserted p x k)
  account_inserted p x k st each a =
      by_test (root_full k) (λ e. rw (inserted_split p k x e) (account_split p x k st each a e)) (λ e. rw (inserted_inside p k x e) (account_inside p x k st each a e))

-- the numbers below n and then n stand in the row with n in it
below_next : (p n : ℕ) (xs : List ℕ) → all_below n xs ≡ true → all_below (suc n) (insert_at p (n ∷ []) xs) ≡ true
below_next p n xs old =
    all_below_of (suc n) (insert_at p (n ∷ []) xs)
    (λ i l. member_insert i p (n ∷ []) xs
    ∙ by_test (ltb i n) (λ e. rw (member_all_below n i xs old (ltb-true i n e)))
    (λ e. let same : i ≡ n = omega (arith, ltb-false i n e) in rw (same, member_first n []) (or-true (member n xs))))

-- A ROW OF INSERTIONS of the next numbers keeps it
pub account_row : {w : ℕ → ℕ} {n0 m t : ℕ} (n p x : ℕ) (k : Book) → Widths k.s k.r w → p ≤ size k.root → x ≡ size k.root →
    all_below x (tags k) ≡ true → Account n0 m t k →
    Account n0 (m + n) (t + moved w k (inserted_row n p x k)) (inserted_row n p x k)
unfolding inserted_row
account_row {w} {n0} {m} {t} zero p x k widths fits next each a = rw (moved_none w k, add-zero m, add-zero t) a
account_row {w} {n0} {m} {t} (suc n) p x k widths fits next each a =
    let below = (distinct_all_below x (tags k) each (sym next)).1 in
    let st : Step w p x k = record { widths = widths; sane = a.sane; place_fits = fits; new = fails (member x (tags k)) (λ e. omega (arith, below x e)) } in
    let l = inserted p x k in
    let end = inserted_row n (suc p) (suc x) l in
    let in_place = tags_inserted p x k a.sane fits in
    let grown = size_inserted p x k a.sane fits in
    let rest = account_row {w = w} {n0 = n0} {m = suc m} {t = t + moved w k l} n (suc p) (suc x) l (rw (inserted_s p x k, inserted_r p x k) widths) (omega (arith, grown)) (rw grown (ap suc next))
    (rw in_place (below_next p x (tags k) each)) (account_inserted p x k st (rw (← next) each) a) in
    let one : suc m + n ≡ m + suc n = omega arith in
    account_fewer (t + moved w k end) (omega (arith, moved_in_turn w p (x ∷ []) k l end in_place)) (rw one at rest)

-- what the account says of all that was moved, and of the height
module _ {n0 m t : ℕ} {k : Book} (a : Account n0 m t k) where
  pub account_few : (k.s - 1) * t ≤ account_bound k.s k.r n0 m (height k)
  account_few =
      let under : height k - 1 ≡ k.under = omega arith in rw under omega (arith, a.balance, mul-le-mul_left (k.s - 1) a.roots_few)

  pub account_low : 2 ≤ height k → 2 * k.r ^ k.under ≤ n0 + m
  account_low l = omega (arith, a.all, (rooted k a.sane).low (omega arith))
