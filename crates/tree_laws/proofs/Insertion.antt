-- One insertion and a row of insertions: the equations of `put` and `inserted`, their tags, and that a sane book stays sane. Assumes nothing.
use mathlib.Core.Path.{◌≡◌, refl, ap, sym, ◌∙◌}
use mathlib.Core.Bool.{Bool, true, false, ◌&&◌, ◌||◌, cond}
use mathlib.Core.List.{[], ◌∷◌}
use Prim.Native.Nat.{ℕ, zero, suc, pred, ◌+◌, ◌*◌, ◌-◌, ◌^◌, ◌≤◌, ◌<◌}
use native.Mathlib.Nat.{pow-succ', mul-le-mul_right, mul_left_comm}
use native.Mathlib.Omega.{arith}
use borrow.Author.Tests.{lt-ltb, le-ltb, le-leb, eq-eqb, ne_eqb, ltb-true, ltb-false, leb-true, eqb-true, eqb-false}
use lib.Dec.{ltb, leb, eqb}
use lib.ListN.{length, length-append}
use lib.Seq.{take-nil, drop-nil}
use Rattle.lists.proofs.Tests.{and_left, and_right, and_both}
use Rattle.lists.specs.Lists.{numbers}
use Rattle.lists.proofs.Numbers.{length_numbers}
use Rattle.tree.specs.Good.{Good}
use Rattle.tree.specs.Row.{insert_at}
use Rattle.tree.specs.Forest.{Forest, nil, leaf, node, leaves, size, joined, spread, put, split_height, within_limits}
use Rattle.tree.specs.Book.{Book, height, tags, root_full, root_split, put_inside, inserted, split_of, inserted_row, root_within, book_within}
use Rattle.tree.specs.Promise.{Sane, StaysSane}
use Rattle.tree_laws.proofs.Good.{good_of, test_of}
use Rattle.tree_laws.proofs.Rows.{length_insert, insert_left, insert_right, insert_none, insert_next}
use Rattle.tree_laws.proofs.Spread.{leaves_joined, good_joined, leaves_spread, good_spread, some_power}

-- Where an insertion behind p goes at a node over l leaves whose limit is b: to its right, or into it, where it splits or not
pub data Turn (l p b : ℕ) : Type 0 where
  right : l < p → Turn l p b
  split : p ≤ l → suc l ≡ b → Turn l p b
  below : p ≤ l → (suc l ≡ b → ⊥) → Turn l p b

pub turn : (l p b : ℕ) → Turn l p b
turn l p b = go (ltb l p) (eqb (suc l) b) refl refl
  where
    go : (t u : Bool) → ltb l p ≡ t → eqb (suc l) b ≡ u → Turn l p b
    go true u e n = right (ltb-true l p e)
    go false true e n = split (ltb-false l p e) (eqb-true (suc l) b n)
    go false false e n = below (ltb-false l p e) (eqb-false (suc l) b n)

-- the equations of `put` and `split_height` at a node
module _ (g f : Forest) (s r j p : ℕ) where
  pub put_right : (x : ℕ) → size g < p → put (node g f) s r j p x ≡ node g (put f s r j (p - size g) x)
  unfolding put
  put_right x h = rw (lt-ltb _ _ h)

  pub put_split : (x : ℕ) → p ≤ size g → suc (size g) ≡ s * r ^ j → put (node g f) s r j p x ≡ joined (spread j r (insert_at p (x ∷ []) (leaves g))) f
  unfolding put
  put_split x h e = rw (le-ltb _ _ h, eq-eqb _ _ e)

  pub put_below : (x : ℕ) → p ≤ size g → (suc (size g) ≡ s * r ^ j → ⊥) → put (node g f) s r j p x ≡ node (put g s r (pred j) p x) f
  unfolding put
  put_below x h n = rw (le-ltb _ _ h, ne_eqb _ _ n)

  pub height_right : size g < p → split_height (node g f) s r j p ≡ split_height f s r j (p - size g)
  unfolding split_height
  height_right h = rw (lt-ltb _ _ h)

  pub height_split : p ≤ size g → suc (size g) ≡ s * r ^ j → split_height (node g f) s r j p ≡ j
  unfolding split_height
  height_split h e = rw (le-ltb _ _ h, eq-eqb _ _ e)

  pub height_below : p ≤ size g → (suc (size g) ≡ s * r ^ j → ⊥) → split_height (node g f) s r j p ≡ split_height g s r (pred j) p
  unfolding split_height
  height_below h n = rw (le-ltb _ _ h, ne_eqb _ _ n)

-- the leaves under a node
pub size_node : (g f : Forest) → size (node g f) ≡ size g + size f
unfolding leaves
size_node g f = length-append (leaves g) (leaves f)

-- what a split is spread over
pub split_length : (p x : ℕ) (g : Forest) → length (insert_at p (x ∷ []) (leaves g)) ≡ suc (size g)
split_length p x g = length_insert p (x ∷ []) (leaves g) ∙ omega arith

-- `put` puts the tag in its place: at a node, if it does so right of it and below it
module _ (s r : ℕ) (g f : Forest) (j p x : ℕ) where
  leaves_put_node : 2 ≤ r → r ^ suc j ≤ size g →
      (p - size g ≤ size f → leaves (put f s r (suc j) (p - size g) x) ≡ insert_at (p - size g) (x ∷ []) (leaves f)) →
      (p ≤ size g → leaves (put g s r j p x) ≡ insert_at p (x ∷ []) (leaves g)) → p ≤ size (node g f) →
      leaves (put (node g f) s r (suc j) p x) ≡ insert_at p (x ∷ []) (leaves (node g f))
  unfolding leaves
  leaves_put_node q low onward inside l = go (turn (size g) p (s * r ^ suc j))
    where
      go : Turn (size g) p (s * r ^ suc j) → leaves (put (node g f) s r (suc j) p x) ≡ insert_at p (x ∷ []) (leaves (node g f))
      go (right h) =
          let rest = onward (omega (arith, size_node g f)) in
          rw (put_right g f s r (suc j) p x h, rest) (sym (insert_right p (x ∷ []) (leaves g) (leaves f) (omega arith)))
      go (split h e) =
          let row = insert_at p (x ∷ []) (leaves g) in
          let over = leaves_spread (suc j) r row q (omega (arith, split_length p x g)) in
          rw (put_split g f s r (suc j) p x h e, leaves_joined (spread (suc j) r row) f, over) (sym (insert_left p (x ∷ []) (leaves g) (leaves f) h))
      go (below h n) = rw (put_below g f s r (suc j) p x h n, inside h) (sym (insert_left p (x ∷ []) (leaves g) (leaves f) h))

pub leaves_put : (s r : ℕ) (f : Forest) (j p x : ℕ) → 2 ≤ r → Good s r f j → p ≤ size f → leaves (put f s r j p x) ≡ insert_at p (x ∷ []) (leaves f)
unfolding put leaves insert_at
leaves_put s r nil j p x q h l = rw (take-nil, drop-nil)
leaves_put s r (leaf z f) zero zero x q h l = refl
leaves_put s r (leaf z f) zero (suc p) x q h l = rw (leaves_put s r f zero p x q h (omega arith))
leaves_put s r (leaf z f) (suc j) p x q h l = absurd h
leaves_put s r (node g f) zero p x q h l = absurd h
leaves_put s r (node g f) (suc j) p x q h l =
    leaves_put_node s r g f j p x q h.0 (leaves_put s r f (suc j) (p - size g) x q h.3) (leaves_put s r g j p x q h.2) l

pub size_put : (s r : ℕ) (f : Forest) (j p x : ℕ) → 2 ≤ r → Good s r f j → p ≤ size f → size (put f s r j p x) ≡ suc (size f)
size_put s r f j p x q h l = ap length (leaves_put s r f j p x q h l) ∙ split_length p x f

-- and keeps the limits; a tag goes into an empty forest only at height 0
module _ (s r : ℕ) (g f : Forest) (j p x : ℕ) where
  good_put_node : 2 ≤ s → 2 ≤ r → Good s r (node g f) (suc j) →
      (p - size g ≤ size f → (size f ≡ 0 → suc j ≡ 0) → Good s r (put f s r (suc j) (p - size g) x) (suc j)) →
      (p ≤ size g → (size g ≡ 0 → j ≡ 0) → Good s r (put g s r j p x) j) → p ≤ size (node g f) →
      Good s r (put (node g f) s r (suc j) p x) (suc j)
  good_put_node t q good onward inside l = go (turn (size g) p (s * r ^ suc j))
    where
      go : Turn (size g) p (s * r ^ suc j) → Good s r (put (node g f) s r (suc j) p x) (suc j)
      go (right h) =
          let l' = size_node g f in
          rw (put_right g f s r (suc j) p x h) (good.0, good.1, good.2, onward (omega arith) (omega arith))
      go (split h e) =
          rw (put_split g f s r (suc j) p x h e) (good_joined s r _ f (suc j) (good_spread s (suc j) r _ t q (omega (arith, good.0, split_length p x g))) good.3)
      go (below h n) =
          let n' = size_put s r g j p x q good.2 h in
          rw (put_below g f s r (suc j) p x h n) (omega (arith, good.0), omega (arith, good.1), inside h (omega (arith, some_power r (suc j) q, good.0)), good.3)

pub good_put : (s r : ℕ) (f : Forest) (j p x : ℕ) → 2 ≤ s → 2 ≤ r → Good s r f j → p ≤ size f → (size f ≡ 0 → j ≡ 0) → Good s r (put f s r j p x) j
unfolding put leaves
good_put s r nil zero p x t q h l n = tt
good_put s r nil (suc j) p x t q h l n = absurd (omega (arith, n refl))
good_put s r (leaf z f) zero zero x t q h l n = h
good_put s r (leaf z f) zero (suc p) x t q h l n = good_put s r f zero p x t q h (omega arith) (λ e. refl)
good_put s r (leaf z f) (suc j) p x t q h l n = absurd h
good_put s r (node g f) zero p x t q h l n = absurd h
good_put s r (node g f) (suc j) p x t q h l n =
    good_put_node s r g f j p x t q h (good_put s r f (suc j) (p - size g) x t q h.3) (good_put s r g j p x t q h.2) l

-- the equations of `inserted` and `split_of`
module _ (p : ℕ) (k : Book) where
  pub inserted_split : (x : ℕ) → root_full k ≡ true → inserted p x k ≡ root_split p x k
  unfolding inserted
  inserted_split x e = rw e

  pub inserted_inside : (x : ℕ) → root_full k ≡ false → inserted p x k ≡ put_inside p x k
  unfolding inserted
  inserted_inside x e = rw e

  pub split_of_split : root_full k ≡ true → split_of p k ≡ height k
  unfolding split_of
  split_of_split e = rw e

  pub split_of_inside : root_full k ≡ false → split_of p k ≡ split_height k.root k.s k.r k.under p
  unfolding split_of
  split_of_inside e = rw e

-- what `root_full` says
pub root_at_limit : (k : Book) → root_full k ≡ true → suc (size k.root) ≡ k.s * k.r ^ height k
unfolding root_full
root_at_limit k e = eqb-true _ _ e

pub root_below_limit : (k : Book) → root_full k ≡ false → suc (size k.root) ≡ k.s * k.r ^ height k → ⊥
unfolding root_full
root_below_limit k e = eqb-false _ _ e

-- a sane book as facts, both ways
pub record Rooted (k : Book) : Type 0 where
  pub high : size k.root < k.s * k.r ^ height k
  pub low : (k.under ≡ 0 → ⊥) → 2 * k.r ^ k.under ≤ size k.root
  pub good : Good k.s k.r k.root k.under

or_low : (u a b : ℕ) → (eqb u 0 || leb a b) ≡ true → (u ≡ 0 → ⊥) → a ≤ b
or_low u a b e n = leb-true a b (rw (ne_eqb u 0 n) at e)

low_or : (u a b : ℕ) → ((u ≡ 0 → ⊥) → a ≤ b) → (eqb u 0 || leb a b) ≡ true
low_or u a b h = go (eqb u 0) refl
  where
    go : (t : Bool) → eqb u 0 ≡ t → (eqb u 0 || leb a b) ≡ true
    go true e = rw e
    go false e = rw e (le-leb a b (h (eqb-false u 0 e)))

pub rooted : (k : Book) → Sane k → Rooted k
unfolding book_within root_within
rooted k h =
    let all = within_limits k.root k.s k.r k.under in
    let below = ltb (size k.root) (k.s * k.r ^ height k) in
    let above = eqb k.under 0 || leb (2 * k.r ^ k.under) (size k.root) in
    let own = and_left (below && above) all h.within in
    record {
      high = ltb-true _ _ (and_left below above own);
      low = or_low k.under (2 * k.r ^ k.under) (size k.root) (and_right below above own);
      good = good_of k.s k.r k.root k.under (and_right (below && above) all h.within);
    }

pub sane_of : (k : Book) → 2 ≤ k.s → 2 ≤ k.r → Rooted k → Sane k
unfolding book_within root_within
sane_of k t q h = record {
  s_least = t;
  r_least = q;
  within = and_both (and_both (lt-ltb _ _ h.high) (low_or k.under _ _ h.low)) (test_of k.s k.r k.root k.under h.good);
}

-- an empty sane book has height 1
pub empty_low : (k : Book) → Sane k → size k.root ≡ 0 → k.under ≡ 0
empty_low k h e = go (eqb k.under 0) refl
  where
    go : (t : Bool) → eqb k.under 0 ≡ t → k.under ≡ 0
    go true n = eqb-true _ _ n
    go false n = absurd (omega (arith, (rooted k h).low (eqb-false _ _ n), some_power k.r k.under h.r_least))

-- one insertion into a sane book
module _ (p x : ℕ) (k : Book) (h : Sane k) (l : p ≤ size k.root) where
  -- a root split is over enough leaves for two trees of the old root's height
  two_trees : root_full k ≡ true → 2 * k.r ^ height k ≤ length (insert_at p (x ∷ []) (tags k))
  two_trees e = omega (arith, split_length p x k.root, root_at_limit k e, mul-le-mul_right (k.r ^ height k) h.s_least)

  tags_split : root_full k ≡ true → tags (root_split p x k) ≡ insert_at p (x ∷ []) (tags k)
  unfolding root_split
  tags_split e = leaves_spread (height k) k.r _ h.r_least (omega (arith, two_trees e))

  tags_inside : tags (put_inside p x k) ≡ insert_at p (x ∷ []) (tags k)
  unfolding put_inside
  tags_inside = leaves_put k.s k.r k.root k.under p x h.r_least (rooted k h).good l

  -- the tag is in its place
  pub tags_inserted : tags (inserted p x k) ≡ insert_at p (x ∷ []) (tags k)
  tags_inserted = go (root_full k) refl
    where
      go : (t : Bool) → root_full k ≡ t → tags (inserted p x k) ≡ insert_at p (x ∷ []) (tags k)
      go true e = rw (inserted_split p k x e) (tags_split e)
      go false e = rw (inserted_inside p k x e) tags_inside

  pub size_inserted : size (inserted p x k).root ≡ suc (size k.root)
  size_inserted = ap length tags_inserted ∙ split_length p x k.root

  rooted_split : root_full k ≡ true → Rooted (root_split p x k)
  unfolding root_split
  rooted_split e =
      let row = insert_at p (x ∷ []) (tags k) in
      let room = two_trees e in
      let limit = k.s * k.r ^ height k in
      let sized : size (spread (height k) k.r row) ≡ limit = ap length (tags_split e) ∙ (split_length p x k.root ∙ root_at_limit k e) in
      let above : k.s * k.r ^ suc (height k) ≡ k.r * limit = rw (pow-succ' k.r (height k)) (mul_left_comm k.s k.r (k.r ^ height k)) in
      record {
        high = omega (arith, root_at_limit k e, mul-le-mul_right limit h.r_least);
        low = λ n. omega (arith, mul-le-mul_right (k.r ^ height k) h.s_least);
        good = good_spread k.s (height k) k.r row h.s_least h.r_least (omega arith);
      }

  rooted_inside : root_full k ≡ false → Rooted (put_inside p x k)
  unfolding put_inside
  rooted_inside e =
      let old = rooted k h in
      let sized = size_put k.s k.r k.root k.under p x h.r_least old.good l in
      record {
        high = omega (arith, old.high, root_below_limit k e);
        low = λ n. omega (arith, old.low n);
        good = good_put k.s k.r k.root k.under p x h.s_least h.r_least old.good l (empty_low k h);
      }

  pub sane_inserted : Sane (inserted p x k)
  unfolding root_split put_inside
  sane_inserted = go (root_full k) refl
    where
      go : (t : Bool) → root_full k ≡ t → Sane (inserted p x k)
      go true e = rw (inserted_split p k x e) (sane_of (root_split p x k) h.s_least h.r_least (rooted_split e))
      go false e = rw (inserted_inside p k x e) (sane_of (put_inside p x k) h.s_least h.r_least (rooted_inside e))

-- a sane book stays sane
pub stays_sane : StaysSane
unfolding StaysSane
stays_sane = sane_inserted

-- s, r and the height after one insertion
kept : (t : Bool) (p x : ℕ) (k : Book) →
    ((cond t (root_split p x k) (put_inside p x k)).s ≡ k.s) × ((cond t (root_split p x k) (put_inside p x k)).r ≡ k.r)
    × ((cond t (root_split p x k) (put_inside p x k)).under ≡ cond t (suc k.under) k.under)
unfolding root_split put_inside
kept true p x k = (refl, refl, refl)
kept false p x k = (refl, refl, refl)

module _ (p x : ℕ) (k : Book) where
  pub inserted_s : (inserted p x k).s ≡ k.s
  unfolding inserted
  inserted_s = (kept (root_full k) p x k).0

  pub inserted_r : (inserted p x k).r ≡ k.r
  unfolding inserted
  inserted_r = (kept (root_full k) p x k).1

  pub inserted_under : (inserted p x k).under ≡ cond (root_full k) (suc k.under) k.under
  unfolding inserted
  inserted_under = (kept (root_full k) p x k).2

-- a row of insertions
pub sane_inserted_row : (n p x : ℕ) (k : Book) → Sane k → p ≤ size k.root → Sane (inserted_row n p x k)
unfolding inserted_row
sane_inserted_row zero p x k h l = h
sane_inserted_row (suc n) p x k h l =
    sane_inserted_row n (suc p) (suc x) (inserted p x k) (sane_inserted p x k h l) (omega (arith, size_inserted p x k h l))

pub tags_inserted_row : (n p x : ℕ) (k : Book) → Sane k → p ≤ size k.root → tags (inserted_row n p x k) ≡ insert_at p (numbers x n) (tags k)
unfolding inserted_row numbers
tags_inserted_row zero p x k h l = sym (insert_none p (tags k))
tags_inserted_row (suc n) p x k h l =
    let rest = tags_inserted_row n (suc p) (suc x) (inserted p x k) (sane_inserted p x k h l) (omega (arith, size_inserted p x k h l)) in
    rest ∙ (ap (insert_at (suc p) (numbers (suc x) n)) (tags_inserted p x k h l) ∙ insert_next p x (numbers (suc x) n) (tags k) l)

pub size_inserted_row : (n p x : ℕ) (k : Book) → Sane k → p ≤ size k.root → size (inserted_row n p x k).root ≡ n + size k.root
size_inserted_row n p x k h l =
    ap length (tags_inserted_row n p x k h l) ∙ (length_insert p (numbers x n) (tags k) ∙ ap (λ m. m + size k.root) (length_numbers x n))
