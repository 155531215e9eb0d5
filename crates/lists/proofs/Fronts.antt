-- What a list begins with, and new elements over its front. Assumes nothing.
use mathlib.Core.Path.{◌≡◌, refl, ap, sym, ◌∙◌}
use mathlib.Core.Bool.{true, false, ◌&&◌, and-false, true≢false, false≢true}
use mathlib.Core.List.{List, [], ◌∷◌, ◌++◌}
use Prim.Native.Nat.{ℕ, ◌+◌, ◌-◌, ◌≤◌, ◌<◌}
use native.Mathlib.Nat.{zero-add}
use native.Mathlib.Omega.{arith}
use borrow.Author.Tests.{eq-eqb, eqb-true}
use lib.Dec.{eqb}
use lib.ListN.{length, drop, length-append, length-drop}
use lib.Seq.{sets, sets-eq, drop-append-add, drop-drop}
use Rattle.lists.specs.Fronts.{starts_with, in_front}
use Rattle.lists.proofs.Tests.{by_test, and_left, and_right, and_both}

-- A LIST BEGINS with its front, and what it begins with has a rest
pub starts_front : (vs rest : List ℕ) → starts_with vs (vs ++ rest) ≡ true
unfolding starts_with
starts_front [] rest = refl
starts_front (v ∷ vs) rest = and_both (eq-eqb v v refl) (starts_front vs rest)

pub rest_of : (vs ws : List ℕ) → starts_with vs ws ≡ true → ws ≡ vs ++ drop (length vs) ws
unfolding starts_with
rest_of [] ws e = refl
rest_of (v ∷ vs) [] e = absurd (true≢false (sym e))
rest_of (v ∷ vs) (w ∷ ws) e =
    rw (eqb-true v w (and_left (eqb v w) (starts_with vs ws) e)) (ap (λ l. w ∷ l) (rest_of vs ws (and_right (eqb v w) (starts_with vs ws) e)))

-- it is as long at least, so a list begins with none that is longer
pub starts_fits : (xs ys : List ℕ) → starts_with xs ys ≡ true → length xs ≤ length ys
unfolding starts_with
starts_fits [] ys e = omega arith
starts_fits (x ∷ xs) [] e = absurd (false≢true e)
starts_fits (x ∷ xs) (y ∷ ys) e = omega (arith, starts_fits xs ys (and_right (eqb x y) (starts_with xs ys) e))

pub starts_short : (xs ys : List ℕ) → length ys < length xs → starts_with xs ys ≡ false
unfolding starts_with
starts_short [] ys l = absurd (omega arith)
starts_short (x ∷ xs) [] l = refl
starts_short (x ∷ xs) (y ∷ ys) l = rw (starts_short xs ys (omega arith)) (and-false (eqb x y))

-- what stands behind a list that is long enough does not matter
pub starts_within : (xs ys zs : List ℕ) → length xs ≤ length ys → starts_with xs (ys ++ zs) ≡ starts_with xs ys
unfolding starts_with
starts_within [] ys zs l = refl
starts_within (x ∷ xs) [] zs l = absurd (omega arith)
starts_within (x ∷ xs) (y ∷ ys) zs l = ap (λ t. eqb x y && t) (starts_within xs ys zs (omega arith))

pub starts_longer : (xs ys zs : List ℕ) → starts_with xs ys ≡ true → starts_with xs (ys ++ zs) ≡ true
starts_longer xs ys zs e = starts_within xs ys zs (starts_fits xs ys e) ∙ e

-- one list behind another
pub starts_both : (xs ys cs : List ℕ) → starts_with (xs ++ ys) cs ≡ (starts_with xs cs && starts_with ys (drop (length xs) cs))
unfolding starts_with
starts_both [] ys cs = refl
starts_both (x ∷ xs) ys [] = refl
starts_both (x ∷ xs) ys (c ∷ cs) = by_test (eqb x c) (λ e. rw e (starts_both xs ys cs)) (λ e. rw e)

-- what a list does not begin with, nothing longer of it is
pub starts_no_longer : (xs ys cs : List ℕ) → starts_with xs cs ≡ false → starts_with (xs ++ ys) cs ≡ false
starts_no_longer xs ys cs e = starts_both xs ys cs ∙ rw e

-- another first element
pub starts_other : (x y : ℕ) (xs ys : List ℕ) → eqb x y ≡ false → starts_with (x ∷ xs) (y ∷ ys) ≡ false
unfolding starts_with
starts_other x y xs ys e = rw e

-- NEW ELEMENTS in front, where they fit: there are as many as before, and past them all are as they were
module _ {A : Type 0} where
  pub length_in_front : (new old : List A) → length new ≤ length old → length (in_front new old) ≡ length old
  unfolding in_front
  length_in_front new old l = length-append new (drop (length new) old) ∙ omega (arith, length-drop (length new) old)

  pub drop_in_front : (new old : List A) (k : ℕ) → length new ≤ k → drop k (in_front new old) ≡ drop k old
  unfolding in_front
  drop_in_front new old k l =
      let past : k ≡ length new + (k - length new) = omega arith in
      ap (λ (j : ℕ). drop j (new ++ drop (length new) old)) past
      ∙ drop-append-add new (drop (length new) old) (k - length new)
      ∙ drop-drop (k - length new) (length new) old
      ∙ ap (λ (j : ℕ). drop j old) (sym past)

  -- so are those that are stored one after the other from the front
  pub sets_front : (new old : List A) → length new ≤ length old → sets old 0 new ≡ in_front new old
  unfolding in_front
  sets_front new old l = sets-eq new old 0 (rw zero-add l) ∙ rw zero-add
