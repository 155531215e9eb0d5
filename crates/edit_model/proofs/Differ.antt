-- At how many places two lists of numbers differ, of the places whose tests hold. Assumes nothing.
use mathlib.Core.Path.{◌≡◌, refl, ap, sym, ◌∙◌}
use mathlib.Core.Bool.{Bool, true, cond}
use mathlib.Core.List.{List, [], ◌∷◌, ◌++◌}
use Prim.Native.Nat.{ℕ, suc, ◌+◌, ◌≤◌, ◌<◌}
use native.Mathlib.Omega.{arith}
use borrow.Author.Tests.{eq-eqb, ne_eqb}
use lib.Dec.{eqb}
use lib.ListN.{length, get_or, take, drop, replicate, length-drop, take-append-drop}
use lib.Seq.{length-take-le, drop-drop}
use Rattle.lists.proofs.Tests.{either_way}

-- as far as all three lists go
unfoldable pub differ : (tests : List Bool) → (before after : List ℕ) → ℕ
differ [] xs ys = 0
differ (t ∷ ts) [] ys = 0
differ (t ∷ ts) (x ∷ xs) [] = 0
differ (t ∷ ts) (x ∷ xs) (y ∷ ys) = cond t (cond (eqb x y) 0 1) 0 + differ ts xs ys

pub differ_append : (ts : List Bool) (xs ys xs' ys' : List ℕ) → length xs ≡ length xs' →
    differ ts (xs ++ ys) (xs' ++ ys') ≡ differ (take (length xs) ts) xs xs' + differ (drop (length xs) ts) ys ys'
unfolding differ
differ_append [] [] ys xs' ys' e = refl
differ_append [] (x ∷ xs) ys xs' ys' e = refl
differ_append (t ∷ ts) [] ys [] ys' e = omega arith
differ_append (t ∷ ts) [] ys (y ∷ xs') ys' e = absurd (omega arith)
differ_append (t ∷ ts) (x ∷ xs) ys [] ys' e = absurd (omega arith)
differ_append (t ∷ ts) (x ∷ xs) ys (y ∷ xs') ys' e = omega (arith, differ_append ts xs ys xs' ys' (omega arith))

pub differ_same : (ts : List Bool) (xs : List ℕ) → differ ts xs xs ≡ 0
unfolding differ
differ_same [] xs = refl
differ_same (t ∷ ts) [] = refl
differ_same (t ∷ ts) (x ∷ xs) = rw (eq-eqb x x refl, either_way {A = ℕ} t 0, differ_same ts xs)

-- a number that is greater than each of the other list, at every place
pub differ_all : (m : ℕ) (ys : List ℕ) → ((i : ℕ) → i < length ys → get_or ys i 0 < m) →
    differ (replicate (length ys) true) (replicate (length ys) m) ys ≡ length ys
unfolding differ
differ_all m [] small = refl
differ_all m (y ∷ ys) small =
    rw (ne_eqb m y (λ e. omega (arith, small 0 (omega arith))), differ_all m ys (λ i l. small (suc i) (omega arith))) (omega arith)

-- with n numbers put in at place p: as without what stands there in the other list, and at these; `us` are the tests of
-- the places without them
pub differ_around : (p n : ℕ) (ts us : List Bool) (xs ys new : List ℕ) → take p ts ≡ take p us → drop (p + n) ts ≡ drop p us →
    length new ≡ n → p ≤ length xs → length ys ≡ n + length xs →
    differ ts (take p xs ++ (new ++ drop p xs)) ys ≡ differ us xs (take p ys ++ drop (p + n) ys) + differ (take n (drop p ts)) new (take n (drop p ys))
differ_around p n ts us xs ys new front_tests back_tests many fits longer =
    let middle = take n (drop p ys) in
    let behind = drop (p + n) ys in
    let whole : take p ys ++ (middle ++ behind) ≡ ys = rw (← drop-drop n p ys, take-append-drop n (drop p ys), take-append-drop p ys) in
    let at : length (take p xs) ≡ p = length-take-le p xs fits in
    let front : length (take p xs) ≡ length (take p ys) = at ∙ sym (length-take-le p ys (omega arith)) in
    let size : length new ≡ length middle = many ∙ sym (length-take-le n (drop p ys) (rw length-drop (omega arith))) in
    let put = ap (λ (zs : List ℕ). differ ts (take p xs ++ (new ++ drop p xs)) zs) (sym whole) ∙ differ_append ts (take p xs) (new ++ drop p xs) (take p ys) (middle ++ behind) front in
    let inside = rw (many, drop-drop n p ts, back_tests) at (differ_append (drop p ts) new (drop p xs) middle behind size) in
    let old = ap (λ (zs : List ℕ). differ us zs (take p ys ++ behind)) (sym (take-append-drop p xs)) ∙ differ_append us (take p xs) (drop p xs) (take p ys) behind front in
    omega (arith, rw (at, front_tests) at put, rw at at old, inside)
