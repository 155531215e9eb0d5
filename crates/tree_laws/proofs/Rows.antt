-- Rows of tag numbers (specs/Row.antt): numbers in order, members and their places, tags put in, and that a row of n tags
-- which holds each number below n holds each once. Assumes nothing.
use mathlib.Core.Path.{◌≡◌, refl, ap, sym, ◌∙◌}
use mathlib.Core.Bool.{Bool, true, false, ◌||◌, cond, true≢false, false≢true, or-true, or_assoc, or_comm}
use mathlib.Core.List.{List, [], ◌∷◌, ◌++◌, append_assoc}
use Prim.Native.Nat.{ℕ, zero, suc, ◌+◌, ◌-◌, ◌≤◌, ◌<◌}
use native.Mathlib.Nat.{not-suc-le-zero, le_of_suc-le-suc}
use native.Mathlib.Omega.{arith}
use borrow.Author.Tests.{eq-eqb, ne_eqb, eqb-true, eqb-false}
use lib.Dec.{eqb}
use lib.ListN.{length, get_or, take, drop, length-append, length-take, length-drop, take-append-drop, get_or-append}
use lib.Seq.{length-take-le, get_or-append-add, get_or-take, get_or-drop, take-append-le, drop-append-le, take-append-add, drop-append-add}
use Rattle.lists.proofs.Numbers.{length_numbers}
use Rattle.lists.proofs.Tests.{by_test, fails, or_left_false, or_right_false, and_left, and_right, and_both}
use Rattle.lists.specs.Lists.{numbers}
use Rattle.tree.specs.Row.{member, place, insert_at, all_below}

-- MEMBERS AND PLACES

pub member_nil : (v : ℕ) → member v [] ≡ false
unfolding member
member_nil v = refl

pub member_first : (x : ℕ) (xs : List ℕ) → member x (x ∷ xs) ≡ true
unfolding member
member_first x xs = rw (eq-eqb x x refl)

pub member_later : (v x : ℕ) (xs : List ℕ) → member v xs ≡ true → member v (x ∷ xs) ≡ true
unfolding member
member_later v x xs h = rw h (or-true (eqb v x))

pub member_other : (v x : ℕ) (xs : List ℕ) → eqb v x ≡ false → member v (x ∷ xs) ≡ member v xs
unfolding member
member_other v x xs e = rw e

-- a member is the first or one of the rest
pub member_cases : {G : Type 0} (v x : ℕ) (xs : List ℕ) → member v (x ∷ xs) ≡ true → (v ≡ x → G) → (eqb v x ≡ false → member v xs ≡ true → G) → G
member_cases v x xs h f g =
    by_test (eqb v x) (λ e. f (eqb-true _ _ e)) (λ e. g e (sym (member_other v x xs e) ∙ h))

-- a member is not a tag that is none
pub differs : (u v : ℕ) (xs : List ℕ) → member u xs ≡ true → member v xs ≡ false → eqb u v ≡ false
differs u v xs m n = ne_eqb u v (λ same. true≢false (sym (rw same at m) ∙ n))

pub member_append : (v : ℕ) (xs ys : List ℕ) → member v (xs ++ ys) ≡ (member v xs || member v ys)
unfolding member
member_append v [] ys = refl
member_append v (x ∷ xs) ys = rw (member_append v xs ys) (sym (or_assoc (eqb v x) (member v xs) (member v ys)))

place_nil : (v : ℕ) → place v [] ≡ 0
unfolding place
place_nil v = refl

pub place_first : (x : ℕ) (xs : List ℕ) → place x (x ∷ xs) ≡ 0
unfolding place
place_first x xs = rw (eq-eqb x x refl)

pub place_other : (v x : ℕ) (xs : List ℕ) → eqb v x ≡ false → place v (x ∷ xs) ≡ suc (place v xs)
unfolding place
place_other v x xs e = rw e

pub place_le : (v : ℕ) (xs : List ℕ) → place v xs ≤ length xs
unfolding place
place_le v [] = omega arith
place_le v (x ∷ xs) = by_test (eqb v x) (λ e. rw e omega arith) (λ e. rw e omega (arith, place_le v xs))

-- a tag is a member where its place is inside the row
pub place_of_member : (v : ℕ) (xs : List ℕ) → member v xs ≡ true → place v xs < length xs
unfolding member
place_of_member v [] h = absurd (false≢true h)
place_of_member v (x ∷ xs) h =
    member_cases v x xs h (λ e. rw (e, place_first x xs) omega arith) (λ e m. rw (place_other v x xs e) omega (arith, place_of_member v xs m))

pub member_of_place : (v : ℕ) (xs : List ℕ) → place v xs < length xs → member v xs ≡ true
member_of_place v [] h = absurd (not-suc-le-zero (rw place_nil at h))
member_of_place v (x ∷ xs) h =
    by_test (eqb v x) (λ e. rw (eqb-true v x e) (member_first x xs))
    (λ e. member_later v x xs (member_of_place v xs (omega (arith, place_other v x xs e))))

-- at a member's place stands the member
pub getD_place : (v : ℕ) (xs : List ℕ) (d : ℕ) → member v xs ≡ true → get_or xs (place v xs) d ≡ v
unfolding member
getD_place v [] d h = absurd (false≢true h)
getD_place v (x ∷ xs) d h =
    member_cases v x xs h (λ e. rw (e, place_first x xs)) (λ e m. rw (place_other v x xs e) (getD_place v xs d m))

pub member_getD : (xs : List ℕ) (i d : ℕ) → i < length xs → member (get_or xs i d) xs ≡ true
member_getD [] i d h = absurd (not-suc-le-zero h)
member_getD (x ∷ xs) zero d h = member_first x xs
member_getD (x ∷ xs) (suc i) d h = member_later _ x xs (member_getD xs i d (le_of_suc-le-suc h))

-- in a row joined of two: the place in the first where it is there, else in the second
pub place_append_in : (v : ℕ) (xs ys : List ℕ) → member v xs ≡ true → place v (xs ++ ys) ≡ place v xs
unfolding member
place_append_in v [] ys h = absurd (false≢true h)
place_append_in v (x ∷ xs) ys h =
    member_cases v x xs h
    (λ e. rw (e, place_first x xs, place_first x (xs ++ ys)))
    (λ e m. rw (place_other v x xs e, place_other v x (xs ++ ys) e, place_append_in v xs ys m))

pub place_append_out : (v : ℕ) (xs ys : List ℕ) → member v xs ≡ false → place v (xs ++ ys) ≡ length xs + place v ys
place_append_out v [] ys h = omega arith
place_append_out v (x ∷ xs) ys h =
    by_test (eqb v x)
    (λ e. absurd (true≢false (sym (member_first x xs) ∙ (rw (eqb-true v x e) at h))))
    (λ e. rw (place_other v x (xs ++ ys) e) omega (arith, place_append_out v xs ys (sym (member_other v x xs e) ∙ h)))

-- DISTINCT TAGS

-- no tag stands twice in a row
abbrev pub Distinct : List ℕ → Type 0
Distinct [] = Unit {0}
Distinct (x ∷ xs) = (member x xs ≡ false) × Distinct xs

-- every member of a row is one of another; none is
abbrev pub Among : (xs ys : List ℕ) → Type 0
Among xs ys = (v : ℕ) → member v xs ≡ true → member v ys ≡ true

abbrev pub Apart : (xs ys : List ℕ) → Type 0
Apart xs ys = (v : ℕ) → member v xs ≡ true → member v ys ≡ false

pub apart_sym : (xs ys : List ℕ) → Apart xs ys → Apart ys xs
apart_sym xs ys apart v m = fails (member v xs) (λ n. true≢false (sym m ∙ apart v n))

-- in a row of distinct tags each stands at its own place
pub place_getD : (xs : List ℕ) (i d : ℕ) → Distinct xs → i < length xs → place (get_or xs i d) xs ≡ i
place_getD [] i d h l = absurd (not-suc-le-zero l)
place_getD (x ∷ xs) zero d h l = place_first x xs
place_getD (x ∷ xs) (suc i) d h l =
    let inside : i < length xs = le_of_suc-le-suc l in
    place_other (get_or xs i d) x xs (differs (get_or xs i d) x xs (member_getD xs i d inside) h.0) ∙ ap suc (place_getD xs i d h.1 inside)

pub distinct_append : (xs ys : List ℕ) → Distinct xs → Distinct ys → Apart xs ys → Distinct (xs ++ ys)
distinct_append [] ys h k apart = k
distinct_append (x ∷ xs) ys h k apart = (
  rw (member_append x xs ys, h.0) (apart x (member_first x xs)),
  distinct_append xs ys h.1 k (λ v m. apart v (member_later v x xs m)),
)

-- and back: the two parts, and that they share nothing
pub distinct_left : (xs ys : List ℕ) → Distinct (xs ++ ys) → Distinct xs
distinct_left [] ys h = tt
distinct_left (x ∷ xs) ys h = (or_left_false _ _ (sym (member_append x xs ys) ∙ h.0), distinct_left xs ys h.1)

pub distinct_right : (xs ys : List ℕ) → Distinct (xs ++ ys) → Distinct ys
distinct_right [] ys h = h
distinct_right (x ∷ xs) ys h = distinct_right xs ys h.1

pub distinct_apart : (xs ys : List ℕ) → Distinct (xs ++ ys) → Apart xs ys
distinct_apart [] ys h v m = absurd (false≢true (sym (member_nil v) ∙ m))
distinct_apart (x ∷ xs) ys h v m =
    member_cases v x xs m
    (λ e. rw e (or_right_false (member x xs) (member x ys) (sym (member_append x xs ys) ∙ h.0)))
    (λ e n. distinct_apart xs ys h.1 v n)

-- NUMBERS IN ORDER

-- i is a member of n numbers from x on where x ≤ i < x + n, and only there
pub member_numbers : (i x n : ℕ) → x ≤ i → i < x + n → member i (numbers x n) ≡ true
unfolding numbers
member_numbers i x zero l u = absurd (omega arith)
member_numbers i x (suc n) l u =
    by_test (eqb i x)
    (λ e. rw (eqb-true i x e) (member_first x (numbers (suc x) n)))
    (λ e. member_later i x _ (let other = eqb-false i x e in member_numbers i (suc x) n (omega arith) (omega arith)))

pub number_bounds : (i x n : ℕ) → member i (numbers x n) ≡ true → (x ≤ i) × (i < x + n)
unfolding numbers
number_bounds i x zero h = absurd (false≢true (sym (member_nil i) ∙ h))
number_bounds i x (suc n) h =
    member_cases i x (numbers (suc x) n) h
    (λ e. omega arith)
    (λ e m. let bounds = number_bounds i (suc x) n m in omega arith)

pub not_number_below : (i x n : ℕ) → i < x → member i (numbers x n) ≡ false
not_number_below i x n h = fails (member i (numbers x n)) (λ m. omega (arith, number_bounds i x n m))

pub distinct_numbers : (x n : ℕ) → Distinct (numbers x n)
unfolding numbers
distinct_numbers x zero = tt
distinct_numbers x (suc n) = (not_number_below x (suc x) n (omega arith), distinct_numbers (suc x) n)

-- TAGS PUT IN

-- the first p tags and the others make up the row
pub member_split : (v p : ℕ) (xs : List ℕ) → (member v (take p xs) || member v (drop p xs)) ≡ member v xs
member_split v p xs = sym (member_append v (take p xs) (drop p xs)) ∙ ap (member v) (take-append-drop p xs)

pub member_of_take : (v p : ℕ) (xs : List ℕ) → member v (take p xs) ≡ true → member v xs ≡ true
member_of_take v p xs m = sym (member_split v p xs) ∙ (rw m)

pub member_of_drop : (v p : ℕ) (xs : List ℕ) → member v (drop p xs) ≡ true → member v xs ≡ true
member_of_drop v p xs m = sym (member_split v p xs) ∙ (rw m (or-true (member v (take p xs))))

pub length_insert : (p : ℕ) (ns xs : List ℕ) → length (insert_at p ns xs) ≡ length ns + length xs
unfolding insert_at
length_insert p ns xs = simp (length-append, length-take, length-drop) (omega arith)

or_swap : (a b c : Bool) → (a || (b || c)) ≡ ((a || c) || b)
or_swap true b c = refl
or_swap false b c = or_comm b c

pub member_insert : (v p : ℕ) (ns xs : List ℕ) → member v (insert_at p ns xs) ≡ (member v xs || member v ns)
unfolding insert_at
member_insert v p ns xs =
    rw (member_append v (take p xs) (ns ++ drop p xs), member_append v ns (drop p xs), ← member_split v p xs)
    (or_swap (member v (take p xs)) (member v ns) (member v (drop p xs)))

pub distinct_insert : (p : ℕ) (ns xs : List ℕ) → Distinct ns → Distinct xs → Apart ns xs → Distinct (insert_at p ns xs)
unfolding insert_at
distinct_insert p ns xs h k apart =
    let whole : Distinct (take p xs ++ drop p xs) = rw take-append-drop k in
    let behind : Apart ns (drop p xs) = λ v m. or_right_false (member v (take p xs)) _ (member_split v p xs ∙ apart v m) in
    let old : Apart (take p xs) ns = λ v m. apart_sym ns xs apart v (member_of_take v p xs m) in
    let before : Apart (take p xs) (ns ++ drop p xs) = λ v m. rw (member_append v ns (drop p xs), old v m) (distinct_apart (take p xs) (drop p xs) whole v m) in
    let rest = distinct_append ns (drop p xs) h (distinct_right (take p xs) (drop p xs) whole) behind in
    distinct_append (take p xs) (ns ++ drop p xs) (distinct_left (take p xs) (drop p xs) whole) rest before

-- a tag of the first p keeps its place; another stands p and its place among the others behind
pub place_in_take : (t p : ℕ) (xs : List ℕ) → member t (take p xs) ≡ true → place t xs ≡ place t (take p xs)
place_in_take t p xs m = ap (place t) (sym (take-append-drop p xs)) ∙ place_append_in t (take p xs) (drop p xs) m

pub place_past_take : (t p : ℕ) (xs : List ℕ) → member t (take p xs) ≡ false → place t xs ≡ length (take p xs) + place t (drop p xs)
place_past_take t p xs m = ap (place t) (sym (take-append-drop p xs)) ∙ place_append_out t (take p xs) (drop p xs) m

-- the place of a tag of the row before: what it was, and the number of the new ones more behind them
pub place_before : (t p : ℕ) (ns xs : List ℕ) → member t xs ≡ true → place t xs < p → place t (insert_at p ns xs) ≡ place t xs
unfolding insert_at
place_before t p ns xs m l =
    by_test (member t (take p xs))
    (λ e. place_append_in t (take p xs) (ns ++ drop p xs) e ∙ sym (place_in_take t p xs e))
    (λ e. absurd (omega (arith, place_past_take t p xs e, length-take p xs, place_of_member t xs m)))

pub place_behind : (t p : ℕ) (ns xs : List ℕ) → member t xs ≡ true → member t ns ≡ false → p ≤ place t xs → place t (insert_at p ns xs) ≡ length ns + place t xs
unfolding insert_at
place_behind t p ns xs m new l =
    by_test (member t (take p xs))
    (λ e. absurd (omega (arith, place_in_take t p xs e, length-take p xs, place_of_member t (take p xs) e)))
    (λ e. omega (arith, place_past_take t p xs e, place_append_out t (take p xs) (ns ++ drop p xs) e, place_append_out t ns (drop p xs) new))

-- the place of a new one
pub place_new : (p : ℕ) (ns xs : List ℕ) (i d : ℕ) → Distinct ns → Apart ns xs → p ≤ length xs → i < length ns → place (get_or ns i d) (insert_at p ns xs) ≡ p + i
unfolding insert_at
place_new p ns xs i d h apart l inside =
    let t = get_or ns i d in
    let own : member t ns ≡ true = member_getD ns i d inside in
    let past : member t (take p xs) ≡ false = or_left_false _ (member t (drop p xs)) (member_split t p xs ∙ apart t own) in
    omega (arith, place_append_out t (take p xs) (ns ++ drop p xs) past, place_append_in t ns (drop p xs) own, place_getD ns i d h inside, length-take-le p xs l)

-- what stands at an index: before, among and behind the new ones
pub getD_before : (p : ℕ) (ns xs : List ℕ) (i d : ℕ) → p ≤ length xs → i < p → get_or (insert_at p ns xs) i d ≡ get_or xs i d
unfolding insert_at
getD_before p ns xs i d l h = get_or-append (take p xs) (ns ++ drop p xs) d i (rw (length-take-le p xs l) h) ∙ get_or-take p xs i d h

pub getD_new : (p : ℕ) (ns xs : List ℕ) (i d : ℕ) → p ≤ length xs → i < length ns → get_or (insert_at p ns xs) (p + i) d ≡ get_or ns i d
unfolding insert_at
getD_new p ns xs i d l h =
    let e : p + i ≡ length (take p xs) + i = rw (length-take-le p xs l) in
    ap (λ (k : ℕ). get_or (take p xs ++ (ns ++ drop p xs)) k d) e ∙ get_or-append-add (take p xs) (ns ++ drop p xs) i d ∙ get_or-append ns (drop p xs) d i h

pub getD_behind : (p : ℕ) (ns xs : List ℕ) (i d : ℕ) → p ≤ length xs → p ≤ i → get_or (insert_at p ns xs) (length ns + i) d ≡ get_or xs i d
unfolding insert_at
getD_behind p ns xs i d l h =
    let e : length ns + i ≡ length (take p xs) + (length ns + (i - p)) = rw (length-take-le p xs l) omega arith in
    ap (λ (k : ℕ). get_or (take p xs ++ (ns ++ drop p xs)) k d) e ∙ get_or-append-add (take p xs) (ns ++ drop p xs) (length ns + (i - p)) d
    ∙ get_or-append-add ns (drop p xs) (i - p) d ∙ get_or-drop p xs (i - p) d ∙ ap (λ (k : ℕ). get_or xs k d) (omega arith)

-- new tags in a part of a row
pub insert_left : (p : ℕ) (ns xs ys : List ℕ) → p ≤ length xs → insert_at p ns (xs ++ ys) ≡ insert_at p ns xs ++ ys
unfolding insert_at
insert_left p ns xs ys h = rw (take-append-le, drop-append-le) (simp append_assoc)

insert_past : (n : ℕ) (ns xs ys : List ℕ) → insert_at (length xs + n) ns (xs ++ ys) ≡ xs ++ insert_at n ns ys
unfolding insert_at
insert_past n ns xs ys = rw (take-append-add, drop-append-add, append_assoc)

pub insert_right : (p : ℕ) (ns xs ys : List ℕ) → length xs ≤ p → insert_at p ns (xs ++ ys) ≡ xs ++ insert_at (p - length xs) ns ys
insert_right p ns xs ys h =
    let e : p ≡ length xs + (p - length xs) = omega arith in
    ap (λ n. insert_at n ns (xs ++ ys)) e ∙ insert_past (p - length xs) ns xs ys

pub insert_none : (p : ℕ) (xs : List ℕ) → insert_at p [] xs ≡ xs
unfolding insert_at
insert_none p xs = take-append-drop p xs

-- tags put in behind a new one: all of them at once
pub insert_next : (p x : ℕ) (ns xs : List ℕ) → p ≤ length xs → insert_at (suc p) ns (insert_at p (x ∷ []) xs) ≡ insert_at p (x ∷ ns) xs
unfolding insert_at
insert_next zero x ns xs l = refl
insert_next (suc p) x ns [] l = absurd (not-suc-le-zero l)
insert_next (suc p) x ns (y ∷ xs) l = ap (λ (zs : List ℕ). y ∷ zs) (insert_next p x ns xs (le_of_suc-le-suc l))

-- EACH NUMBER ONCE

-- a row without the first that is v
pub without : (v : ℕ) → List ℕ → List ℕ
without v [] = []
without v (x ∷ xs) = cond (eqb v x) xs (x ∷ without v xs)

pub without_first : (x : ℕ) (xs : List ℕ) → without x (x ∷ xs) ≡ xs
unfolding without
without_first x xs = rw (eq-eqb x x refl)

pub without_other : (v x : ℕ) (xs : List ℕ) → eqb v x ≡ false → without v (x ∷ xs) ≡ x ∷ without v xs
unfolding without
without_other v x xs e = rw e

pub length_without : (v : ℕ) (xs : List ℕ) → member v xs ≡ true → length xs ≡ suc (length (without v xs))
length_without v [] h = absurd (false≢true (sym (member_nil v) ∙ h))
length_without v (x ∷ xs) h =
    member_cases v x xs h (λ e. rw (e, without_first x xs)) (λ e m. rw (without_other v x xs e) (ap suc (length_without v xs m)))

-- other tags are members as before
pub member_without : (u v : ℕ) (xs : List ℕ) → eqb u v ≡ false → member u (without v xs) ≡ member u xs
unfolding without
member_without u v [] d = refl
member_without u v (x ∷ xs) d = go (eqb v x) (eqb u x) refl refl (member_without u v xs d)
  where
    go : (t w : Bool) → eqb v x ≡ t → eqb u x ≡ w → member u (without v xs) ≡ member u xs → member u (without v (x ∷ xs)) ≡ member u (x ∷ xs)
    go true w e i rest = rw e (sym (member_other u x xs (rw (eqb-true v x e) at d)))
    go false true e i rest = rw (e, eqb-true u x i) (member_first x (without v xs) ∙ sym (member_first x xs))
    go false false e i rest = rw e (member_other u x (without v xs) i ∙ rest ∙ sym (member_other u x xs i))

gone : (v : ℕ) (xs : List ℕ) → Distinct xs → member v (without v xs) ≡ false
unfolding without
gone v [] h = member_nil v
gone v (x ∷ xs) h =
    by_test (eqb v x) (λ e. rw (e, eqb-true v x e) h.0) (λ e. rw e (member_other v x (without v xs) e ∙ gone v xs h.1))

distinct_without : (v : ℕ) (xs : List ℕ) → Distinct xs → Distinct (without v xs)
unfolding without
distinct_without v [] h = tt
distinct_without v (x ∷ xs) h =
    by_test (eqb v x) (λ e. rw e h.1)
    (λ e. rw e (member_without x v xs (ne_eqb x v (λ s. eqb-false v x e (sym s))) ∙ h.0, distinct_without v xs h.1))

-- distinct tags that all stand in a row are no more than it has
pub distinct_fit : (ys xs : List ℕ) → Distinct ys → Among ys xs → length ys ≤ length xs
distinct_fit [] xs h among = omega arith
distinct_fit (y ∷ ys) xs h among =
    let rest : Among ys (without y xs) = λ v m. member_without v y xs (differs v y ys m h.0) ∙ among v (member_later v y ys m) in
    omega (arith, distinct_fit ys (without y xs) h.1 rest, length_without y xs (among y (member_first y ys)))

-- and where they are as many, the row's tags are distinct too, and are these
pub distinct_fill : (xs ys : List ℕ) → Distinct ys → Among ys xs → length xs ≤ length ys → Distinct xs × Among xs ys
distinct_fill [] ys h among l = (tt, λ v m. absurd (false≢true (sym (member_nil v) ∙ m)))
distinct_fill (x ∷ xs) ys h among l =
    let spare : Among ys xs → ⊥ = λ a. omega (arith, distinct_fit ys xs h a) in
    let absent : member x ys ≡ false → ⊥ = λ e. spare (λ v m. sym (member_other v x xs (differs v x ys m e)) ∙ among v m) in
    let inside : member x ys ≡ true = by_test (member x ys) (λ e. e) (λ e. absurd (absent e)) in
    let once : member x xs ≡ false = fails (member x xs) (λ m. spare (λ v n. member_cases v x xs (among v n) (λ e. rw e m) (λ e o. o))) in
    let other : (v : ℕ) → member v (without x ys) ≡ true → eqb v x ≡ false = λ v m. differs v x (without x ys) m (gone x ys h) in
    let left : Among (without x ys) xs = λ v m. sym (member_other v x xs (other v m)) ∙ among v (sym (member_without v x ys (other v m)) ∙ m) in
    let rest = distinct_fill xs (without x ys) (distinct_without x ys h) left (omega (arith, length_without x ys inside)) in
    ((once, rest.0), λ v m. member_cases v x xs m (λ e. rw e inside) (λ e n. sym (member_without v x ys e) ∙ rest.1 v n))

-- the test that each number below n stands in a row
pub member_all_below : (n i : ℕ) (xs : List ℕ) → all_below n xs ≡ true → i < n → member i xs ≡ true
unfolding all_below
member_all_below zero i xs h l = absurd (not-suc-le-zero l)
member_all_below (suc n) i xs h l =
    by_test (eqb i n)
    (λ e. rw (eqb-true i n e) (and_left (member n xs) (all_below n xs) h))
    (λ e. let other = eqb-false i n e in member_all_below n i xs (and_right (member n xs) (all_below n xs) h) (omega arith))

pub all_below_of : (n : ℕ) (xs : List ℕ) → ((i : ℕ) → i < n → member i xs ≡ true) → all_below n xs ≡ true
unfolding all_below
all_below_of zero xs h = refl
all_below_of (suc n) xs h = and_both (h n (omega arith)) (all_below_of n xs (λ i l. h i (omega arith)))

pub all_below_numbers : (n : ℕ) → all_below n (numbers 0 n) ≡ true
all_below_numbers n = all_below_of n (numbers 0 n) (λ i l. member_numbers i 0 n (omega arith) (omega arith))

-- a row of n tags that holds each number below n holds each once and no other
pub distinct_all_below : (n : ℕ) (xs : List ℕ) → all_below n xs ≡ true → length xs ≡ n → Distinct xs × ((i : ℕ) → member i xs ≡ true → i < n)
distinct_all_below n xs h l =
    let all : Among (numbers 0 n) xs = λ v m. member_all_below n v xs h (omega (arith, number_bounds v 0 n m)) in
    let fill = distinct_fill xs (numbers 0 n) (distinct_numbers 0 n) all (omega (arith, length_numbers 0 n)) in
    (fill.0, λ i m. omega (arith, number_bounds i 0 n (fill.1 i m)))

-- and n distinct tags below n are all of them
pub all_below_distinct : (n : ℕ) (xs : List ℕ) → Distinct xs → ((i : ℕ) → member i xs ≡ true → i < n) → length xs ≡ n → all_below n xs ≡ true
all_below_distinct n xs h below l =
    let all : Among xs (numbers 0 n) = λ v m. member_numbers v 0 n (omega arith) (omega (arith, below v m)) in
    let fill = distinct_fill (numbers 0 n) xs h all (omega (arith, length_numbers 0 n)) in
    all_below_of n xs (λ i k. fill.1 i (member_numbers i 0 n (omega arith) (omega arith)))
