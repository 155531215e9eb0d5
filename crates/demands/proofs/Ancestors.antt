-- Labels by their ancestors' quotients: no gaps and limits below a height, of a list and of the parts in which no ancestor of
-- that height is shared. Assumes nothing.
use mathlib.Core.Path.{◌≡◌, refl, ap, sym, ◌∙◌}
use mathlib.Core.Bool.{Bool, true, false, ◌||◌, false≢true}
use mathlib.Core.List.{List, [], ◌∷◌, ◌++◌}
use Prim.Native.Nat.{ℕ, suc, ◌+◌, ◌*◌, ◌/◌, ◌%◌, ◌^◌, ◌≤◌, ◌<◌}
use native.Mathlib.Nat.{mul-mod_left, le-div_iff_mul-le, mod-add-div', lt_of_not-le, le_of_suc-le-suc}
use native.Mathlib.Omega.{arith}
use borrow.Author.Tests.{eq-eqb, ne_eqb, eqb-true, eqb-false}
use lib.Dec.{eqb}
use lib.ListN.{length}
use Rattle.lists.specs.Lists.{how_many}
use Rattle.lists.proofs.Tests.{by_test}
use Rattle.lists.proofs.HowMany.{how_many_append}
use Rattle.tree.specs.Row.{member}
use Rattle.tree_laws.proofs.Rows.{member_nil, member_first, member_later, member_append}
use Rattle.demands.specs.Sound.{count_under}
use Rattle.demands.proofs.Quotients.{quotient_up, same_above, sibling_parent}

abbrev pub In : ℕ → List ℕ → Type 0
In l ls = member l ls ≡ true

-- MEMBERS of two lists in a row
pub in_left : (l : ℕ) (xs ys : List ℕ) → In l xs → In l (xs ++ ys)
in_left l xs ys m = rw (member_append l xs ys, m)

pub in_right : (l : ℕ) (xs ys : List ℕ) → In l ys → In l (xs ++ ys)
in_right l xs ys m = rw (member_append l xs ys, m) (go (member l xs))
  where
    go : (t : Bool) → (t || true) ≡ true
    go true = refl
    go false = refl

pub in_either : {G : Type 0} (l : ℕ) (xs ys : List ℕ) → In l (xs ++ ys) → (In l xs → G) → (In l ys → G) → G
in_either l xs ys m left right =
    by_test (member l xs) left (λ e. right (rw (member_append l xs ys, e) at m))

pub in_none : {G : Type 0} (l : ℕ) → In l [] → G
in_none l m = absurd (false≢true (sym (member_nil l) ∙ m))

-- COUNTS
pub count_append : (b j q : ℕ) (xs ys : List ℕ) → count_under b j q (xs ++ ys) ≡ count_under b j q xs + count_under b j q ys
count_append b j q = how_many_append (λ l. eqb (l / b ^ j) q)

pub count_none : (b j q : ℕ) (xs : List ℕ) → ((m : ℕ) → In m xs → m / b ^ j ≡ q → ⊥) → count_under b j q xs ≡ 0
unfolding how_many
count_none b j q [] other = refl
count_none b j q (x ∷ xs) other =
    rw (ne_eqb (x / b ^ j) q (other x (member_first x xs))) (omega (arith, count_none b j q xs (λ m i. other m (member_later m x xs i))))

pub count_all : (b j q : ℕ) (xs : List ℕ) → ((m : ℕ) → In m xs → m / b ^ j ≡ q) → count_under b j q xs ≡ length xs
unfolding how_many
count_all b j q [] same = refl
count_all b j q (x ∷ xs) same =
    rw (eq-eqb (x / b ^ j) q (same x (member_first x xs))) (omega (arith, count_all b j q xs (λ m i. same m (member_later m x xs i))))

module _ (s r b : ℕ) (pos : 1 ≤ b) where
  -- BELOW A HEIGHT j: an ancestor of a height below j that is not its parent's first child has its left sibling; and one of a
  -- height from 1 to j keeps its limits
  pub record Inner (j : ℕ) (ls : List ℕ) : Type 0 where
    pub sibling : (l h : ℕ) → In l ls → h < j → (l / b ^ h % b ≡ 0 → ⊥) → (m : ℕ) × In m ls × (suc (m / b ^ h) ≡ l / b ^ h)
    pub limits : (l h : ℕ) → In l ls → 1 ≤ h → h ≤ j →
        (r ^ h ≤ count_under b h (l / b ^ h) ls) × (count_under b h (l / b ^ h) ls < s * r ^ h)

  -- AT HEIGHT j, from the quotient c on: the siblings stand without gaps
  pub record Top (j c : ℕ) (ls : List ℕ) : Type 0 where
    pub from : (l : ℕ) → In l ls → c ≤ l / b ^ j
    pub next : (l : ℕ) → In l ls → c < l / b ^ j → (m : ℕ) × In m ls × (suc (m / b ^ j) ≡ l / b ^ j)

  -- no ancestor of height j is shared
  unfoldable pub Parted : (j : ℕ) → (xs ys : List ℕ) → Type 0
  Parted j xs ys = (l m : ℕ) → In l xs → In m ys → m / b ^ j ≡ l / b ^ j → ⊥

  pub parted_sym : (j : ℕ) (xs ys : List ℕ) → Parted j xs ys → Parted j ys xs
  unfolding Parted
  parted_sym j xs ys p l m i k e = p m l k i (sym e)

  -- what is counted under an ancestor of one part is counted there
  own_count : (j h l : ℕ) (xs ys : List ℕ) → Parted j xs ys → h ≤ j → In l xs → count_under b h (l / b ^ h) ys ≡ 0
  unfolding Parted
  own_count j h l xs ys p le i = count_none b h (l / b ^ h) ys (λ m k e. p l m i k (same_above b pos h j l m le e))

  -- the left sibling has the same ancestor of height j
  sibling_above : (j h l m : ℕ) → h < j → (l / b ^ h % b ≡ 0 → ⊥) → suc (m / b ^ h) ≡ l / b ^ h → m / b ^ j ≡ l / b ^ j
  sibling_above j h l m le some e =
      same_above b pos (suc h) j l m le
      (quotient_up b pos h m ∙ (sibling_parent b pos (m / b ^ h) (l / b ^ h) e some ∙ sym (quotient_up b pos h l)))

  pub inner_left : (j : ℕ) (xs ys : List ℕ) → Parted j xs ys → Inner j (xs ++ ys) → Inner j xs
  unfolding Parted
  inner_left j xs ys p h =
      record {
        sibling = λ l k i le some. let (m, there, e) = h.sibling l k (in_left l xs ys i) le some in
            in_either m xs ys there (λ here. (m, here, e)) (λ other. absurd (p l m i other (sibling_above j k l m le some e)));
        limits = λ l k i one le. let q = h.limits l k (in_left l xs ys i) one le in
            let same = count_append b k (l / b ^ k) xs ys in
            let none = own_count j k l xs ys p le i in
            (omega (arith, q.0), omega (arith, q.1));
      }

  pub inner_right : (j : ℕ) (xs ys : List ℕ) → Parted j xs ys → Inner j (xs ++ ys) → Inner j ys
  unfolding Parted
  inner_right j xs ys p h =
      record {
        sibling = λ l k i le some. let (m, there, e) = h.sibling l k (in_right l xs ys i) le some in
            in_either m xs ys there (λ other. absurd (p m l other i (sym (sibling_above j k l m le some e)))) (λ here. (m, here, e));
        limits = λ l k i one le. let q = h.limits l k (in_right l xs ys i) one le in
            let same = count_append b k (l / b ^ k) xs ys in
            let none = own_count j k l ys xs (parted_sym j xs ys p) le i in
            (omega (arith, q.0), omega (arith, q.1));
      }

  pub inner_join : (j : ℕ) (xs ys : List ℕ) → Parted j xs ys → Inner j xs → Inner j ys → Inner j (xs ++ ys)
  inner_join j xs ys p f g =
      record {
        sibling = λ l k i le some.
            in_either l xs ys i
            (λ here. let (m, there, e) = f.sibling l k here le some in (m, in_left m xs ys there, e))
            (λ here. let (m, there, e) = g.sibling l k here le some in (m, in_right m xs ys there, e));
        limits = λ l k i one le.
            let same = count_append b k (l / b ^ k) xs ys in
            in_either l xs ys i
            (λ here. let q = f.limits l k here one le in
            let none = own_count j k l xs ys p le here in
            (omega (arith, q.0), omega (arith, q.1)))
            (λ here. let q = g.limits l k here one le in
            let none = own_count j k l ys xs (parted_sym j xs ys p) le here in
            (omega (arith, q.0), omega (arith, q.1)));
      }

  -- a lower height asks less
  pub inner_lower : (j : ℕ) (ls : List ℕ) → Inner (suc j) ls → Inner j ls
  inner_lower j ls h =
      record {
        sibling = λ l k i le some. h.sibling l k i (omega arith) some;
        limits = λ l k i one le. h.limits l k i one (omega arith);
      }

  -- UNDER ONE ANCESTOR of height j + 1, with quotient c
  module _ (j c : ℕ) (ls : List ℕ) (under : (l : ℕ) → In l ls → l / b ^ suc j ≡ c) where
    -- its children stand without gaps just where no ancestor of height j lacks its left sibling
    pub top_under : Inner (suc j) ls → Top j (c * b) ls
    top_under h =
        record {
          from = λ l i. (le-div_iff_mul-le pos).0 (omega (arith, under l i, quotient_up b pos j l));
          next = λ l i le. h.sibling l j i (omega arith) (λ z.
              let up = under l i in
              let step = quotient_up b pos j l in
              let parents : l / b ^ j / b * b ≡ c * b = ap (λ (v : ℕ). v * b) (sym step ∙ up) in
              omega (arith, mod-add-div' (l / b ^ j) b));
        }

    pub inner_under : Inner j ls → Top j (c * b) ls → r ^ suc j ≤ length ls → length ls < s * r ^ suc j → Inner (suc j) ls
    inner_under h t least most =
        record {
          sibling = λ l k i le some.
              by_test (eqb k j)
              (λ e. let same = eqb-true k j e in
              let further : c * b < l / b ^ j = lt_of_not-le λ (small : l / b ^ j ≤ c * b).
              let whole : l / b ^ j ≡ c * b = omega (arith, t.from l i) in
              some (rw (same, whole) (mul-mod_left c b)) in
              rw same (t.next l i further))
              (λ e. h.sibling l k i (let other = eqb-false k j e in lt_of_not-le λ high. other (omega arith)) some);
          limits = λ l k i one le.
              by_test (eqb k (suc j))
              (λ e. let same = eqb-true k (suc j) e in
              let all = count_all b (suc j) (l / b ^ suc j) ls (λ m n. under m n ∙ sym (under l i)) in
              rw same (omega (arith, all), omega (arith, all)))
              (λ e. h.limits l k i one (let other = eqb-false k (suc j) e in le_of_suc-le-suc (lt_of_not-le λ high. other (omega arith))));
        }
