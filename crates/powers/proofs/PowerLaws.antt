-- Tables of powers (src/lib.rt): an entry is its power, and how many there are decides which powers are at most 2^32. Assumes
-- nothing.
use mathlib.Core.Path.{◌≡◌, refl, ap, sym, ◌∙◌}
use mathlib.Core.Bool.{Bool, true, ◌&&◌, cond}
use mathlib.Core.List.{List, []}
use Prim.Native.Nat.{ℕ, suc, pred, ◌+◌, ◌*◌, ◌-◌, ◌^◌, ◌≤◌, ◌<◌}
use native.Mathlib.Nat.{mul-le-mul, pow-le-pow_right, not-suc-le-zero}
use native.Mathlib.Numerals.{add-one}
use native.Mathlib.Omega.{arith}
use borrow.Author.Tests.{eqb-true, ltb-true, ltb-false, leb-true, le-leb, lt-leb}
use lib.Dec.{eqb, ltb, leb}
use lib.ListN.{length, get_or, set}
use Rattle.std.specs.Prelude.{Option, Some}
use Rattle.std.proofs.lemmas.Option.{cond_some}
use Rattle.lists.proofs.Tests.{by_test, and_left, and_right}
use Rattle.store_types.specs.Limits.{label_limit}
use Rattle.tree.specs.Book.{base, power_width}
use Rattle.calls.specs.Store.{labels_fit, power_fits}
use Rattle.powers.specs.Tables.{Known, shared_degree, table_length, powers, table}
use Rattle.powers.proofs.TableLaws.{powers_low, table_next, table_more}

-- AN ENTRY is its power
pub powers_entry : (v b : ℕ) (t : List ℕ) → t ≡ powers v b (length t) → (k : ℕ) → k < length t → get_or t k 0 ≡ v * b ^ k
powers_entry v b t e k p = ap (λ (u : List ℕ). get_or u k 0) e ∙ powers_low v b (length t) k p

-- A STEP of the table by height: the entry, or b times the power below where the table has ended
module _ (v b : ℕ) (t : List ℕ) (e : t ≡ powers v b (length t)) (h : ℕ) where
  either : cond (ltb (h + 1) (length t)) (get_or t (h + 1) 0) (get_or (table v b h) h 0 * b) ≡ get_or (table v b h) h 0 * b
  either =
      by_test (ltb (h + 1) (length t))
      (λ yes. rw (yes, table_next v b h, add-one h) (powers_entry v b t e (suc h) (rw (add-one h) at (ltb-true (h + 1) (length t) yes))))
      (λ no. rw no)

  pub fill_more : suc h < table_length →
      set (table v b h) (h + 1) (cond (ltb (h + 1) (length t)) (get_or t (h + 1) 0) (get_or (table v b h) h 0 * b)) ≡ table v b (h + 1)
  fill_more p = rw either (table_more v b h p)

-- HOW MANY there are decides which powers fit: the last does, the next would not, and they rise
unfoldable pub count_right : (b count : ℕ) → Bool
count_right b count = leb (b ^ pred count) label_limit && ltb label_limit (b ^ count)

count_decides : (b count : ℕ) → 1 ≤ b → count_right b count ≡ true → (h : ℕ) → ltb h count ≡ leb (b ^ h) label_limit
unfolding count_right
count_decides b count some e h =
    let fits = leb (b ^ pred count) label_limit in
    let over = ltb label_limit (b ^ count) in
    let last = leb-true (b ^ pred count) label_limit (and_left fits over e) in
    let next = ltb-true label_limit (b ^ count) (and_right fits over e) in
    by_test (ltb h count)
    (λ yes.
    let below : h ≤ pred count = omega (arith, ltb-true h count yes) in
    rw (yes, le-leb (b ^ h) label_limit (omega (arith, last, pow-le-pow_right {n = b} some below))))
    (λ no.
    rw (no, lt-leb (b ^ h) label_limit (omega (arith, next, pow-le-pow_right {n = b} some (ltb-false h count no)))))

-- A PAIR of one degree d has the base d·d − 1, and so many powers fit as those of that base
pub pair_base : (s r : ℕ) {o : Option ℕ} {d : ℕ} → o ≡ shared_degree s r → o ≡ Some d → s * r - 1 ≡ d * d - 1
pair_base s r {o} {d} e is =
    let same = cond_some (eqb s r) s d (sym e ∙ is) in rw (← eqb-true s r same.0, same.1)

pub pair_fits : (s r : ℕ) {o : Option ℕ} {d : ℕ} → o ≡ shared_degree s r → o ≡ Some d → 2 ≤ d → {n : ℕ} → d ≡ n → (count : ℕ) →
    count_right (n * n - 1) count ≡ true → (h : ℕ) → ltb h count ≡ power_fits s r h
unfolding labels_fit power_width base
pair_fits s r {d = d} e is some same count right h =
    count_decides (d * d - 1) count (omega (arith, mul-le-mul some some)) (rw same right) h ∙ rw (pair_base s r e is)

-- A TABLE of a degree has the powers of its base, as many as fit; and one with no power is right for each
pub of_table : {o : Option ℕ} {n : ℕ} → o ≡ Some n → 2 ≤ n → (t : List ℕ) → count_right (n * n - 1) (length t) ≡ true →
    t ≡ powers 1 (n * n - 1) (length t) → Known o t
of_table {o} {n} is some t count right =
    record {
      powers_are = λ v b asked. let e = asked n is some in rw (e.0, e.1) right;
      count_is = λ s r e _ h. pair_fits s r e is some refl (length t) count h;
    }

pub no_table : {o : Option ℕ} → Known o []
unfolding powers
no_table = record { powers_are = λ v b asked. refl; count_is = λ s r e some h. absurd (not-suc-le-zero some) }
