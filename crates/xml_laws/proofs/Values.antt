-- Values of attributes: the scanner finds the bytes and references before the closing quote as the grammar writes them, and
-- what it finds is such a value. Assumes nothing.
use mathlib.Core.Path.{◌≡◌, refl, ap, sym, ◌∙◌}
use mathlib.Core.Bool.{Bool, true, false, ◌&&◌, not}
use mathlib.Core.List.{List, [], ◌∷◌, ◌++◌, append_assoc}
use mathlib.Core.Option.{Option, none, some, none-ne-some, some-injective}
use Prim.Native.Nat.{ℕ, zero, suc, ◌+◌, ◌≤◌, ◌<◌}
use native.Mathlib.Nat.{zero-add, suc-add, not-suc-le-zero, le_refl}
use native.Mathlib.Omega.{arith}
use borrow.Author.Tests.{eqb-true, eq-eqb, not-true}
use lib.Dec.{eqb, eqb-suc-zero}
use lib.ListN.{length, length-append}
use Rattle.lists.proofs.Tests.{by_test, and_left, and_right, and_both}
use Rattle.xml.specs.Bytes.{is_char, less_than, ampersand, semicolon}
use Rattle.xml.specs.Grammar.{Value, no_more, byte, named, value_text, is_value, is_quote, is_reference, reference_text}
use Rattle.xml.specs.Scan.{later, value_step, value_length, reference_length}
use Rattle.xml_laws.proofs.Strings.{on_quotes}
use Rattle.xml_laws.proofs.References.{reference_found, ReferenceThere, reference_written}

-- so many bytes further
unfoldable pub later_by : (bytes : ℕ) → Option ℕ → Option ℕ
later_by k none = none
later_by k (some n) = some (k + n)

later_zero : (o : Option ℕ) → o ≡ later_by 0 o
unfolding later_by
later_zero none = refl
later_zero (some n) = rw zero-add

later_suc : (k : ℕ) (o : Option ℕ) → later (later_by k o) ≡ later_by (suc k) o
unfolding later later_by
later_suc k none = refl
later_suc k (some n) = rw suc-add

later_one : (o : Option ℕ) → later o ≡ later_by 1 o
later_one o = ap later (later_zero o) ∙ later_suc 0 o

-- what is found so many bytes further is found
before : (k : ℕ) (o : Option ℕ) (m : ℕ) → later_by k o ≡ some m → (n : ℕ) × (o ≡ some n)
unfolding later_by
before k none m e = absurd (none-ne-some m e)
before k (some n) m e = (n, refl)

-- THE SCANNER OF VALUES. Bytes that are to pass
pub value_skip : (q : ℕ) (xs cs : List ℕ) → value_length q (length xs) (xs ++ cs) ≡ later_by (length xs) (value_length q 0 cs)
unfolding value_length
value_skip q [] cs = later_zero (value_length q 0 cs)
value_skip q (x ∷ xs) cs = ap later (value_skip q xs cs) ∙ later_suc (length xs) (value_length q 0 cs)

-- the closing quote
value_ends : (q : ℕ) (cs : List ℕ) → value_length q 0 (q ∷ cs) ≡ some 0
unfolding value_length
value_ends q cs = rw (eq-eqb q q refl)

-- a byte that is none of < & and the quote
abbrev value_byte : (quote c : ℕ) → Bool
value_byte q c = is_char c && (not (eqb c less_than) && (not (eqb c ampersand) && not (eqb c q)))

value_on_byte : (q c : ℕ) (cs : List ℕ) → value_byte q c ≡ true → value_length q 0 (c ∷ cs) ≡ later_by 1 (value_length q 0 cs)
unfolding value_length value_step
value_on_byte q c cs h =
    let rest : (not (eqb c less_than) && (not (eqb c ampersand) && not (eqb c q))) ≡ true = and_right (is_char c) _ h in
    let last : (not (eqb c ampersand) && not (eqb c q)) ≡ true = and_right (not (eqb c less_than)) _ rest in
    rw (
      not-true (eqb c q) (and_right (not (eqb c ampersand)) _ last),
      not-true (eqb c ampersand) (and_left (not (eqb c ampersand)) _ last),
      and_left (is_char c) _ h,
      not-true (eqb c less_than) (and_left (not (eqb c less_than)) _ rest),
    )
    (later_one (value_length q 0 cs))

-- a reference, which no quote begins
value_on_reference : (q : ℕ) (n cs : List ℕ) → is_quote q ≡ true → is_reference n ≡ true →
    value_length q 0 (reference_text n ++ cs) ≡ later_by (length (reference_text n)) (value_length q 0 cs)
unfolding value_length value_step reference_text
value_on_reference q n cs s h =
    let behind : List ℕ = n ++ (semicolon ∷ []) in
    rw (
      on_quotes (λ q. eqb ampersand q) false q refl refl s,
      reference_found n cs h,
      eqb-suc-zero (length behind),
    )
    (ap later (value_skip q behind cs) ∙ later_suc (length behind) (value_length q 0 cs))

-- A VALUE THAT IS WRITTEN SO IS FOUND
pub value_found : (q : ℕ) (v : Value) (more : List ℕ) → is_quote q ≡ true → is_value q v ≡ true →
    value_length q 0 (value_text v ++ (q ∷ more)) ≡ some (length (value_text v))
unfolding value_text is_value later_by
value_found q no_more more s h = value_ends q more
value_found q (byte c v) more s h =
    rw (
      value_on_byte q c (value_text v ++ (q ∷ more)) (and_left (value_byte q c) _ h),
      value_found q v more s (and_right (value_byte q c) _ h),
    )
    (ap some (omega arith))
value_found q (named n v) more s h =
    rw (
      append_assoc (reference_text n) (value_text v) (q ∷ more),
      value_on_reference q n (value_text v ++ (q ∷ more)) s (and_left (is_reference n) _ h),
      value_found q v more s (and_right (is_reference n) _ h),
      length-append (reference_text n) (value_text v),
    )

-- WHAT IS FOUND IS WRITTEN SO
pub record ValueThere (q : ℕ) (cs : List ℕ) (m : ℕ) : Type 0 where
  pub value : Value
  pub more : List ℕ
  pub right : is_value q value ≡ true
  pub written : value_text value ++ (q ∷ more) ≡ cs
  pub size : length (value_text value) ≡ m

-- its size is what the scanner says
value_there : (q : ℕ) (v : Value) (more cs : List ℕ) (m : ℕ) → is_quote q ≡ true → is_value q v ≡ true → value_text v ++ (q ∷ more) ≡ cs → value_length q 0 cs ≡ some m → ValueThere q cs m
value_there q v more cs m s right written e =
    record {
      value = v;
      more = more;
      right = right;
      written = written;
      size = some-injective (length (value_text v)) m (sym (value_found q v more s right) ∙ rw written e);
    }

-- a value with one more piece before it, which the scanner passes, if what stands behind the piece is a value
with_piece : (piece : Value → Value) (q : ℕ) (p rest cs : List ℕ) (m : ℕ) {room : ℕ} →
    ((v : Value) → value_text (piece v) ≡ p ++ value_text v) → ((v : Value) → is_value q v ≡ true → is_value q (piece v) ≡ true) →
    p ++ rest ≡ cs → 0 < length p → value_length q 0 (p ++ rest) ≡ later_by (length p) (value_length q 0 rest) →
    is_quote q ≡ true → length cs ≤ suc room → value_length q 0 cs ≡ some m →
    ((n : ℕ) → length rest ≤ room → value_length q 0 rest ≡ some n → ValueThere q rest n) → ValueThere q cs m
with_piece piece q p rest cs m text right written some_bytes law s l e behind =
    let b = before (length p) (value_length q 0 rest) m (sym law ∙ rw written e) in
    let on = behind b.0 (omega (arith, length-append p rest, ap length written)) b.1 in
    value_there
    q
    (piece on.value)
    on.more
    cs
    m
    s
    (right on.value on.right)
    (rw (text, append_assoc p (value_text on.value) (q ∷ on.more), on.written) written)
    e

-- in a text of at most so many bytes
written_in : (room q : ℕ) (cs : List ℕ) (m : ℕ) → is_quote q ≡ true → length cs ≤ room → value_length q 0 cs ≡ some m → ValueThere q cs m
unfolding value_length value_step value_text is_value reference_text
written_in zero q [] m s l e = absurd (none-ne-some m e)
written_in zero q (c ∷ cs) m s l e = absurd (not-suc-le-zero l)
written_in (suc k) q [] m s l e = absurd (none-ne-some m e)
written_in (suc k) q (c ∷ cs) m s l e =
    by_test (eqb c q) (λ t. value_there q no_more cs (c ∷ cs) m s refl (rw (eqb-true c q t)) e)
    (λ f₁. by_test (eqb c ampersand)
    (λ t. by_test (eqb (reference_length (c ∷ cs)) 0) (λ z. absurd (none-ne-some m (rw (f₁, t, z) at e)))
    (λ z. let r : ReferenceThere (c ∷ cs) = reference_written (c ∷ cs) z in
    with_piece (named r.name) q (reference_text r.name) r.more (c ∷ cs) m (λ v. refl) (λ v. and_both r.right)
    r.written (omega arith) (value_on_reference q r.name r.more s r.right) s l e
    (λ n. written_in k q r.more n s)))
    (λ f₂. by_test (is_char c && not (eqb c less_than))
    (λ t. let right : value_byte q c ≡ true = rw (f₁, f₂, and_left (is_char c) _ t, and_right (is_char c) _ t) in
    with_piece (byte c) q (c ∷ []) cs (c ∷ cs) m (λ v. refl) (λ v. and_both right)
    refl (omega arith) (value_on_byte q c cs right) s l e
    (λ n. written_in k q cs n s))
    (λ f₃. absurd (none-ne-some m (rw (f₁, f₂, f₃) at e)))))

pub value_written : (q : ℕ) (cs : List ℕ) (m : ℕ) → is_quote q ≡ true → value_length q 0 cs ≡ some m → ValueThere q cs m
value_written q cs m s = written_in (length cs) q cs m s (le_refl (length cs))
