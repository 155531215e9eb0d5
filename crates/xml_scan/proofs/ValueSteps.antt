-- Values up to their quote: bytes and references are passed one after the other. Assumes nothing.
use mathlib.Core.Path.{◌≡◌, refl, sym, ◌∙◌}
use mathlib.Core.Bool.{true, false, ◌&&◌, not, and-false, and-true}
use mathlib.Core.List.{List, [], ◌∷◌}
use mathlib.Core.Option.{none, some}
use Prim.Native.Nat.{ℕ, zero, suc, pred, ◌+◌, ◌≤◌, ◌<◌}
use native.Mathlib.Numerals.{add-one}
use native.Mathlib.Omega.{arith}
use borrow.Author.Tests.{eq-eqb, ne_eqb}
use lib.Dec.{eqb}
use lib.ListN.{length, get_or, drop, length-drop, drop_of_length-le}
use lib.Seq.{drop-cons, drop-drop}
use Rattle.std.specs.Prelude.{Some, None}
use Rattle.lists.proofs.Tests.{by_test}
use Rattle.lists.proofs.Fronts.{starts_fits}
use Rattle.xml.specs.Bytes.{is_char, less_than, ampersand, lt_name, gt_name, amp_name, apos_name, quot_name}
use Rattle.xml.specs.Grammar.{reference_text}
use Rattle.xml.specs.Scan.{later, reference_length, value_step, value_length}
use Rattle.xml_scan.specs.Post.{found, nonzero, is_plain}
use Rattle.xml_scan.proofs.References.{refers, is_lt, is_gt, is_amp, is_apos, is_quot, is_no_reference, nonzero_none, nonzero_some}
use Rattle.xml_scan.proofs.Seeks.{Seeking, found_later}

-- bytes that are passed, and then the value behind them
value_passed : (q m i : ℕ) (cs : List ℕ) → found i (value_length q m cs) ≡ found (i + m) (value_length q 0 (drop m cs))
unfolding value_length found
value_passed q zero i cs = let e : i + 0 ≡ i = omega arith in rw e
value_passed q (suc m) i [] = refl
value_passed q (suc m) i (c ∷ cs) =
    let e : i + suc m ≡ i + 1 + m = omega arith in found_later i (value_length q m cs) ∙ rw e (value_passed q m (i + 1) cs)

module _ (q : ℕ) (text : List ℕ) (i : ℕ) where
  pub value_over : length text ≤ i → value_length q 0 (drop i text) ≡ none
  unfolding value_length
  value_over l = rw (drop_of_length-le text l)

  module _ (l : i < length text) where
    pub value_closed : get_or text i 0 ≡ q → value_length q 0 (drop i text) ≡ some 0
    unfolding value_length
    value_closed e = rw (drop-cons text i 0 l, eq-eqb _ _ e)

    pub value_broken : (k : ℕ) → (get_or text i 0 ≡ q → ⊥) → k ≡ value_step (drop i text) → k ≡ 0 → value_length q 0 (drop i text) ≡ none
    unfolding value_length
    value_broken k n s z = rw (drop-cons text i 0 l, ne_eqb _ _ n, sym (rw (drop-cons text i 0 l, z) at s))

    value_on : (k : ℕ) → (get_or text i 0 ≡ q → ⊥) → k ≡ value_step (drop i text) → (k ≡ 0 → ⊥) →
        value_length q 0 (drop i text) ≡ later (value_length q (pred k) (drop (i + 1) text))
    unfolding value_length
    value_on k n s z = rw (add-one i, drop-cons text i 0 l, ne_eqb _ _ n, sym (rw (drop-cons text i 0 l) at s), ne_eqb _ _ z)

-- a reference of some length, by what stands there
sized : (cs : List ℕ) (n : ℕ) → Some n ≡ nonzero (reference_length cs) → n ≤ length cs → reference_length cs ≤ length cs
sized cs n e l = let q = nonzero_some _ n e in omega (arith, q.0)

reference_within : (cs : List ℕ) → reference_length cs ≤ length cs
unfolding reference_text
reference_within cs =
    by_test (refers lt_name cs)
    (λ t. sized cs 4 (is_lt cs t) (starts_fits (reference_text lt_name) cs t))
    (λ lt. by_test (refers gt_name cs)
    (λ t. sized cs 4 (is_gt cs lt t) (starts_fits (reference_text gt_name) cs t))
    (λ gt. by_test (refers amp_name cs)
    (λ t. sized cs 5 (is_amp cs lt gt t) (starts_fits (reference_text amp_name) cs t))
    (λ amp. by_test (refers apos_name cs)
    (λ t. sized cs 6 (is_apos cs lt gt amp t) (starts_fits (reference_text apos_name) cs t))
    (λ apos. by_test (refers quot_name cs)
    (λ t. sized cs 6 (is_quot cs lt gt amp apos t) (starts_fits (reference_text quot_name) cs t))
    (λ quot. let z = nonzero_none _ (is_no_reference cs lt gt amp apos quot) in omega arith)))))

step_within : (cs : List ℕ) → value_step cs ≤ length cs
unfolding value_step
step_within [] = omega arith
step_within (c ∷ cs) =
    by_test (eqb c ampersand)
    (λ e. rw e (reference_within (c ∷ cs)))
    (λ e. rw e (by_test (is_char c && not (eqb c less_than)) (λ t. rw t (omega arith)) (λ t. rw t (omega arith))))

pub value_within : (k : ℕ) (text : List ℕ) (i : ℕ) → i < length text → k ≡ value_step (drop i text) → i + k ≤ length text
value_within k text i l s = omega (arith, step_within (drop i text), length-drop i text)

-- a byte or reference of a value is passed
pub seeking_past : {q : ℕ} {text : List ℕ} {from i : ℕ} (k : ℕ) → Seeking (value_length q 0) text from i → i < length text → (get_or text i 0 ≡ q → ⊥) →
    k ≡ value_step (drop i text) → (k ≡ 0 → ⊥) → Seeking (value_length q 0) text from (i + k)
seeking_past {q} {text} {from} {i} k h l n s z =
    let e : i + 1 + pred k ≡ i + k = omega arith in
    record {
      within = value_within k text i l s;
      rest =
          sym (rw (← e, ← drop-drop (pred k) (i + 1) text) (value_passed q (pred k) (i + 1) (drop (i + 1) text)))
          ∙ (sym (found_later i _) ∙ (rw (value_on q text i l k n s z) at h.rest));
    }

-- THE BYTE OR REFERENCE of a value at a place, by its first byte
module _ (text : List ℕ) (i : ℕ) (l : i < length text) where
  pub part_reference : get_or text i 0 ≡ ampersand → reference_length (drop i text) ≡ value_step (drop i text)
  unfolding value_step
  part_reference e = rw (drop-cons text i 0 l, eq-eqb _ _ e)

  pub part_found : {n : ℕ} → get_or text i 0 ≡ ampersand → Some n ≡ nonzero (reference_length (drop i text)) → (n ≡ value_step (drop i text)) × (n ≡ 0 → ⊥)
  part_found e f = let q = nonzero_some _ _ f in (q.0 ∙ part_reference e, q.1)

  pub part_missing : get_or text i 0 ≡ ampersand → None ≡ nonzero (reference_length (drop i text)) → 0 ≡ value_step (drop i text)
  part_missing e f = sym (nonzero_none _ f) ∙ part_reference e

  pub part_byte : (get_or text i 0 ≡ ampersand → ⊥) → is_plain (get_or text i 0) ≡ true → 1 ≡ value_step (drop i text)
  unfolding value_step is_plain
  part_byte n e = rw (drop-cons text i 0 l, ne_eqb _ _ n, e)

  pub part_none : (get_or text i 0 ≡ ampersand → ⊥) → is_plain (get_or text i 0) ≡ false → 0 ≡ value_step (drop i text)
  unfolding value_step is_plain
  part_none n e = rw (drop-cons text i 0 l, ne_eqb _ _ n, e)

-- whether a byte is plain, by the tests that the code makes
pub plain_less : (c : ℕ) → c ≡ less_than → false ≡ is_plain c
unfolding is_plain
plain_less c e = rw (eq-eqb _ _ e, and-false (is_char c))

pub plain_other : (c : ℕ) → (c ≡ less_than → ⊥) → is_char c ≡ is_plain c
unfolding is_plain
plain_other c n = rw (ne_eqb _ _ n) (sym (and-true (is_char c)))
