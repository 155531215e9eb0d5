-- References: the scanner finds the five of the grammar, and only those. Assumes nothing.
use mathlib.Core.Path.{◌≡◌, refl, ap, sym, ◌∙◌}
use mathlib.Core.Bool.{true, false, true≢false}
use mathlib.Core.List.{List, ◌++◌}
use Prim.Native.Nat.{ℕ}
use lib.Dec.{eqb}
use lib.ListN.{length, drop}
use Rattle.lists.specs.Lists.{same, first}
use Rattle.lists.proofs.Tests.{by_test}
use Rattle.xml.specs.Bytes.{lt_name, gt_name, amp_name, apos_name, quot_name}
use Rattle.xml.specs.Grammar.{is_reference, reference_text}
use Rattle.xml.specs.Scan.{reference_length}
use Rattle.lists.proofs.Same.{same_equal}
use Rattle.lists.specs.Fronts.{starts_with}
use Rattle.lists.proofs.Fronts.{rest_of}

-- what holds of the five names holds of every reference
by_reference : (P : List ℕ → Type 0) (n : List ℕ) → P lt_name → P gt_name → P amp_name → P apos_name → P quot_name → is_reference n ≡ true → P n
unfolding is_reference
by_reference P n a b c d e h =
    by_test (same n lt_name) (λ t. rw (same_equal n lt_name t) a)
    (λ f₁. by_test (same n gt_name) (λ t. rw (same_equal n gt_name t) b)
    (λ f₂. by_test (same n amp_name) (λ t. rw (same_equal n amp_name t) c)
    (λ f₃. by_test (same n apos_name) (λ t. rw (same_equal n apos_name t) d)
    (λ f₄. rw (same_equal n quot_name (rw (f₁, f₂, f₃, f₄) at h)) e))))

pub reference_found : (n more : List ℕ) → is_reference n ≡ true → reference_length (reference_text n ++ more) ≡ length (reference_text n)
unfolding reference_length reference_text starts_with first
reference_found n more =
    by_reference (λ n. reference_length (reference_text n ++ more) ≡ length (reference_text n)) n refl refl refl refl refl

pub record ReferenceThere (cs : List ℕ) : Type 0 where
  pub name : List ℕ
  pub more : List ℕ
  pub right : is_reference name ≡ true
  pub written : reference_text name ++ more ≡ cs
  pub size : length (reference_text name) ≡ reference_length cs

-- a reference that begins a text
starts : (n cs : List ℕ) → is_reference n ≡ true → starts_with (reference_text n) cs ≡ true → ReferenceThere cs
starts n cs h e =
    let more : List ℕ = drop (length (reference_text n)) cs in
    let split : cs ≡ reference_text n ++ more = rest_of (reference_text n) cs e in
    record { name = n; more = more; right = h; written = sym split; size = sym (ap reference_length split ∙ reference_found n more h) }

pub reference_written : (cs : List ℕ) → eqb (reference_length cs) 0 ≡ false → ReferenceThere cs
unfolding reference_length is_reference same first
reference_written cs h =
    by_test (starts_with (reference_text lt_name) cs) (starts lt_name cs refl)
    (λ f₁. by_test (starts_with (reference_text gt_name) cs) (starts gt_name cs refl)
    (λ f₂. by_test (starts_with (reference_text amp_name) cs) (starts amp_name cs refl)
    (λ f₃. by_test (starts_with (reference_text apos_name) cs) (starts apos_name cs refl)
    (λ f₄. by_test (starts_with (reference_text quot_name) cs) (starts quot_name cs refl)
    (λ f₅. absurd (true≢false (rw (f₁, f₂, f₃, f₄, f₅) at h)))))))
