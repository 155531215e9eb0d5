-- An attribute by the places of its parts, and that it lies within the text. Assumes nothing.
use mathlib.Core.Path.{◌≡◌, refl, ap, ap₂, sym, ◌∙◌}
use mathlib.Core.Bool.{Bool, true, false, ◌||◌, not, cond, or-true}
use mathlib.Core.List.{List, [], ◌∷◌}
use mathlib.Core.Option.{Option, none, some}
use Prim.Native.Nat.{ℕ, suc, ◌+◌, ◌≤◌, ◌<◌}
use native.Mathlib.Omega.{arith}
use borrow.Author.Tests.{eqb-false, eq-eqb, ne_eqb}
use Rattle.std.specs.Prelude.{Some, None}
use lib.Dec.{eqb}
use lib.ListN.{length, get_or, drop, length-drop, get_or-eq_default}
use lib.Seq.{drop-drop, get_or-drop}
use Rattle.lists.proofs.Tests.{by_test, or_left_false, either_way}
use Rattle.lists.specs.Fronts.{starts_with}
use Rattle.xml.specs.Bytes.{is_space, equals}
use Rattle.xml.specs.Grammar.{is_quote}
use Rattle.xml.specs.Scan.{Sized, run, name_length, value_length, sized, attribute_at}
use Rattle.xml_scan.specs.Post.{found}
use Rattle.xml_scan.proofs.Seeks.{found_none, found_some}
use Rattle.xml_attributes.specs.Next.{attribute_found}
use Rattle.xml_attributes.specs.declared.AttributeRead.{AttributeRead}
use Rattle.xml_laws.proofs.Bounds.{value_within}

-- WHERE THE PARTS STAND, from the attribute's first byte: = and the quote
abbrev equals_at : List ℕ → ℕ
equals_at cs = name_length cs + run is_space (drop (name_length cs) cs)

abbrev quote_at : List ℕ → ℕ
quote_at cs = suc (equals_at cs) + run is_space (drop (suc (equals_at cs)) cs)

-- what makes that none stands there
abbrev lacks : List ℕ → Bool
lacks cs = eqb (name_length cs) 0 || (not (starts_with (equals ∷ []) (drop (equals_at cs) cs)) || not (is_quote (get_or cs (quote_at cs) 0)))

abbrev value_of : List ℕ → Option ℕ
value_of cs = value_length (get_or cs (quote_at cs) 0) 0 (drop (suc (quote_at cs)) cs)

attribute_by : (cs : List ℕ) → attribute_at cs ≡ cond (lacks cs) none (sized (name_length cs) (quote_at cs) (value_of cs))
unfolding attribute_at
attribute_by cs = refl

-- IT LIES WITHIN the text
pub record Fits (cs : List ℕ) (z : Sized) : Type 0 where
  pub named : 1 ≤ z.name
  pub longer : z.name ≤ z.whole
  pub within : z.whole ≤ length cs
  pub scanned : z.name ≡ name_length cs

sized_some : (n q : ℕ) (o : Option ℕ) (z : Sized) → sized n q o ≡ some z → (v : ℕ) × (o ≡ some v) × (z.name ≡ n) × (z.whole ≡ suc (suc (q + v)))
unfolding sized
sized_some n q none z e = absurd (let z : ◌≡◌ {A = ℕ} 0 1 = cc in omega arith)
sized_some n q (some v) z e =
    let f : record { name = n; whole = suc (suc (q + v)) } ≡ z = cc in
    (v, refl, sym (ap (λ y. y.name) f), sym (ap (λ y. y.whole) f))

fits : (cs : List ℕ) (z : Sized) (q v : ℕ) → (name_length cs ≡ 0 → ⊥) → name_length cs ≤ q → z.name ≡ name_length cs → z.whole ≡ suc (suc (q + v)) →
    v < length (drop (suc q) cs) → Fits cs z
fits cs z q v m l e f b = record { named = omega arith; longer = omega arith; within = omega (arith, length-drop (suc q) cs); scanned = e }

pub attribute_fits : (cs : List ℕ) (z : Sized) → attribute_at cs ≡ some z → Fits cs z
attribute_fits cs z e =
    by_test (lacks cs)
    (λ t. absurd (let y : ◌≡◌ {A = ℕ} 0 1 = cc (rw t at (sym (attribute_by cs) ∙ e)) in omega arith))
    (λ t.
    let s = sized_some (name_length cs) (quote_at cs) (value_of cs) z (rw t at (sym (attribute_by cs) ∙ e)) in
    fits cs z (quote_at cs) s.0 (eqb-false _ 0 (or_left_false (eqb (name_length cs) 0) _ t)) (omega arith) s.2 s.3
    (value_within (get_or cs (quote_at cs) 0) 0 (drop (suc (quote_at cs)) cs) s.0 s.1))

-- WHAT WAS FOUND
-- an attribute that was read, by its ends
abbrev pub read_to : (name end : ℕ) → AttributeRead
read_to m k = record { name = m; end = k }

pub nothing : (a : ℕ) (cs : List ℕ) → attribute_at cs ≡ none → None ≡ attribute_found a (attribute_at cs)
unfolding attribute_found
nothing a cs e = rw e

-- BY THE PLACES in the text where the name ends, = stands and the quote opens
pub from_place : (text : List ℕ) (at k i : ℕ) → i ≡ at + k → drop i text ≡ drop k (drop at text)
from_place text at k i e = rw (e, drop-drop k at text)

equals_place : (text : List ℕ) (at name equal : ℕ) → name ≡ at + name_length (drop at text) → equal ≡ name + run is_space (drop name text) →
    equal ≡ at + equals_at (drop at text)
equals_place text at name equal n e = omega (arith, ap (run is_space) (from_place text at (name_length (drop at text)) name n))

none_at : (cs : List ℕ) → lacks cs ≡ true → attribute_at cs ≡ none
none_at cs t = attribute_by cs ∙ rw t

-- no name
pub no_name : (text : List ℕ) (at name : ℕ) → name ≡ at + name_length (drop at text) → name ≡ at → attribute_at (drop at text) ≡ none
no_name text at name n e =
    let z : name_length (drop at text) ≡ 0 = omega arith in none_at (drop at text) (rw (eq-eqb _ 0 z))

module _ (text : List ℕ) (at name equal : ℕ) (n : name ≡ at + name_length (drop at text)) (m : name ≡ at → ⊥)
    (s : equal ≡ name + run is_space (drop name text)) where
  is_named : eqb (name_length (drop at text)) 0 ≡ false
  is_named = ne_eqb (name_length (drop at text)) 0 (λ z. m (omega arith))

  equals_text : drop equal text ≡ drop (equals_at (drop at text)) (drop at text)
  equals_text = from_place text at (equals_at (drop at text)) equal (equals_place text at name equal n s)

  -- no =
  pub no_equals : starts_with (equals ∷ []) (drop equal text) ≡ false → attribute_at (drop at text) ≡ none
  no_equals f = none_at (drop at text) (rw (is_named, (rw equals_text at f)))

  module _ (opens : ℕ) (o : opens ≡ equal + 1 + run is_space (drop (equal + 1) text)) where
    quote_place : opens ≡ at + quote_at (drop at text)
    quote_place =
        let e = equals_place text at name equal n s in
        let f : equal + 1 ≡ at + suc (equals_at (drop at text)) = omega arith in
        omega (arith, ap (run is_space) (from_place text at (suc (equals_at (drop at text))) (equal + 1) f))

    ends : (closes v : ℕ) → closes ≡ opens + 1 + v → closes + 1 ≡ at + suc (suc (quote_at (drop at text) + v))
    ends closes v e = let p = quote_place in omega arith

    quote_is : get_or (drop at text) (quote_at (drop at text)) 0 ≡ get_or text opens 0
    quote_is = get_or-drop at text (quote_at (drop at text)) 0 ∙ sym (ap (λ k. get_or text k 0) quote_place)

    -- no quote
    pub no_quote : is_quote (get_or text opens 0) ≡ false → attribute_at (drop at text) ≡ none
    no_quote f = none_at (drop at text) (rw (is_named, quote_is, f) (or-true (not (starts_with (equals ∷ []) (drop (equals_at (drop at text)) (drop at text))))))

    pub quote_over : length text ≤ opens → attribute_at (drop at text) ≡ none
    unfolding is_quote
    quote_over l = no_quote (rw (get_or-eq_default text 0 l))

    value_is : value_of (drop at text) ≡ value_length (get_or text opens 0) 0 (drop (opens + 1) text)
    value_is =
        let e = quote_place in
        let f : opens + 1 ≡ at + suc (quote_at (drop at text)) = omega arith in
        rw (quote_is, from_place text at (suc (quote_at (drop at text))) (opens + 1) f)

    -- no value
    pub no_value : None ≡ found (opens + 1) (value_length (get_or text opens 0) 0 (drop (opens + 1) text)) → attribute_at (drop at text) ≡ none
    unfolding sized
    no_value f = attribute_by (drop at text) ∙ rw (value_is ∙ found_none _ _ f) (either_way (lacks (drop at text)) none)

    -- a name, = and a value
    pub whole : (closes : ℕ) → starts_with (equals ∷ []) (drop equal text) ≡ true → is_quote (get_or text opens 0) ≡ true →
        Some closes ≡ found (opens + 1) (value_length (get_or text opens 0) 0 (drop (opens + 1) text)) →
        Some (read_to name (closes + 1)) ≡ attribute_found at (attribute_at (drop at text))
    unfolding sized attribute_found
    whole closes f q v =
        let w = found_some _ closes _ v in
        let lacks_none : lacks (drop at text) ≡ false =
        rw (is_named, (rw equals_text at f), quote_is, q) in
        let e : closes + 1 ≡ at + suc (suc (quote_at (drop at text) + w.0)) = ends closes w.0 w.2 in
        rw (attribute_by (drop at text), lacks_none, value_is ∙ w.1) (ap₂ (λ m k. Some (read_to m k)) n e)

-- a closing quote stands within the text
pub closes_within : (text : List ℕ) (a q closes : ℕ) → a ≤ length text → Some closes ≡ found a (value_length q 0 (drop a text)) → closes < length text
closes_within text a q closes l v =
    let w = found_some a closes _ v in omega (arith, value_within q 0 (drop a text) w.0 w.1, w.2, length-drop a text)
