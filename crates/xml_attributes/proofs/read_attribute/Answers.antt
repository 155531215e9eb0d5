-- `xml_attributes::read_attribute` meets its contract: by the places of its parts, one after the other. Assumes nothing.
use mathlib.Core.Path.{◌≡◌, sym, ◌∙◌}
use mathlib.Core.List.{List, [], ◌∷◌}
use Prim.Native.Nat.{ℕ, ◌+◌, ◌≤◌}
use native.Mathlib.Omega.{arith}
use lib.ListN.{length, drop}
use Rattle.xml.specs.Bytes.{is_space, equals}
use Rattle.xml.specs.Scan.{run, name_length}
use Rattle.xml_laws.proofs.Bounds.{spaces_within, name_end_within, stands_within}
use Rattle.xml_attributes.proofs.AttributeSteps.{nothing, no_name, no_equals, no_quote, quote_over, no_value, whole, closes_within}
use Rattle.xml_attributes.proofs.read_attribute.Goals as goal

-- the name ends within the text, and = is looked for there
named_within : (text : List ℕ) (at : ℕ) {name : ℕ} → name ≡ at + name_length (drop at text) → at ≤ length text → name ≤ length text
named_within text at n l = omega (arith, n, name_end_within text at l)

equals_within : (text : List ℕ) (at name : ℕ) {equal : ℕ} → name ≡ at + name_length (drop at text) → at ≤ length text →
    equal ≡ name + run is_space (drop name text) → equal ≤ length text
equals_within text at name n l e = omega (arith, e, spaces_within text name (named_within text at n l))

pub returns-then-name-at : goal.returns-then-name-at
returns-then-name-at c = nothing _ _ (no_name _ _ _ c.name_end-name.ensures c.if-name-at.true)

pub blank_end-equals-requires : goal.blank_end-equals-requires
blank_end-equals-requires c = named_within _ _ c.name_end-name.ensures c.requires

pub stands-requires : goal.stands-requires
stands-requires c = equals_within _ _ _ c.name_end-name.ensures c.requires c.blank_end-equals.ensures

pub returns-then-not-stands : goal.returns-then-not-stands
returns-then-not-stands c =
    nothing _ _ (no_equals _ _ _ _ c.name_end-name.ensures c.if-name-at.false c.blank_end-equals.ensures (sym c.if-not-stands.ensures))

pub overflow_add-equals : goal.overflow_add-equals
overflow_add-equals c = let l = (stands_within (equals ∷ []) c.args.text.now c.blank_end-equals.result (equals_within _ _ _ c.name_end-name.ensures c.requires c.blank_end-equals.ensures) (sym c.if-not-stands.ensures)) in omega arith

pub blank_end-opens-requires : goal.blank_end-opens-requires
blank_end-opens-requires c = (stands_within (equals ∷ []) c.args.text.now c.blank_end-equals.result (equals_within _ _ _ c.name_end-name.ensures c.requires c.blank_end-equals.ensures) (sym c.if-not-stands.ensures))

pub returns-then-text-opens : goal.returns-then-text-opens
returns-then-text-opens c =
    nothing _ _ (quote_over _ _ _ _ c.name_end-name.ensures c.if-name-at.false c.blank_end-equals.ensures _ c.blank_end-opens.ensures c.if-text-opens.true)

pub returns-then-not-is_quote : goal.returns-then-not-is_quote
returns-then-not-is_quote c =
    nothing _ _ (no_quote _ _ _ _ c.name_end-name.ensures c.if-name-at.false c.blank_end-equals.ensures _ c.blank_end-opens.ensures (sym c.if-not-is_quote.ensures))

pub returns-in_err-closes : goal.returns-in_err-closes
returns-in_err-closes c =
    c.from_residual.ensures
    ∙ nothing _ _ (no_value _ _ _ _ c.name_end-name.ensures c.if-name-at.false c.blank_end-equals.ensures _ c.blank_end-opens.ensures (sym c.in_err-closes.was ∙ c.value_end.ensures))

pub overflow_add-result : goal.overflow_add-result
overflow_add-result c =
    let l = closes_within c.args.text.now (c.blank_end-opens.result + 1) _ c.in_ok-closes.closes (omega arith) (sym c.in_ok-closes.was ∙ c.value_end.ensures) in
    omega arith

pub returns : goal.returns
returns c =
    whole _ _ _ _ c.name_end-name.ensures c.if-name-at.false c.blank_end-equals.ensures _ c.blank_end-opens.ensures _ (sym c.if-not-stands.ensures)
    (sym c.if-not-is_quote.ensures) (sym c.in_ok-closes.was ∙ c.value_end.ensures)
