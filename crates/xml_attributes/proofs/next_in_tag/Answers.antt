-- `xml_attributes::next_in_tag` meets its contract: by where the spaces end, and what stands there. Assumes nothing.
use mathlib.Core.Path.{◌≡◌, sym, ◌∙◌}
use mathlib.Core.List.{List}
use Prim.Native.Nat.{ℕ, ◌+◌, ◌≤◌}
use native.Mathlib.Omega.{arith}
use lib.ListN.{length, drop}
use Rattle.xml.specs.Bytes.{is_space, tag_closes, lone_closes}
use Rattle.xml.specs.Scan.{run}
use Rattle.xml_laws.proofs.Bounds.{spaces_within, stands_within}
use Rattle.xml_attributes.proofs.NextSteps.{next_closes, next_lone, next_no_gap, next_nothing, next_read}
use Rattle.xml_attributes.proofs.next_in_tag.Goals as goal

-- the spaces end within the text
begun_within : (text : List ℕ) (at : ℕ) {begins : ℕ} → begins ≡ at + run is_space (drop at text) → at ≤ length text → begins ≤ length text
begun_within text at e l = omega (arith, e, spaces_within text at l)

pub stands-requires : goal.stands-requires
stands-requires c = begun_within _ _ c.blank_end-begins.ensures c.requires

pub overflow_add-result : goal.overflow_add-result
overflow_add-result c =
    let l = stands_within tag_closes c.args.text.now c.blank_end-begins.result (begun_within _ _ c.blank_end-begins.ensures c.requires) (sym c.if-stands.ensures) in
    omega arith

pub returns-then-stands : goal.returns-then-stands
returns-then-stands c = next_closes _ _ _ c.blank_end-begins.ensures (sym c.if-stands.ensures)

pub stands-requires-2 : goal.stands-requires-2
stands-requires-2 c = begun_within _ _ c.blank_end-begins.ensures c.requires

pub overflow_add-result-then-stands-2 : goal.overflow_add-result-then-stands-2
overflow_add-result-then-stands-2 c =
    let l = stands_within lone_closes c.args.text.now c.blank_end-begins.result (begun_within _ _ c.blank_end-begins.ensures c.requires) (sym c.if-stands-2.ensures) in
    omega arith

pub returns-then-stands-2 : goal.returns-then-stands-2
returns-then-stands-2 c =
    next_lone _ _ _ c.blank_end-begins.ensures (sym c.if-stands.ensures) (sym c.if-stands-2.ensures)

pub returns-then-begins-at : goal.returns-then-begins-at
returns-then-begins-at c =
    next_no_gap _ _ _ c.blank_end-begins.ensures (sym c.if-stands.ensures) (sym c.if-stands-2.ensures) (omega (arith, c.if-begins-at.true))

pub read_attribute-requires : goal.read_attribute-requires
read_attribute-requires c =
    begun_within _ _ c.blank_end-begins.ensures c.requires

pub returns-in_err-name : goal.returns-in_err-name
returns-in_err-name c =
    c.from_residual.ensures
    ∙ next_nothing _ _ _ c.blank_end-begins.ensures (sym c.if-stands.ensures) (sym c.if-stands-2.ensures) c.if-begins-at.false (sym c.in_err-name.was ∙ c.read_attribute.ensures)

pub returns : goal.returns
returns c =
    next_read _ _ _ c.blank_end-begins.ensures (sym c.if-stands.ensures) (sym c.if-stands-2.ensures) c.if-begins-at.false _ (sym c.in_ok-name.was ∙ c.read_attribute.ensures)
