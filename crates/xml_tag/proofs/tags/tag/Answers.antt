-- `xml_tag::tag` meets its contract: a name, and what stands after it. Assumes nothing.
use mathlib.Core.Path.{◌≡◌, refl, sym, ◌∙◌}
use mathlib.Core.List.{List}
use Prim.Native.Nat.{ℕ, ◌+◌, ◌<◌, ◌≤◌}
use native.Mathlib.Omega.{arith}
use lib.ListN.{length, drop}
use Rattle.xml.specs.Bytes.{tag_closes, lone_closes}
use Rattle.xml.specs.Scan.{name_length}
use Rattle.xml_laws.proofs.Bounds.{name_end_within, stands_within}
use Rattle.xml_tag.proofs.WholeTags.{tag_nameless, right_closed, right_lone, tag_broken, tag_whole, tag_ended}
use Rattle.xml_tag.proofs.tags.tag.Goals as goal

-- the name ends within the text
named_within : (text : List ℕ) (at : ℕ) {name : ℕ} → name ≡ at + 1 + name_length (drop (at + 1) text) → at < length text → name ≤ length text
named_within text at n l = omega (arith, n, name_end_within text (at + 1) (omega arith))

pub returns-then-name-at : goal.returns-then-name-at
returns-then-name-at c = tag_nameless _ _ _ c.name_end-name.ensures c.if-name-at.true

pub stands-requires : goal.stands-requires
stands-requires c = named_within _ _ c.name_end-name.ensures c.requires.at_in_bounds

pub overflow_add-result : goal.overflow_add-result
overflow_add-result c =
    let l = stands_within tag_closes c.args.text.now c.name_end-name.result (named_within _ _ c.name_end-name.ensures c.requires.at_in_bounds) (sym c.if-stands.ensures) in
    omega arith

pub returns-then-stands : goal.returns-then-stands
returns-then-stands c =
    tag_whole _ _ _ c.name_end-name.ensures (right_closed _ _ _ c.name_end-name.ensures (sym c.if-stands.ensures)) c.if-name-at.false refl

pub stands-requires-2 : goal.stands-requires-2
stands-requires-2 c = named_within _ _ c.name_end-name.ensures c.requires.at_in_bounds

pub overflow_add-result-then-stands-2 : goal.overflow_add-result-then-stands-2
overflow_add-result-then-stands-2 c =
    let l = stands_within lone_closes c.args.text.now c.name_end-name.result (named_within _ _ c.name_end-name.ensures c.requires.at_in_bounds) (sym c.if-stands-2.ensures) in
    omega arith

pub returns-then-stands-2 : goal.returns-then-stands-2
returns-then-stands-2 c =
    tag_whole _ _ _ c.name_end-name.ensures (right_lone _ _ _ c.name_end-name.ensures (sym c.if-stands-2.ensures)) c.if-name-at.false refl

pub tail-requires-clause-from_in_bounds : goal.tail-requires-clause-from_in_bounds
tail-requires-clause-from_in_bounds c = named_within _ _ c.name_end-name.ensures c.requires.at_in_bounds

pub tail-requires-clause-looks : goal.tail-requires-clause-looks
tail-requires-clause-looks c = λ l. tag_ended _ _ _ c.name_end-name.ensures (c.requires.looks l)

pub returns-in_err-end : goal.returns-in_err-end
returns-in_err-end c = c.from_residual.ensures ∙ tag_broken _ _ _ c.name_end-name.ensures c.tail.ensures c.in_err-end.was

pub returns : goal.returns
returns c = tag_whole _ _ _ c.name_end-name.ensures c.tail.ensures c.if-name-at.false c.in_ok-end.was
