-- `xml_ends::end_tag` meets its contract, test by test. Assumes nothing.
use mathlib.Core.Path.{◌≡◌, sym}
use mathlib.Core.Bool.{true}
use native.Mathlib.Omega.{arith}
use lib.ListN.{drop}
use Rattle.lists.specs.Fronts.{starts_with}
use Rattle.xml.specs.Bytes.{end_opens, tag_closes}
use Rattle.xml_laws.proofs.Bounds.{spaces_within, stands_within}
use Rattle.xml_ends.proofs.EndLaws.{end_room, end_closed, end_unclosed, end_other, end_none}
use Rattle.xml_ends.proofs.end_tag.Goals as goal

pub returns-then-not-stands : goal.returns-then-not-stands
returns-then-not-stands c =
    end_none c.args.text.now c.args.name.now c.args.at (sym c.if-not-stands.ensures)

pub overflow_add-from : goal.overflow_add-from
overflow_add-from c =
    omega (arith, stands_within end_opens c.args.text.now c.args.at c.requires (sym c.if-not-stands.ensures))

pub stands-requires-2 : goal.stands-requires-2
stands-requires-2 c =
    stands_within end_opens c.args.text.now c.args.at c.requires (sym c.if-not-stands.ensures)

pub returns-then-not-stands-2 : goal.returns-then-not-stands-2
returns-then-not-stands-2 c =
    end_other c.args.text.now c.args.name.now c.args.at (sym c.if-not-stands.ensures) (sym c.if-not-stands-2.ensures)

pub overflow_add-from-2 : goal.overflow_add-from-2
overflow_add-from-2 c =
    omega (arith, end_room c.args.text.now c.args.name.now c.args.at (sym c.if-not-stands.ensures) (sym c.if-not-stands-2.ensures) c.requires)

pub blank_end-e-requires : goal.blank_end-e-requires
blank_end-e-requires c =
    end_room c.args.text.now c.args.name.now c.args.at (sym c.if-not-stands.ensures) (sym c.if-not-stands-2.ensures) c.requires

pub stands-requires-3 : goal.stands-requires-3
stands-requires-3 c =
    let room = end_room c.args.text.now c.args.name.now c.args.at (sym c.if-not-stands.ensures) (sym c.if-not-stands-2.ensures) c.requires in
    omega (arith, c.blank_end-e.ensures, spaces_within c.args.text.now _ room)

pub overflow_add-result : goal.overflow_add-result
overflow_add-result c =
    let room = end_room c.args.text.now c.args.name.now c.args.at (sym c.if-not-stands.ensures) (sym c.if-not-stands-2.ensures) c.requires in
    let closes : starts_with tag_closes (drop c.blank_end-e.result c.args.text.now) ≡ true = sym c.if-stands.ensures in
    omega (arith, stands_within tag_closes c.args.text.now c.blank_end-e.result (omega (arith, c.blank_end-e.ensures, spaces_within c.args.text.now _ room)) closes)

pub returns-then-stands : goal.returns-then-stands
returns-then-stands c =
    rw c.blank_end-e.ensures (end_closed c.args.text.now c.args.name.now c.args.at (sym c.if-not-stands.ensures) (sym c.if-not-stands-2.ensures)
    (rw c.blank_end-e.ensures at (sym c.if-stands.ensures)))

pub returns : goal.returns
returns c =
    end_unclosed c.args.text.now c.args.name.now c.args.at (sym c.if-not-stands.ensures) (sym c.if-not-stands-2.ensures)
    (rw c.blank_end-e.ensures at (sym c.if-stands.ensures))
