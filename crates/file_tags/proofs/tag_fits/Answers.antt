-- `file_tags::tag_fits` meets its contract. Assumes nothing.
use mathlib.Core.Path.{refl}
use native.Mathlib.Omega.{arith}
use Rattle.store_types.specs.Layout.{at_prior, at_kind}
use Rattle.walk_tags.proofs.TestLaws.{tag_not, tag_large, tag_unfit, tag_links, tag_kind}
use Rattle.file_tags.proofs.TagRows.{row_there, field_there, reads_there, beside_read}
use Rattle.file_tags.proofs.tag_fits.Goals as goal

pub returns-then-row_field-v : goal.returns-then-row_field-v
returns-then-row_field-v c = tag_not _ _ _ _ _ _ (reads_there c.requires.0 c.requires.1 c.requires.2) (field_there c.requires.0.read c.requires.0.own at_prior (omega arith) c.row_field.ensures) c.if-row_field-v.true

pub returns-then-kind-ge32 : goal.returns-then-kind-ge32
returns-then-kind-ge32 c =
    tag_large _ _ _ _ _ _ (reads_there c.requires.0 c.requires.1 c.requires.2) (field_there c.requires.0.read c.requires.0.own at_prior (omega arith) c.row_field.ensures) c.if-row_field-v.false (field_there c.requires.0.read c.requires.0.own at_kind (omega arith) c.row_field-kind.ensures) c.if-kind-ge32.true

pub row_field-requires-2 : goal.row_field-requires-2
row_field-requires-2 c = (row_there (beside_read c.requires.0 c.requires.1 c.requires.2 c.beside-q.ensures).0 c.requires.0.long, omega arith)

pub returns-then-not-may_stand : goal.returns-then-not-may_stand
returns-then-not-may_stand c =
    tag_unfit _ _ _ _ _ _ (reads_there c.requires.0 c.requires.1 c.requires.2) (field_there c.requires.0.read c.requires.0.own at_prior (omega arith) c.row_field.ensures) c.if-row_field-v.false (field_there c.requires.0.read c.requires.0.own at_kind (omega arith) c.row_field-kind.ensures)
    c.if-kind-ge32.false (beside_read c.requires.0 c.requires.1 c.requires.2 c.beside-q.ensures).1 (field_there (beside_read c.requires.0 c.requires.1 c.requires.2 c.beside-q.ensures).0 refl at_kind (omega arith) c.row_field-2.ensures) c.requires.3 c.may_stand.ensures c.if-not-may_stand.true-raw

pub links_fit-requires : goal.links_fit-requires
links_fit-requires c =
    let word = tag_kind _ _ _ _ _ _ (reads_there c.requires.0 c.requires.1 c.requires.2) (field_there c.requires.0.read c.requires.0.own at_prior (omega arith) c.row_field.ensures) c.if-row_field-v.false (field_there c.requires.0.read c.requires.0.own at_kind (omega arith) c.row_field-kind.ensures)
    c.if-kind-ge32.false (beside_read c.requires.0 c.requires.1 c.requires.2 c.beside-q.ensures).1 (field_there (beside_read c.requires.0 c.requires.1 c.requires.2 c.beside-q.ensures).0 refl at_kind (omega arith) c.row_field-2.ensures) c.requires.3 c.may_stand.ensures c.if-not-may_stand.false-raw in
    (c.requires.0.long, c.requires.0.own, c.requires.0.read, (beside_read c.requires.0 c.requires.1 c.requires.2 c.beside-q.ensures).0, word)

pub returns : goal.returns
returns c =
    tag_links _ _ _ _ _ _ (reads_there c.requires.0 c.requires.1 c.requires.2) (field_there c.requires.0.read c.requires.0.own at_prior (omega arith) c.row_field.ensures) c.if-row_field-v.false (field_there c.requires.0.read c.requires.0.own at_kind (omega arith) c.row_field-kind.ensures)
    c.if-kind-ge32.false (beside_read c.requires.0 c.requires.1 c.requires.2 c.beside-q.ensures).1 (field_there (beside_read c.requires.0 c.requires.1 c.requires.2 c.beside-q.ensures).0 refl at_kind (omega arith) c.row_field-2.ensures) c.requires.3 c.may_stand.ensures c.if-not-may_stand.false-raw
    c.links_fit.ensures
