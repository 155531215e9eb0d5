-- `file_tags::links_fit` meets its contract. Assumes nothing.
use mathlib.Core.Path.{◌≡◌, refl}
use Prim.Native.Nat.{◌%◌}
use native.Mathlib.Omega.{arith}
use lib.Dec.{eqb}
use Rattle.store_types.specs.Layout.{at_up, field}
use Rattle.calls.specs.File.{file_words}
use Rattle.walk_tags.proofs.TestLaws.{links_open_not, links_up_not, links_back}
use Rattle.file_tags.proofs.TagRows.{row_there, field_there, picked_read, picked_number, open_kept, back_kept}
use Rattle.file_tags.proofs.links_fit.Goals as goal

pub row_field-requires : goal.row_field-requires
row_field-requires c = (row_there c.requires.2 c.requires.0, open_kept c.args.kind c.at_end-named.ensures)

pub returns-then-row_field-v : goal.returns-then-row_field-v
returns-then-row_field-v c = links_open_not _ _ _ _ _ _ c.at_end-named.ensures (let it : c.row_field.result ≡ field (file_words c.args.bytes.now) c.args.v.tag.0 c.at_end-named.result = let fits = open_kept c.args.kind c.at_end-named.ensures in
    field_there c.requires.2 c.requires.1 c.at_end-named.result fits c.row_field.ensures in it) c.if-row_field-v.true

pub row_field-requires-2 : goal.row_field-requires-2
row_field-requires-2 c = (row_there (picked_read _ c.args.q c.args.v.place (eqb (c.args.kind % 16) 2) c.at_end-p.ensures c.requires.3 c.requires.2) c.requires.0, omega arith)

pub returns-then-up-row_field : goal.returns-then-up-row_field
returns-then-up-row_field c =
    links_up_not _ _ _ _ _ _ c.at_end-named.ensures (let it : c.row_field.result ≡ field (file_words c.args.bytes.now) c.args.v.tag.0 c.at_end-named.result = let fits = open_kept c.args.kind c.at_end-named.ensures in
    field_there c.requires.2 c.requires.1 c.at_end-named.result fits c.row_field.ensures in it) c.if-row_field-v.false (field_there c.requires.2 c.requires.1 at_up (omega arith) c.row_field-up.ensures) (picked_number _ c.args.q c.args.v.place (eqb (c.args.kind % 16) 2) c.requires.1 c.at_end-p.ensures)
    (field_there (picked_read _ c.args.q c.args.v.place (eqb (c.args.kind % 16) 2) c.at_end-p.ensures c.requires.3 c.requires.2) refl at_up (omega arith) c.row_field-2.ensures) c.if-up-row_field.true

pub row_field-requires-3 : goal.row_field-requires-3
row_field-requires-3 c =
    (row_there (picked_read _ c.args.q c.args.v.place (eqb (c.args.kind % 16) 2) c.at_end-p.ensures c.requires.3 c.requires.2) c.requires.0, back_kept c.args.kind c.at_begin-back.ensures)

pub returns : goal.returns
returns c =
    links_back _ _ _ _ _ _ c.at_end-named.ensures (let it : c.row_field.result ≡ field (file_words c.args.bytes.now) c.args.v.tag.0 c.at_end-named.result = let fits = open_kept c.args.kind c.at_end-named.ensures in
    field_there c.requires.2 c.requires.1 c.at_end-named.result fits c.row_field.ensures in it) c.if-row_field-v.false (field_there c.requires.2 c.requires.1 at_up (omega arith) c.row_field-up.ensures) (picked_number _ c.args.q c.args.v.place (eqb (c.args.kind % 16) 2) c.requires.1 c.at_end-p.ensures) (field_there (picked_read _ c.args.q c.args.v.place (eqb (c.args.kind % 16) 2) c.at_end-p.ensures c.requires.3 c.requires.2) refl at_up (omega arith) c.row_field-2.ensures)
    c.if-up-row_field.false c.at_begin-back.ensures
    (field_there (picked_read _ c.args.q c.args.v.place (eqb (c.args.kind % 16) 2) c.at_end-p.ensures c.requires.3 c.requires.2) refl _ (back_kept c.args.kind c.at_begin-back.ensures) c.row_field-3.ensures) c.at_begin.ensures
