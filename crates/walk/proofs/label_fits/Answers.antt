-- `walk::label_fits` meets its contract. Assumes nothing.
use native.Mathlib.Omega.{arith}
use Rattle.walk_tags.proofs.TestLaws.{stands_there}
use Rattle.walk_levels.proofs.SizeLaws.{never}
use Rattle.walk.proofs.PassLaws.{tag_reads, label_beyond, label_waited, label_settled, sizes_settled}
use Rattle.walk.proofs.label_fits.Goals as goal

pub returns-then-size-v : goal.returns-then-size-v
returns-then-size-v c = record { ok = label_beyond _ c.args.tables.now _ _ _ _ c.if-size-v.true; left = never; sizes = never }

pub label_there-label-requires : goal.label_there-label-requires
label_there-label-requires c = stands_there (tag_reads _ c.args.tables.now _ _ _ _ c.requires.0 c.requires.1 c.if-size-v.false)

pub returns-then-label-v : goal.returns-then-label-v
returns-then-label-v c =
    let waited = label_waited _ c.args.tables.now _ _ _ _ c.requires.1 (c.label_there-label.ensures _ c.requires.1.there) (omega (arith, c.struct_known-3-1.given)) c.if-size-v.false _ c.if-label-v.true in
    record { ok = waited.0.0; left = (λ _. waited.0.1); sizes = (λ _. waited.1) }

pub returns : goal.returns
returns c =
    let label = c.label_there-label.ensures _ c.requires.1.there in
    let settled = label_settled _ c.args.tables.now _ _ _ _ c.requires.1 label (omega (arith, c.struct_known-3-1.given)) c.if-size-v.false c.if-label-v.false c.settle.ensures.ok c.settle.ensures.left in
    record { ok = settled.0; left = (λ _. settled.1); sizes = (λ t. sizes_settled _ c.args.tables.now _ _ _ _ c.requires.1 label (omega (arith, c.struct_known-3-1.given)) c.if-size-v.false c.if-label-v.false _ (c.settle.ensures.sizes t)) }
