-- `file_tags::label_fits` meets its contract. Assumes nothing.
use mathlib.Core.List.{[]}
use native.Mathlib.Omega.{arith}
use Rattle.walk.proofs.PassLaws.{label_waited, label_settled}
use Rattle.file_tags.proofs.label_fits.Goals as goal

pub returns-then-label-v : goal.returns-then-label-v
returns-then-label-v c = λ ws label stands.
    let waited = label_waited ws c.args.tables.now _ _ _ _ stands label (omega (arith, c.struct_known-1.given)) c.requires.1 [] c.if-label-v.true in
    (waited.0.0, λ _. waited.0.1)

pub returns : goal.returns
returns c = λ ws label stands.
    let settled = label_settled ws c.args.tables.now _ _ _ _ stands label (omega (arith, c.struct_known-1.given)) c.requires.1 c.if-label-v.false
    c.settle.ensures.ok c.settle.ensures.left in
    (settled.0, λ _. settled.1)
