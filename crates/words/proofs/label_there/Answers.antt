-- `words::label_there` meets its contract. Assumes nothing.
use native.Mathlib.Omega.{arith}
use Rattle.words.proofs.Offsets.{offset_label, offset_fits}
use Rattle.words.proofs.label_there.Goals as goal

pub bounds-words-p : goal.bounds-words-p
bounds-words-p c = omega (arith, offset_fits _ _ c.requires)

pub returns : goal.returns
returns c = offset_label _ _
