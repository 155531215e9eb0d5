-- `words::get_at` meets its contract. Assumes nothing.
use native.Mathlib.Omega.{arith}
use Rattle.words.proofs.Offsets.{offset_field, offset_fits}
use Rattle.words.proofs.get_at.Goals as goal

pub bounds-words-p : goal.bounds-words-p
bounds-words-p c = omega (arith, offset_fits _ _ c.requires.0)

pub returns : goal.returns
returns c = offset_field _ _ _
