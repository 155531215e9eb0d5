use mathlib.Core.Path.{refl}
use native.Mathlib.Omega.{arith}
use Rattle.name_index.proofs.Hashing.{hashing_turn, hashing_end}
use Rattle.name_index.proofs.hash.Goals as goal

pub loop-b-init : goal.loop-b-init
loop-b-init c = record { fits = omega arith; within = omega arith; left = refl }

pub loop-b-preserved : goal.loop-b-preserved
loop-b-preserved c = hashing_turn _ _ _ c.loop-b.invariant (omega arith) _ c.from.ensures

pub returns : goal.returns
returns c = hashing_end _ _ _ c.loop-b.invariant (omega arith)
