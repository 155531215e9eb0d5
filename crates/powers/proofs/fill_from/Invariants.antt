-- `powers::fill_from` meets its contract. The loop's invariant: the table is whole up to height h. Assumes nothing.
use mathlib.Core.Path.{◌≡◌}
use Rattle.powers.specs.Tables.{table}
use Rattle.powers.proofs.fill_from.Given as goal

abbrev pub invariant-loop-h : goal.invariant-loop-h
invariant-loop-h l = l.t ≡ table l.v l.b l.h
