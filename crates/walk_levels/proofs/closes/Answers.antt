-- `walk_levels::closes` meets its contract. Assumes nothing.
use native.Mathlib.Omega.{arith}
use Rattle.walk_levels.proofs.LevelLaws.{node_small, node_rest}
use Rattle.walk_levels.proofs.closes.Goals as goal

pub bounds-tables-h : goal.bounds-tables-h
bounds-tables-h c = omega (arith, c.requires.height)

pub bounds-tables-h-then-f-tables : goal.bounds-tables-h-then-f-tables
bounds-tables-h-then-f-tables c = omega (arith, c.requires.height)

pub overflow_add-f : goal.overflow_add-f
overflow_add-f c = omega (arith, c.requires.lows c.args.h)

pub overflow_add-result : goal.overflow_add-result
overflow_add-result c = omega (arith, c.requires.highs c.args.h)

pub returns-then-f-tables : goal.returns-then-f-tables
returns-then-f-tables c = node_rest _ _ _ _ _ c.if-f-tables.true

pub returns-else-f-tables : goal.returns-else-f-tables
returns-else-f-tables c = node_small _ _ _ _ _ c.if-f-tables.false
