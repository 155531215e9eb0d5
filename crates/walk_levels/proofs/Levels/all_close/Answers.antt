use native.Mathlib.Omega.{arith}
use Rattle.walk_levels.proofs.LevelLaws.{levels_below, tables_below, node_first, close_start, close_fails, close_more, close_end}
use Rattle.walk_levels.proofs.SizeLaws.{never, close_sizes_start, close_sizes_more, close_sizes_end}
use Rattle.walk_levels.proofs.Levels.all_close.Goals as goal

pub loop-h-init : goal.loop-h-init
loop-h-init c = (close_start _ _ _ _ _, close_sizes_start _ _ _ _ _ _)

pub closes-requires : goal.closes-requires
closes-requires c = levels_below _ (omega arith) c.requires.0

pub returns-then-not-closes : goal.returns-then-not-closes
returns-then-not-closes c = record { ok = close_fails _ _ _ _ _ _ c.loop-h.invariant.0 (omega arith) c.closes.ensures c.if-not-closes.true-raw; sizes = never }

pub watched_end-watch-requires : goal.watched_end-watch-requires
watched_end-watch-requires c =
    (omega (arith, c.requires.0.height), tables_below c.args.tables.now _ (omega arith) c.requires)

pub watched-requires : goal.watched-requires
watched-requires c = node_first _ _ _ _ _ c.closes.ensures c.if-not-closes.false-raw

pub loop-h-preserved : goal.loop-h-preserved
loop-h-preserved c = (
  close_more _ _ _ _ _ _ c.loop-h.invariant.0 (omega arith) c.closes.ensures c.if-not-closes.false-raw,
  close_sizes_more _ _ _ _ _ _ _ c.loop-h.invariant.1 (omega arith) (rw c.watched_end-watch.ensures at c.watched.ensures),
)

pub returns : goal.returns
returns c = record { ok = close_end _ _ _ _ _ _ c.loop-h.invariant.0 (omega arith); sizes = (λ _. close_sizes_end _ _ _ _ _ _ _ c.loop-h.invariant.1 (omega arith)) }
