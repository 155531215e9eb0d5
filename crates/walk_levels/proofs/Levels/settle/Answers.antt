use mathlib.Core.Path.{◌≡◌}
use Prim.Native.Nat.{◌+◌}
use native.Mathlib.Omega.{arith}
use Rattle.walk_levels.proofs.LevelLaws.{levels_below, tables_below, node_first, settle_start, settle_stays, settle_fails, settle_more, settle_end_exact, settle_end_not}
use Rattle.walk_levels.proofs.SizeLaws.{never, sizes_start, sizes_stay, sizes_more, sizes_end}
use Rattle.walk_levels.proofs.Levels.settle.Goals as goal

pub loop-h-init : goal.loop-h-init
loop-h-init c = (settle_start _ _ _ _ _, sizes_start _ _ _ _ _ _ _)

pub returns-then-l-end : goal.returns-then-l-end
returns-then-l-end c = let ok = settle_stays _ _ _ _ _ _ _ _ _ c.loop-h.invariant.0 (omega arith) c.if-l-end.true in
    record { ok = ok.0; left = ok.1; sizes = (λ _. sizes_stay _ _ _ _ _ _ _ _ c.loop-h.invariant.1 (omega arith) c.if-l-end.true) }

pub closes-requires : goal.closes-requires
closes-requires c = levels_below _ (omega arith) c.requires.0

pub returns-then-not-closes : goal.returns-then-not-closes
returns-then-not-closes c =
    let ok = settle_fails _ _ _ _ _ _ _ _ _ c.loop-h.invariant.0 (omega arith) c.if-l-end.false c.closes.ensures c.if-not-closes.true-raw in
    record { ok = ok.0; left = ok.1; sizes = never }

pub watched_end-requires : goal.watched_end-requires
watched_end-requires c =
    (omega (arith, c.requires.0.height), tables_below c.args.tables.now _ (omega arith) c.requires)

pub watched-requires : goal.watched-requires
watched-requires c = node_first _ _ _ _ _ c.closes.ensures c.if-not-closes.false-raw

pub end_at-requires : goal.end_at-requires
end_at-requires c =
    (omega (arith, c.requires.0.height), omega arith, c.requires.0.widths c.loop-h.h)

pub loop-h-preserved : goal.loop-h-preserved
loop-h-preserved c = (
  rw c.end_at.ensures (settle_more _ _ _ _ _ _ _ _ _ c.loop-h.invariant.0 (omega arith) c.if-l-end.false c.closes.ensures c.if-not-closes.false-raw),
  rw c.end_at.ensures (sizes_more _ _ _ _ _ _ _ _ c.loop-h.invariant.1 (omega arith) c.if-l-end.false (rw c.watched_end.ensures at c.watched.ensures)),
)

pub returns-then-exact : goal.returns-then-exact
returns-then-exact c =
    let last : c.loop-h.h ≡ c.args.under + 1 = omega arith in
    let ok = rw last at (settle_end_exact _ _ _ _ _ _ _ _ _ c.loop-h.invariant.0 (omega arith) c.if-exact.true) in
    record { ok = ok.0; left = ok.1; sizes = (λ _. sizes_end _ _ _ _ _ _ _ _ c.loop-h.invariant.1 (omega arith)) }

pub returns-else-exact : goal.returns-else-exact
returns-else-exact c = let ok = settle_end_not _ _ _ _ _ _ _ _ _ c.loop-h.invariant.0 (omega arith) c.if-exact.false in
    record { ok = ok.0; left = ok.1; sizes = (λ _. sizes_end _ _ _ _ _ _ _ _ c.loop-h.invariant.1 (omega arith)) }
