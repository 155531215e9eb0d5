-- `walk_levels::Levels::settle` meets its contract. The loop's invariant: what is left to close comes to what the whole does, and so do
-- its sizes. Assumes nothing.
use mathlib.Core.Path.{◌≡◌}
use Rattle.walk_model.specs.Watch.{settle_sizes}
use Rattle.shape.specs.Packed.{widths_in, lows_in, highs_in, numbers_in}
use Rattle.walk_levels.specs.Needs.{levels_of, settle_from}
use Rattle.walk_levels.proofs.LevelLaws.{settle_at}
use Rattle.walk_levels.proofs.SizeLaws.{settle_sizes_at}
use Rattle.walk_levels.proofs.Levels.settle.Given as goal

abbrev pub invariant-loop-h : goal.invariant-loop-h
invariant-loop-h l =
    (settle_at (widths_in l.tables) (lows_in l.tables) (highs_in l.tables) l.under l.l l.place l.h l.exact l.self ≡ settle_from l.tables l.under l.l l.place l.initial.self)
    × (settle_sizes_at (widths_in l.tables) (numbers_in l.tables) l.under l.l l.place l.h l.self l.sizes ≡ settle_sizes (widths_in l.tables) (numbers_in l.tables) l.under 1 l.l l.place (levels_of l.initial.self) l.initial.sizes)
