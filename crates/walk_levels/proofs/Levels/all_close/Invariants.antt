-- `walk_levels::Levels::all_close` meets its contract. The loop's invariant: what is left to close decides as all did, and its sizes
-- come to those of all. Assumes nothing.
use mathlib.Core.Path.{◌≡◌}
use Rattle.walk_model.specs.Watch.{close_sizes}
use Rattle.shape.specs.Packed.{widths_in, lows_in, highs_in, numbers_in}
use Rattle.walk_levels.specs.Needs.{levels_of, close_from}
use Rattle.walk_levels.proofs.LevelLaws.{close_at}
use Rattle.walk_levels.proofs.SizeLaws.{close_sizes_at}
use Rattle.walk_levels.proofs.Levels.all_close.Given as goal

abbrev pub invariant-loop-h : goal.invariant-loop-h
invariant-loop-h l =
    (close_at (lows_in l.tables) (highs_in l.tables) l.under l.place l.self l.h ≡ close_from (lows_in l.tables) (highs_in l.tables) l.under l.place l.self)
    × (close_sizes_at (widths_in l.tables) (numbers_in l.tables) l.under l.place l.self l.h l.sizes ≡ close_sizes (widths_in l.tables) (numbers_in l.tables) l.under 1 l.place (levels_of l.self) l.initial.sizes)
