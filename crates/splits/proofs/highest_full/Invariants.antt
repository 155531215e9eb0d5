-- `splits::highest_full` meets its contract. The loop's invariant: the heights from here on come to the whole
-- (Climbing). Assumes nothing.
use Rattle.shape.specs.Packed.{highs_in}
use Rattle.edit_model.specs.Split.{highest_full}
use Rattle.splits.proofs.Splits.{Climbing}
use Rattle.splits.proofs.highest_full.Given as goal

abbrev pub invariant-loop-h : goal.invariant-loop-h
invariant-loop-h l =
    Climbing (highest_full (highs_in l.tables) l.sizes l.k l.under 1 0) (highs_in l.tables) l.sizes l.k l.under l.h l.found
