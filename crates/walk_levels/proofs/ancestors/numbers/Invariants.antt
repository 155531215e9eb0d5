-- `walk_levels::ancestors::numbers` meets its contract. The loop's invariant: the numbers of the heights that are left come to the
-- whole (Descending). Assumes nothing.
use Rattle.walk_model.specs.Watch.{ancestor_numbers}
use Rattle.walk_levels.proofs.AncestorNumbers.{Descending}
use Rattle.walk_levels.proofs.ancestors.numbers.Given as goal

abbrev pub invariant-loop-h : goal.invariant-loop-h
invariant-loop-h l =
    Descending (ancestor_numbers l.widths l.under l.l 0 l.initial.numbers) l.widths l.under l.l l.above l.h l.numbers
