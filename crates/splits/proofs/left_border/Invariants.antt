-- `splits::left_border` meets its contract. The loop's invariant: the walk left from here comes to the whole
-- (Leftward). Assumes nothing.
use Rattle.edit_model.specs.Split.{left_border}
use Rattle.splits.proofs.Splits.{Leftward}
use Rattle.splits.proofs.left_border.Given as goal

abbrev pub invariant-loop-steps : goal.invariant-loop-steps
invariant-loop-steps l =
    Leftward (left_border l.n l.n l.words l.low l.initial.tag.0) l.n l.words l.low l.tag.0 l.steps
