-- `relabel::shift` meets its contract. The loop's invariant: what is shifted from here comes to the whole (Shifting). Assumes
-- nothing.
use Rattle.edit_model.specs.Relabel.{shift}
use Rattle.relabel.proofs.Shifts.{Shifting}
use Rattle.relabel.proofs.shift.Given as goal

abbrev pub invariant-loop : goal.invariant-loop
invariant-loop l =
    Shifting (shift l.n l.n l.initial.words l.initial.tag.0 l.bound l.by) l.initial.words l.words l.n l.tag.0 l.bound l.by l.counter l.moved
