-- `load_record::up_at` meets its contract. Assumes nothing.
use borrow.Author.Tests.{eq-eqb, not-false}
use Rattle.load_record.specs.Record.{new_up}
use Rattle.load_record.proofs.Inside.{up_picked}
use Rattle.load_record.proofs.up_at.Goals.{else-kind-eq-END-via-then-kind-eq-END+else-not-inside, else-kind-eq-END-via-else-kind-eq-END}
use Rattle.load_record.proofs.up_at.Goals as goal

pub up_of-requires : goal.up_of-requires
up_of-requires c = c.requires.1 c.if-kind-eq-END.true

pub returns-then-not-inside : goal.returns-then-not-inside
unfolding new_up
returns-then-not-inside c = rw (eq-eqb _ 2 c.if-kind-eq-END.true) c.up_of.ensures

pub returns : goal.returns
returns c =
    up_picked _ _ _ _ _ c.requires.0 c.at_end.ensures
    (λ e. elim c.else-kind-eq-END.branch [
      | else-kind-eq-END-via-then-kind-eq-END+else-not-inside w ↦ c.requires.2 (not-false _ w.if-not-inside.false)
      | else-kind-eq-END-via-else-kind-eq-END w ↦ absurd (w.if-kind-eq-END.false e)
    ])
