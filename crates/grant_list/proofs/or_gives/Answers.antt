-- `grant_list::or_gives` meets its contract. Assumes nothing.
use mathlib.Core.Path.{sym, ◌∙◌}
use mathlib.Core.Bool.{and-false, or-true, or-false}
use native.Mathlib.Nat.{div-zero}
use borrow.Author.Tests.{eq-eqb, ne_eqb}
use Rattle.calls.specs.Rights.{gives}
use Rattle.grant_list.proofs.or_gives.Goals as goal
use Rattle.grant_list.proofs.or_gives.Goals.{then-right-eq0-via-then-right-eq0, then-right-eq0-via-else-right-eq0+then-not-names}

-- by the right 0, or by the names
pub returns-then-right-eq0 : goal.returns-then-right-eq0
unfolding gives
returns-then-right-eq0 c =
    elim c.then-right-eq0.branch [
      | then-right-eq0-via-then-right-eq0 w ↦ rw (w.if-right-eq0.true, div-zero, and-false) (sym (or-false _))
      | then-right-eq0-via-else-right-eq0+then-not-names w ↦ rw (sym w.names.ensures ∙ w.if-not-names.true) (sym (or-false _))
    ]

pub returns-then-g-right-eq1 : goal.returns-then-g-right-eq1
unfolding gives
returns-then-g-right-eq1 c = rw (sym c.names.ensures ∙ c.if-not-names.false, eq-eqb _ _ c.if-g-right-eq1.true) (sym (or-true c.args.found))

pub returns : goal.returns
unfolding gives
returns c = rw (sym c.names.ensures ∙ c.if-not-names.false, ne_eqb _ _ c.if-g-right-eq1.false) (sym (or-false _))
