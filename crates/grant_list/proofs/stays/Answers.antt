-- `grant_list::stays` meets its contract. Assumes nothing.
use mathlib.Core.Path.{sym, ◌∙◌}
use Rattle.grant_list.specs.Gap.{stays}
use Rattle.grant_list.proofs.stays.Goals as goal

pub returns-then-names : goal.returns-then-names
unfolding stays
returns-then-names c = rw (sym c.names.ensures ∙ c.if-names.true)

pub returns : goal.returns
unfolding stays
returns c = rw (sym c.names.ensures ∙ c.if-names.false)
