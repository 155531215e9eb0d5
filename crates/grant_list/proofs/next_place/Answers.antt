-- `grant_list::next_place` meets its contract. Assumes nothing.
use mathlib.Core.Path.{sym, ◌∙◌}
use native.Mathlib.Numerals.{add-one}
use Rattle.grant_list.specs.Gap.{next_place}
use Rattle.grant_list.proofs.next_place.Goals as goal

pub returns-then-names : goal.returns-then-names
unfolding next_place
returns-then-names c = rw (sym c.names.ensures ∙ c.if-names.true)

pub returns : goal.returns
unfolding next_place
returns c = rw (sym c.names.ensures ∙ c.if-names.false) (add-one _)
