-- What the search has found and what is left of the live grants together say whether one of them gives the right.
use Rattle.std.proofs.Common.{◌≡◌, ◌||◌, drop}
use Rattle.lists.specs.Lists.{some_holds}
use Rattle.calls.specs.Rights.{gives, held}
use Rattle.grant_list.proofs.search.Given as goal

abbrev pub invariant-loop-g : goal.invariant-loop-g
invariant-loop-g l =
    (l.found || some_holds (gives l.party l.section l.right) (drop l.g-index l.g-items)) ≡ held l.party l.section l.right l.count l.gs
