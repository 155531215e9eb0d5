-- Closing the rest of the gap, from where the loop is, leaves the list and the count that the whole does.
use Rattle.std.proofs.Common.{◌-◌, ◌≡◌, ◌≤◌}
use Rattle.grant_list.specs.Gap.{closed}
use Rattle.grant_list.proofs.close_gap.Given as goal

abbrev pub invariant-loop-i : goal.invariant-loop-i
invariant-loop-i l = record {
  below : l.i ≤ l.count;
  low : l.kept ≤ l.i;
  same : closed l.party l.section (l.count - l.i) l.i l.kept l.gs ≡ closed l.party l.section l.count 0 0 l.fn.gs;
}
