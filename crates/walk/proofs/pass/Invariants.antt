-- `walk::pass` meets its contract. The loop's invariant: what is left of the walk decides as the whole does, and its sizes come
-- to those of the whole; and what the state carries is right (Standing). The measure is the tags left. Assumes nothing.
use mathlib.Core.Path.{◌≡◌}
use Prim.Native.Nat.{◌-◌, ◌≤◌}
use Rattle.walk_tags.specs.Needs.{pair_table}
use Rattle.walk.specs.Needs.{Standing}
use Rattle.walk.proofs.PassLaws.{walk_at, walk_whole, sizes_at_tag, sizes_whole}
use Rattle.walk.proofs.pass.Given as goal

abbrev pub invariant-loop-v : goal.invariant-loop-v
invariant-loop-v l =
    (l.v.place ≤ l.size.n)
    × (l.pairs ≡ pair_table)
    × Standing l.words l.size.n l.levels l.v
    × (walk_at l.words l.tables l.size.n l.size.under l.v l.levels ≡ walk_whole l.words l.tables l.size.n l.size.under)
    × (sizes_at_tag l.words l.tables l.size.n l.size.under l.v l.levels l.sizes ≡ sizes_whole l.words l.tables l.size.n l.size.under l.initial.sizes)

abbrev pub decreases-loop-v : goal.decreases-loop-v
decreases-loop-v l = l.size.n - l.v.place
