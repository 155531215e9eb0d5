-- `file_pass::pass` meets its contract. The loop's invariant: what is left of the walk of the words that the file says, and of
-- the order of its rows, decides as the whole does; what the state carries is right (Standing), and so are the numbers met, the
-- rows read and the begins open (MetSoFar). The measure is the tags left. Assumes nothing.
use mathlib.Core.Path.{◌≡◌}
use Prim.Native.Nat.{◌-◌, ◌≤◌}
use lib.ListN.{length}
use Rattle.store_types.specs.Layout.{at_first, word_at}
use Rattle.calls.specs.File.{header_in, file_words}
use Rattle.walk_tags.specs.Needs.{pair_table}
use Rattle.walk.specs.Needs.{Standing}
use Rattle.walk.proofs.PassLaws.{walk_at, walk_whole}
use Rattle.file_pass.specs.Needs.{order_left, MetSoFar}
use Rattle.file_pass.proofs.pass.Given as goal

abbrev pub invariant-loop-v : goal.invariant-loop-v
invariant-loop-v l =
    (l.v.place ≤ l.size.n)
    × (l.pairs ≡ pair_table)
    × Standing (file_words l.bytes) l.size.n l.levels l.v
    × (walk_at (file_words l.bytes) l.tables l.size.n l.size.under l.v l.levels ≡ walk_whole (file_words l.bytes) l.tables l.size.n l.size.under)
    × (order_left l.bytes l.v.place l.v.tag.0 ≡ order_left l.bytes 0 (word_at (header_in l.bytes) at_first))
    × MetSoFar l.bytes l.v l.met l.opens
    × (length l.opens ≡ length l.initial.opens)

abbrev pub decreases-loop-v : goal.decreases-loop-v
decreases-loop-v l = l.size.n - l.v.place
