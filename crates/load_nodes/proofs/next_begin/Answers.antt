-- `load_nodes::next_begin` meets its contract. Assumes nothing.
use Prim.Native.Nat.{◌+◌, ◌*◌}
use borrow.Author.Tests.{le-leb, lt-leb}
use Rattle.load_model.specs.Begins.{next_begin}
use native.Mathlib.Omega.{arith}
use Rattle.load_nodes.proofs.next_begin.Goals as goal

pub returns-then-i-each : goal.returns-then-i-each
unfolding next_begin
returns-then-i-each c = rw (le-leb _ _ c.if-i-each.true)

pub returns-else-i-each : goal.returns-else-i-each
unfolding next_begin
returns-else-i-each c = rw (lt-leb (c.args.i + 2 * c.args.each) c.args.n (omega arith))
