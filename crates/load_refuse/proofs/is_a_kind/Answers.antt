-- `load_refuse::is_a_kind` meets its contract. Assumes nothing.
use borrow.Author.Tests.{le-leb, lt-leb}
use Rattle.calls.specs.Kind.{is_kind}
use Rattle.load_refuse.proofs.is_a_kind.Goals as goal

pub returns-then-kind-ge-BEGIN : goal.returns-then-kind-ge-BEGIN
unfolding is_kind
returns-then-kind-ge-BEGIN c = rw (le-leb _ _ c.if-kind-ge-BEGIN.true)

pub returns-else-kind-ge-BEGIN : goal.returns-else-kind-ge-BEGIN
unfolding is_kind
returns-else-kind-ge-BEGIN c = rw (lt-leb _ _ c.if-kind-ge-BEGIN.false)
