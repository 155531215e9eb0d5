-- `splits::at_least` meets its contract. Assumes nothing.
use lib.Dec.{ltb}
use Rattle.words.proofs.Fields.{room}
use Rattle.store_types.specs.Layout.{label_at}
use Rattle.splits.proofs.Splits.{inside, outside}
use borrow.Author.Rules.{rules}
use Rattle.splits.proofs.at_least.Goals as goal

pub label_of-requires : goal.label_of-requires
label_of-requires c = search (rules, room)

pub returns-then-x-n : goal.returns-then-x-n
returns-then-x-n c =
    rw c.label_of.ensures (inside c.args.n c.args.x.0 (label_at c.args.words.now c.args.x.0) c.args.low c.if-x-n.true)

pub returns-else-x-n : goal.returns-else-x-n
returns-else-x-n c =
    outside c.args.n c.args.x.0 (ltb (label_at c.args.words.now c.args.x.0) c.args.low) c.if-x-n.false
