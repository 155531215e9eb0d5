-- `NameIndex::compare_at` meets its contract, by the hashes, and where they are equal by the names. Assumes nothing.
use native.Mathlib.Omega.{arith}
use mathlib.Core.Path.{◌∙◌}
use lib.ListN.{get_or}
use Rattle.name_index.proofs.Orders.{order_is}
use Rattle.name_index.proofs.NameEnds.{end_within}
use Rattle.name_index.proofs.Entries.{key_less, key_more, key_rest}
use Rattle.name_index.proofs.NameIndex.compare_at.Goals as goal

pub returns-then-k-h : goal.returns-then-k-h
returns-then-k-h c = key_less _ _ _ _ _ _ (omega arith)

pub returns-then-h-k : goal.returns-then-h-k
returns-then-h-k c = key_more _ _ _ _ _ _ (omega arith)

pub slice_bounds-cmp-end : goal.slice_bounds-cmp-end
slice_bounds-cmp-end c = end_within c.args.text.now (get_or c.args.self.now.starts c.args.i 0) c.name_end-b.ensures c.requires.within

pub returns : goal.returns
returns c = key_rest _ _ _ _ _ _ _ _ (omega arith) c.name_end-b.ensures (c.cmp.ensures ∙ order_is _ _)
