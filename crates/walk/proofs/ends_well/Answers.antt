-- `walk::ends_well` meets its contract. Assumes nothing.
use borrow.Author.Tests.{not-false}
use Rattle.walk_levels.proofs.SizeLaws.{never}
use Rattle.walk.proofs.PassLaws.{ends_next, ends_open, ends_node, ends_stamp}
use Rattle.walk.proofs.ends_well.Goals as goal

pub returns-then-not-is_none : goal.returns-then-not-is_none
returns-then-not-is_none c = record { ok = ends_next _ _ _ _ _ _ _ _ _ c.is_none.ensures c.if-not-is_none.true-raw; sizes = never }

pub returns-then-not-is_none-2 : goal.returns-then-not-is_none-2
returns-then-not-is_none-2 c = record { ok = ends_open _ _ _ _ _ _ _ _ _ c.is_none-2.ensures c.if-not-is_none-2.true-raw; sizes = never }

pub returns-then-not-all_close : goal.returns-then-not-all_close
returns-then-not-all_close c = record { ok = ends_node _ _ _ _ _ _ _ _ _ c.all_close.ensures.ok c.if-not-all_close.true-raw; sizes = never }

pub returns : goal.returns
returns c = record {
  ok = ends_stamp _ _ _ _ _ _ _ _ _ c.is_none.ensures c.if-not-is_none.false-raw
      c.is_none-2.ensures c.if-not-is_none-2.false-raw c.all_close.ensures.ok c.if-not-all_close.false-raw;
  sizes = (λ _. c.all_close.ensures.sizes (not-false _ c.if-not-all_close.false-raw));
}
