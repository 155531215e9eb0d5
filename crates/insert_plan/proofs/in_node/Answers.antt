-- `insert_plan::in_node` meets its contract. Assumes nothing.
use native.Mathlib.Omega.{arith}
use Rattle.shape.specs.Packed.{s_in, r_in}
use Rattle.tree_laws.proofs.PathLaws.{splits_most}
use Rattle.insert_plan.proofs.Plans.{node_made}
use Rattle.insert_plan.proofs.in_node.Goals as goal

pub overflow_add-result : goal.overflow_add-result
overflow_add-result c =
    omega (
      arith,
      c.in_splits.ensures,
      splits_most (s_in c.args.tables.now) (r_in c.args.tables.now) c.args.h c.saturating_sub.result,
      c.saturating_sub.ensures,
      c.saturating_sub-first.ensures,
      c.requires.limit,
      c.requires.few,
    )

pub returns : goal.returns
returns c =
    let limit = c.requires.splits.highs c.args.h (omega arith) in
    node_made _ _ _ c.args.l c.args.k limit c.saturating_sub-first.ensures c.saturating_sub.ensures c.in_splits.ensures
