-- `walk_tags::depth_after` meets its contract. Assumes nothing.
use mathlib.Core.Path.{◌∙◌}
use native.Mathlib.Omega.{arith}
use Rattle.kind_pick.proofs.PickLaws.{begin_low, begin_high}
use Rattle.walk_tags.proofs.TestLaws.{depth_most, depth_counted}
use Rattle.walk_tags.proofs.depth_after.Goals as goal

pub overflow_add-more : goal.overflow_add-more
overflow_add-more c =
    omega (arith, depth_most _ _ _ (c.get_at-kind.ensures _ c.requires.0.there) (c.get_at-own.ensures _ c.requires.0.there) c.requires.1)

pub returns-then-kind-eq0 : goal.returns-then-kind-eq0
returns-then-kind-eq0 c =
    let word = c.get_at-kind.ensures _ c.requires.0.there in
    begin_low _ (rw word c.requires.0.kind) _ _ c.if-kind-eq0.true ∙ depth_counted _ _ _ word (c.get_at-own.ensures _ c.requires.0.there) c.requires.1

pub returns-else-kind-eq0 : goal.returns-else-kind-eq0
returns-else-kind-eq0 c =
    let word = c.get_at-kind.ensures _ c.requires.0.there in
    begin_high _ (rw word c.requires.0.kind) _ _ c.if-kind-eq0.false ∙ depth_counted _ _ _ word (c.get_at-own.ensures _ c.requires.0.there) c.requires.1
