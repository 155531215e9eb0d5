use mathlib.Core.Path.{◌∙◌}
use native.Mathlib.Omega.{arith}
use Rattle.name_index.proofs.Entries.{entry_of, finding_start, finding_up, finding_down, finding_end}
use Rattle.name_index.proofs.NameIndex.find.Goals as goal

pub loop-low-init : goal.loop-low-init
loop-low-init c = finding_start c.requires _

pub compare_at-requires : goal.compare_at-requires
compare_at-requires c = entry_of c.requires (omega (arith, c.loop-low.invariant.within))

pub loop-low-preserved-in-Less : goal.loop-low-preserved-in-Less
loop-low-preserved-in-Less c =
    finding_up c.requires _ c.loop-low.invariant _ (omega arith) (cc (c.compare_at.ensures, c.in-Less.is))

pub loop-low-preserved : goal.loop-low-preserved
loop-low-preserved c =
    finding_down c.requires _ c.loop-low.invariant _ (omega arith) (omega arith) (λ e. c.in_default.not-Less (c.compare_at.ensures ∙ e))

pub returns : goal.returns
returns c = finding_end c.requires _ c.loop-low.invariant (omega arith)
