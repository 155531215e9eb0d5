use native.Mathlib.Omega.{arith}
use Rattle.powers.proofs.TableLaws.{table_start, table_fits}
use Rattle.powers.proofs.PowerLaws.{fill_more}
use Rattle.powers.proofs.fill_from.Goals as goal

pub loop-h-init : goal.loop-h-init
loop-h-init c = rw c.requires.2 (table_start c.args.v c.args.b)

pub power-p-requires : goal.power-p-requires
power-p-requires c =
    rw c.loop-h.invariant
    (omega (arith, table_fits c.args.v c.args.b c.loop-h.h c.args.top c.requires.0.grows c.loop-h-test.true, c.requires.0.last))

pub loop-h-preserved : goal.loop-h-preserved
loop-h-preserved c =
    rw (c.power-p.ensures, c.loop-h.invariant) (fill_more c.args.v c.args.b _ c.requires.1 c.loop-h.h (omega (arith, c.requires.0.height)))
