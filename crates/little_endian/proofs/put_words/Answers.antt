use native.Mathlib.Omega.{arith}
use Rattle.little_endian.proofs.Stores.{putting_first, putting_turn, putting_end}
use Rattle.little_endian.proofs.put_words.Goals as goal

pub loop-i-init : goal.loop-i-init
loop-i-init c = putting_first _ _ _

pub put_u32-requires : goal.put_u32-requires
put_u32-requires c = omega (arith, c.loop-i.invariant.long)

pub loop-i-preserved : goal.loop-i-preserved
loop-i-preserved c =
    putting_turn c.loop-i.invariant c.loop-i-test.true c.put_u32.ensures

pub shape_of-bytes : goal.shape_of-bytes
shape_of-bytes c = c.loop-i.invariant.long

pub returns : goal.returns
returns c = putting_end c.loop-i.invariant c.loop-i-test.false (omega arith)
