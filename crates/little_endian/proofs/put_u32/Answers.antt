-- `little_endian::put_u32` meets its contract. Assumes nothing.
use mathlib.Core.Path.{◌∙◌}
use Rattle.little_endian.proofs.Stores.{four_low, part_put}
use Rattle.little_endian.proofs.put_u32.Goals as goal

pub returns : goal.returns
returns c = part_put c.args.bytes.now c.args.at 4 c.args.v (c.copy_from_slice.ensures.after ∙ (c.to_le_bytes.ensures ∙ four_low c.args.v)) c.requires
