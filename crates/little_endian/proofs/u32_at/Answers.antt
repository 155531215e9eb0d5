-- `little_endian::u32_at` meets its contract. Assumes nothing.
use mathlib.Core.Path.{◌∙◌}
use Rattle.little_endian.proofs.Stores.{four_read}
use Rattle.little_endian.proofs.u32_at.Goals as goal

pub returns : goal.returns
returns c = c.from_le_bytes.ensures ∙ four_read c.args.bytes.now c.args.at
