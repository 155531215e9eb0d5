-- `xml_read::read` meets its contract, by content's from the first byte on. Assumes nothing.
use native.Mathlib.Omega.{arith}
use Rattle.xml_read.proofs.Sheet.{read_whole, sure_whole}
use Rattle.xml_read.proofs.read.Goals as goal

pub content-part-requires : goal.content-part-requires
content-part-requires c =
    record { in_text = (record { within = omega arith; counted = omega arith }, omega arith); sure = sure_whole _ _ c.requires }

pub returns : goal.returns
returns c = rw c.whole.ensures (read_whole _ _ _ _ c.content-part.ensures.reads c.content-part.ensures.ended)
