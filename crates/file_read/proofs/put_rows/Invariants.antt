-- `file_read::put_rows` meets its contract: what is left to write from the loop's row on comes to the whole. Assumes nothing.
use Rattle.file_read.proofs.PutLaws.{Putting}
use Rattle.file_read.proofs.put_rows.Given as goal

abbrev pub invariant-loop-i : goal.invariant-loop-i
invariant-loop-i l = Putting l.bytes l.n l.initial.words l.words l.i l.opens
