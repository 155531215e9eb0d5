-- `little_endian::put_words` meets its contract: what is left to store from the loop's word on comes to the whole. Assumes nothing.
use Rattle.little_endian.proofs.Stores.{Putting}
use Rattle.little_endian.proofs.put_words.Given as goal

abbrev pub invariant-loop-i : goal.invariant-loop-i
invariant-loop-i l = Putting l.initial.bytes l.at l.words l.bytes l.i
