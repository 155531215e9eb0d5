-- `reply_text::put_number` meets its contract: the digits of a tenth, and the last one after them. Assumes nothing.
use Rattle.reply_text.proofs.+put_number.Given as goal

abbrev pub decreases-put_number : goal.decreases-put_number
decreases-put_number g l = l.n
