-- `file_walk::judge::with_most` meets its contract: the pass is never too deep there, so the function does not come to call itself, and
-- any measure will do. Assumes nothing.
use Rattle.file_walk.proofs.judge.+with_most.Given as goal

abbrev pub decreases-with_most : goal.decreases-with_most
decreases-with_most l = 0
