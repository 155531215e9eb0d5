-- `renumber::number_path` meets its contract. It calls itself one height lower, so its measure is the height. What each part asks
-- and what the three come to are laws (Paths); here they are handed over. Assumes nothing.
use Rattle.renumber.proofs.+number_path.Given as goal

abbrev pub decreases-number_path : goal.decreases-number_path
decreases-number_path l = l.j
