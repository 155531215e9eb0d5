-- `powers::known` meets its contract: of each table the count is tested, and it is tested whole, by tests that are computed. Assumes nothing.
use mathlib.Core.Path.{refl}
use native.Mathlib.Omega.{arith}
use borrow.Author.Rules.{rules}
use Rattle.powers.specs.Tables.{powers}
use Rattle.powers.proofs.PowerLaws.{count_right, of_table, no_table}
use Rattle.powers.proofs.known.Goals as goal

pub returns-in-Some-eq2 : goal.returns-in-Some-eq2
unfolding powers count_right
returns-in-Some-eq2 c = of_table {n = 2} (search rules) (omega arith) _ refl refl

pub returns-in-Some-eq4 : goal.returns-in-Some-eq4
unfolding powers count_right
returns-in-Some-eq4 c = of_table {n = 4} (search rules) (omega arith) _ refl refl

pub returns-in-Some-eq16 : goal.returns-in-Some-eq16
unfolding powers count_right
returns-in-Some-eq16 c = of_table {n = 16} (search rules) (omega arith) _ refl refl

pub returns-in_default : goal.returns-in_default
returns-in_default c = no_table
