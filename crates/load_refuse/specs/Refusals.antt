-- The refusals of load that come before a word is written, but for the last (7). Assumes nothing: these are definitions.
use Rattle.std.specs.Prelude.{not, cond, List, ℕ, ◌≤◌}
use Rattle.lists.specs.Lists.{first}
use Rattle.store_types.specs.Limits.{most_tags}
use Rattle.calls.specs.Load.{all_kinds, kinds_tests, early_tests}

-- 4 and 5 of the kinds that are left where so many begins are open; 0 where there is neither
unfoldable pub kinds_refusal : (open_begins : ℕ) → List ℕ → ℕ
kinds_refusal depth cs = first (kinds_tests depth cs) 0

-- the same where an end before them closes none
unfoldable pub rest_refusal : List ℕ → ℕ
rest_refusal cs = cond (not (all_kinds cs)) 4 5

-- 3, 6, 1, 4 and 5 in this order, 0 where there is none
unfoldable pub refusal_before : (lent s r : ℕ) → (kinds : List ℕ) → ℕ
refusal_before lent s r cs = first (early_tests lent s r cs) 0

-- what the search for the height is asked of
pub record HeightFits (n r : ℕ) : Type 0 where
  pub few : n ≤ most_tags
  pub least : 2 ≤ r
  pub most : r ≤ 16
