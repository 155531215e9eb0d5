-- Four tables by height (struct Tables of the code): widths, least leaves, limits, and the numbers of a place's ancestors. Assumes
-- nothing: these are definitions.
use Rattle.std.specs.Prelude.{◌≡◌, List, ℕ}
use Rattle.powers.specs.Tables.{entry}
use Rattle.shape.specs.declared.Tables.{Tables}

abbrev pub widths_in : Tables → List ℕ
widths_in t = t.widths

abbrev pub lows_in : Tables → List ℕ
lows_in t = t.lows

abbrev pub highs_in : Tables → List ℕ
highs_in t = t.highs

abbrev pub numbers_in : Tables → List ℕ
numbers_in t = t.numbers

-- s is the limit of a node of height 0, and r the least leaves of one of height 1
abbrev pub s_in : Tables → ℕ
s_in t = entry (highs_in t) 0

abbrev pub r_in : Tables → ℕ
r_in t = entry (lows_in t) 1

-- the three that a header gives
pub record Packed (t : Tables) (widths lows highs : List ℕ) : Type 0 where
  pub widths_are : widths_in t ≡ widths
  pub lows_are : lows_in t ≡ lows
  pub highs_are : highs_in t ≡ highs
