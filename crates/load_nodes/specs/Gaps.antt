-- Tables by height of a load, and the gaps before its nodes. Assumes nothing: these are definitions.
use Rattle.std.specs.Prelude.{◌≡◌, List, ℕ, zero, suc, ◌*◌, ◌-◌, ◌≤◌, ◌<◌, length}
use Rattle.powers.specs.Tables.{entry, entry_limit, table_length, table_under}

-- what a table is asked of: a sum of entries fits
pub record EntriesFit (t : List ℕ) : Type 0 where
  pub each : (h : ℕ) → entry t h ≤ entry_limit

-- and one of widths: a node of height h + 1 has room for r of height h
pub record WidthsRise (r u : ℕ) (w : List ℕ) : Type 0 where
  pub height : u ≤ table_under
  pub entries : EntriesFit w
  pub grows : (h : ℕ) → h < u → r * entry w h ≤ entry w (suc h)

-- THE GAP before a node of height j: so much further does it begin than one more leaf of the node before it would
unfoldable pub gap : (r : ℕ) → (widths : List ℕ) → (j : ℕ) → ℕ
gap r w zero = 0
gap r w (suc j) = entry w (suc j) - r * entry w j

-- of the nodes of heights 1 to u, by height less one
pub record GapsOf (r u : ℕ) (w gaps : List ℕ) : Type 0 where
  pub size : length gaps ≡ table_length
  pub entries : EntriesFit gaps
  pub each : (h : ℕ) → h < u → entry gaps h ≡ gap r w (suc h)
