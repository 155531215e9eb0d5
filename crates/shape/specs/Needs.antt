-- What the tests of the header ask, and the parts of the walk that each decides.
-- Assumes nothing: these are definitions.
use Rattle.std.specs.Prelude.{Bool, ◌&&◌, ◌||◌, List, ℕ, pred, ◌*◌, ◌-◌, ◌^◌, ◌≤◌, ◌<◌, ltb, leb, eqb, length, get_or}
use Rattle.store_types.specs.Limits.{most_tags}
use Rattle.store_types.specs.Layout.{at_version, at_s, at_r, at_height, header_words, word_at}
use Rattle.powers.specs.Tables.{entry, table_length, entry_limit, TableFits}
use Rattle.calls.specs.Store.{labels_fit}
use Rattle.calls.specs.Words.{header_width, header_in_range}

-- one half of degrees_fit
unfoldable pub degree_fits : (d : ℕ) → Bool
degree_fits d = leb 2 d && leb d 16

-- the version, the ranges and the room for n tags, and labels that fit
unfoldable pub frame_passes : List ℕ → Bool
frame_passes ws =
    (leb header_words (length ws) && eqb (word_at ws at_version) 1) && (header_in_range ws && labels_fit (header_width ws) (word_at ws at_height))

-- a header whose widths fit a table
pub record WidthsFit (ws : List ℕ) : Type 0 where
  pub long : header_words ≤ length ws
  pub s_most : word_at ws at_s ≤ 16
  pub r_most : word_at ws at_r ≤ 16
  pub table : TableFits 1 (word_at ws at_s * word_at ws at_r - 1) (word_at ws at_height)

-- the least height from h on whose root has room for n tags, where the limits grow by r from that of height h on
pub record SearchFits (n limit r h : ℕ) : Type 0 where
  pub few : n ≤ most_tags
  pub some : 1 ≤ limit
  pub narrow : limit ≤ entry_limit
  pub least : 2 ≤ r
  pub most : r ≤ 16
  pub low : h ≤ table_length

pub record LeastRoom (n limit r h top : ℕ) : Type 0 where
  pub low : h ≤ top
  pub fits : n < limit * r ^ (top - h)
  pub least : h < top → limit * r ^ (top - h - 1) ≤ n

-- s and r whose tables up to a height fit
pub record TablesFit (s r top : ℕ) : Type 0 where
  pub s_most : s ≤ 16
  pub r_most : r ≤ 16
  pub widths : TableFits 1 (s * r - 1) top
  pub lows : TableFits 1 r top
  pub highs : TableFits s r top

pub record RootFits (h : ℕ) (lo : List ℕ) : Type 0 where
  pub low : 1 ≤ h
  pub high : h < table_length
  pub lows : (j : ℕ) → get_or lo j 0 ≤ entry_limit

unfoldable pub root_passes : (n h : ℕ) → (lows highs : List ℕ) → Bool
root_passes n h lo hi = ltb n (entry hi h) && (eqb h 1 || leb (2 * entry lo (pred h)) n)
