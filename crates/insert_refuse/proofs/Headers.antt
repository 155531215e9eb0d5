-- The header of words that say a store: each number in its range, and tables of its powers fit. Assumes nothing.
use mathlib.Core.Path.{◌≡◌}
use mathlib.Core.Bool.{true}
use mathlib.Core.List.{List}
use Prim.Native.Nat.{ℕ, pred, ◌*◌, ◌^◌, ◌≤◌, ◌<◌}
use native.Mathlib.Omega.{arith}
use lib.ListN.{length}
use Rattle.store_types.specs.Limits.{most_tags, most_levels}
use Rattle.lists.proofs.Tests.{and_left}
use Rattle.store_types.specs.Layout.{at_s, at_r, at_height, at_count, header_words, word_at, words_for}
use Rattle.powers.proofs.TableLaws.{table_at}
use Rattle.powers.specs.Tables.{entry, table}
use Rattle.shape.specs.Needs.{SearchFits}
use Rattle.words.proofs.Fields.{header_fits}
use Rattle.shape.proofs.Fits.{Fits, degrees_product, highs_fit}
use Rattle.calls.specs.Store.{power_fits}
use Rattle.calls.specs.Words.{Says, header_width}
use Rattle.calls.specs.Replies.{said}
use Rattle.calls_laws.proofs.Tests.{Degrees}
use Rattle.walk_model.specs.Walk.{header_passes, walk, shape_of, start, words_pass}
use Rattle.walk_model.specs.Promise.{WalkRight}
use Rattle.walk_model.proofs.Shapes.{Header, header_facts}
use Rattle.walk_model.proofs.WalkRight.{walk_right}

-- THE NUMBERS OF A HEADER
pub record Ranges (s r h n : ℕ) : Type 0 where
  pub degrees : Degrees s r
  pub product : (4 ≤ s * r) × (s * r ≤ 256)
  pub low : 1 ≤ h
  pub high : h ≤ most_levels
  pub labels : power_fits s r h ≡ true
  pub few : n ≤ 200000
  pub below : n < s * r ^ h

module _ (ws : List ℕ) (h : Says ws (said ws)) where
  pub header_of : Header ws (word_at ws at_s) (word_at ws at_r) (pred (word_at ws at_height)) (word_at ws at_count)
  unfolding Says words_pass WalkRight
  header_of =
      header_facts ws (and_left (header_passes ws) (walk ws (shape_of ws) (word_at ws at_count) 0 (start ws)) ((walk_right ws).1 (said ws, h)))

  pub ranges : Ranges (word_at ws at_s) (word_at ws at_r) (word_at ws at_height) (word_at ws at_count)
  unfolding header_width
  ranges =
      let f = header_of in
      record {
        degrees = f.degrees;
        product = degrees_product f.degrees.s_least f.degrees.s_most f.degrees.r_least f.degrees.r_most;
        low = omega (arith, f.levels);
        high = rw f.levels f.high;
        labels = rw (← f.levels) at f.labels_fit;
        few = f.few;
        below = rw f.levels f.below;
      }

  pub room : words_for header_words (word_at ws at_count) ≤ length ws
  room = header_of.room

  pub header_room : header_words ≤ length ws
  header_room = omega (arith, room, header_fits (word_at ws at_count))

-- TABLES of its powers
pub fits_of : {s r h n : ℕ} → Ranges s r h n → Fits s r h
fits_of f =
    record { s_least = f.degrees.s_least; s_most = f.degrees.s_most; r_least = f.degrees.r_least; r_most = f.degrees.r_most; high = f.high; labels = f.labels }

-- what stands in them
pub power_at : (v b top : ℕ) {t : List ℕ} → t ≡ table v b top → (k : ℕ) → k ≤ top → entry t k ≡ v * b ^ k
power_at v b top e k l = rw e (table_at v b top k l)

pub last_power : (v b top : ℕ) {t : List ℕ} → t ≡ table v b top → entry t top ≡ v * b ^ top
last_power v b top e = power_at v b top e top (omega arith)

-- from the limit of its root a height can be searched
pub search_from : {s r h n all limit g : ℕ} → Ranges s r h n → all ≤ most_tags → g ≡ h → limit ≡ s * r ^ h → SearchFits all limit r g
search_from f few same is =
    record {
      few = few;
      some = omega (arith, f.below);
      narrow = rw is (highs_fit (fits_of f)).last;
      least = f.degrees.r_least;
      most = f.degrees.r_most;
      low = omega (arith, f.high);
    }
