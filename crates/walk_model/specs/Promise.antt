-- What the walk decides. Each statement is a type, proved in proofs/. Assumes nothing.
use Rattle.std.specs.Prelude.{◌≡◌, true, List, ◌↔◌, ℕ, suc, ◌*◌, ◌^◌, ◌≤◌, ◌<◌, length}
use Rattle.store_types.specs.Limits.{label_limit}
use Rattle.powers.specs.Tables.{entry, table_length}
use Rattle.tree.specs.Good.{Good}
use Rattle.tree.specs.Forest.{Forest, leaves, labels}
use Rattle.tree.specs.Promise.{Widths}
use Rattle.calls.specs.Store.{Store}
use Rattle.calls.specs.Words.{Says}
use Rattle.walk_model.specs.Levels.{Tables, start_levels, labels_pass}
use Rattle.walk_model.specs.Walk.{words_pass}

-- tables that are right up to height H, whose widths a label can hold
pub record TablesRight (s r : ℕ) (w : ℕ → ℕ) (top : ℕ) (t : Tables) : Type 0 where
  pub top_fits : top < table_length
  pub long : length t.widths ≡ table_length
  pub widths : (h : ℕ) → h ≤ top → entry t.widths h ≡ w h
  pub narrow : (h : ℕ) → h ≤ top → w h < label_limit
  pub lows : (h : ℕ) → h ≤ top → entry t.lows h ≡ r ^ h
  pub highs : (h : ℕ) → h ≤ top → entry t.highs h ≡ s * r ^ h

-- a tree under the root, within its limits, with these tags and labels
pub record TreeWith (s r : ℕ) (w : ℕ → ℕ) (under : ℕ) (tags ls : List ℕ) : Type 0 where
  pub forest : Forest
  pub good : Good s r forest under
  pub tags_are : leaves forest ≡ tags
  pub labels_are : labels forest w under 0 ≡ ls

-- labels pass if and only if a tree within its limits has them, whatever its tags
unfoldable pub LevelsRight : Type 0
LevelsRight =
    (s r : ℕ) (w : ℕ → ℕ) (t : Tables) (under : ℕ) (xs ls : List ℕ) → 2 ≤ s → 2 ≤ r → Widths s r w → TablesRight s r w (suc under) t →
    length xs ≡ length ls → length ls < s * r ^ suc under → ((under ≡ 0 → ⊥) → 1 ≤ length ls) →
    (labels_pass t under 0 0 (start_levels t) ls ≡ true) ↔ TreeWith s r w under xs ls

-- words pass if and only if they say a store
unfoldable pub WalkRight : Type 0
WalkRight = (ws : List ℕ) → (words_pass ws ≡ true) ↔ ((st : Store) × Says ws st)
