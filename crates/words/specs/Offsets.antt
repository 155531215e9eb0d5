-- Where a tag's record stands, as a walk carries it. Assumes nothing: these are definitions.
use Rattle.std.specs.Prelude.{◌≡◌, List, ℕ, ◌*◌}
use Rattle.store_types.specs.Layout.{tag_words, Room}

-- in words from the first record on
abbrev pub offset_of : (tag : ℕ) → ℕ
offset_of x = tag_words * x

-- a record stands there, and the whole of it
pub record RecordAt (ws : List ℕ) (at : ℕ) : Type 0 where
  pub tag : ℕ
  pub there : at ≡ offset_of tag
  pub room : Room ws tag
