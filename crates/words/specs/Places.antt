-- Places: a tag, or the front of the book. Assumes nothing: these are definitions.
use Rattle.std.specs.Prelude.{◌≡◌, cond, List, ℕ, suc, ◌≤◌, ◌<◌, ltb, eqb, length}
use Rattle.store_types.specs.Limits.{no_tag}
use Rattle.store_types.specs.Layout.{at_count, at_first, header_words, at_next, at_up, at_kind, at_depth, word_at, field, label_at, Room}

-- no tag, or one of n
abbrev pub TagOrNone : (n tag : ℕ) → Type 0
TagOrNone n x = (x ≡ no_tag → ⊥) → x < n

-- the header is there, and the record of a place that is not the front
pub record PlaceThere (ws : List ℕ) (y : ℕ) : Type 0 where
  pub header : header_words ≤ length ws
  pub tag : (y ≡ no_tag → ⊥) → Room ws y

-- the tag behind a place: the first where the place is the front
unfoldable pub behind : List ℕ → (place : ℕ) → ℕ
behind ws y = cond (eqb y no_tag) (word_at ws at_first) (field ws y at_next)

-- the up of new tags: the place if it is a begin, else its up; at the front none
unfoldable pub up_word : List ℕ → (place : ℕ) → ℕ
up_word ws y = cond (eqb y no_tag) no_tag (cond (eqb (field ws y at_kind) 1) y (field ws y at_up))

-- how many elements are around new tags: as many as around the place, one more after a begin; at the front none
unfoldable pub depth_word : List ℕ → (place : ℕ) → ℕ
depth_word ws y = cond (eqb y no_tag) 0 (cond (eqb (field ws y at_kind) 1) (suc (field ws y at_depth)) (field ws y at_depth))

-- the label at a place; 0, that of the first leaf, where the place is no tag of the book
unfoldable pub watched_label : List ℕ → (place : ℕ) → ℕ
watched_label ws y = cond (ltb y (word_at ws at_count)) (label_at ws y) 0
