-- A place, the tag after it, the up and the depth of new tags there and its label, as the code reads them. Assumes nothing.
use mathlib.Core.Path.{◌≡◌, sym, ◌∙◌}
use mathlib.Core.Bool.{Bool, true, false}
use mathlib.Core.List.{List}
use Prim.Native.Nat.{ℕ, suc, ◌≤◌, ◌<◌}
use borrow.Author.Tests.{eq-eqb, ne_eqb, eqb-false, lt-ltb, le-ltb}
use lib.Dec.{eqb}
use lib.ListN.{length}
use Rattle.store_types.specs.Limits.{no_tag}
use Rattle.store_types.specs.Layout.{at_count, at_first, at_next, at_up, at_kind, at_depth, word_at, field, label_at, Room, Records}
use Rattle.words.specs.Places.{TagOrNone, PlaceThere, behind, up_word, depth_word, watched_label}
use Rattle.words.proofs.Fields.{room, room_same, header_long}

-- the records of n tags are there, and a place is one of them or the front
pub place_in : {ws : List ℕ} {n y : ℕ} → Records ws n → TagOrNone n y → PlaceThere ws y
place_in h place = record { header = header_long h; tag = λ other. room h (place other) }

pub place_kept : {ws vs : List ℕ} {y : ℕ} → PlaceThere ws y → length vs ≡ length ws → PlaceThere vs y
place_kept h e = record { header = rw e h.header; tag = λ other. room_same (h.tag other) e }

-- A PLACE y: t says whether it is the front
module _ (ws : List ℕ) (y : ℕ) {t : Bool} (e : t ≡ eqb y no_tag) where
  pub place_room : PlaceThere ws y → t ≡ false → Room ws y
  place_room h p = h.tag (eqb-false y no_tag (sym e ∙ p))

  pub behind_front : t ≡ true → word_at ws at_first ≡ behind ws y
  unfolding behind
  behind_front p = rw (← e, p)

  pub behind_tag : {v : ℕ} → t ≡ false → v ≡ field ws y at_next → v ≡ behind ws y
  unfolding behind
  behind_tag p q = rw (← e, p) q

  pub up_front : t ≡ true → no_tag ≡ up_word ws y
  unfolding up_word
  up_front p = rw (← e, p)

  module _ (p : t ≡ false) {k : ℕ} (q : k ≡ field ws y at_kind) where
    pub up_begin : k ≡ 1 → y ≡ up_word ws y
    unfolding up_word
    up_begin one = rw (← e, p, ← q, eq-eqb k 1 one)

    pub up_other : {v : ℕ} → (k ≡ 1 → ⊥) → v ≡ field ws y at_up → v ≡ up_word ws y
    unfolding up_word
    up_other other v = rw (← e, p, ← q, ne_eqb k 1 other) v

    pub depth_begin : k ≡ 1 → suc (field ws y at_depth) ≡ depth_word ws y
    unfolding depth_word
    depth_begin one = rw (← e, p, ← q, eq-eqb k 1 one)

    pub depth_other : {v : ℕ} → (k ≡ 1 → ⊥) → v ≡ field ws y at_depth → v ≡ depth_word ws y
    unfolding depth_word
    depth_other other v = rw (← e, p, ← q, ne_eqb k 1 other) v

  pub depth_front : t ≡ true → 0 ≡ depth_word ws y
  unfolding depth_word
  depth_front p = rw (← e, p)

-- ITS LABEL
module _ (ws : List ℕ) (y : ℕ) where
  pub label_tag : {l : ℕ} → y < word_at ws at_count → l ≡ label_at ws y → l ≡ watched_label ws y
  unfolding watched_label
  label_tag p e = rw (lt-ltb y (word_at ws at_count) p) e

  pub label_none : word_at ws at_count ≤ y → 0 ≡ watched_label ws y
  unfolding watched_label
  label_none p = rw (le-ltb y (word_at ws at_count) p)
