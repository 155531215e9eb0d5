-- The tag before a place of an image and the tag behind it, by its words. Assumes nothing.
use mathlib.Core.Path.{◌≡◌}
use mathlib.Core.Bool.{false}
use mathlib.Core.List.{List, ◌∷◌, ◌++◌}
use Prim.Native.Nat.{ℕ, zero, suc, ◌≤◌, ◌<◌}
use native.Mathlib.Omega.{arith}
use borrow.Author.Tests.{ne_eqb}
use lib.Dec.{eqb}
use lib.ListN.{length, get_or}
use Rattle.store_types.specs.Limits.{no_tag, most_tags}
use Rattle.store_types.specs.Layout.{at_first}
use Rattle.words.specs.Places.{behind}
use Rattle.edit_model.specs.Image.{Image, image_header, image_words}
use Rattle.edit_model.proofs.Image.{Proper, tag_below, image_header_word}
use Rattle.edit_model.proofs.Along.{next_at}

abbrev pub tag_before : Image → (p : ℕ) → ℕ
tag_before v p = get_or (no_tag ∷ v.tags) p no_tag

abbrev pub tag_behind : Image → (p : ℕ) → ℕ
tag_behind v p = get_or v.tags p no_tag

module _ {v : Image} (h : Proper v) (few : length v.facts ≤ most_tags) where
  pub is_tag : (i : ℕ) → i < length v.tags → eqb (get_or v.tags i no_tag) no_tag ≡ false
  is_tag i l = ne_eqb (get_or v.tags i no_tag) no_tag (λ e. omega (arith, tag_below h i no_tag l))

  pub behind_place : (rest : List ℕ) (p : ℕ) → p ≤ length v.tags → behind (image_words v ++ rest) (tag_before v p) ≡ tag_behind v p
  unfolding behind image_header
  behind_place rest zero fits = image_header_word v rest at_first (omega arith)
  behind_place rest (suc q) fits = rw (is_tag q fits) (next_at h rest q no_tag fits)
