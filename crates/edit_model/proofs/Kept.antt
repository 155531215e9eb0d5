-- What labels written along a row leave of the words: the header. Assumes nothing.
use mathlib.Core.Path.{◌≡◌, refl, ◌∙◌}
use mathlib.Core.List.{List, [], ◌∷◌}
use Prim.Native.Nat.{ℕ, ◌<◌}
use Rattle.store_types.specs.Layout.{header_words, word_at, with_label}
use Rattle.words.proofs.Fields.{header_kept_label}
use Rattle.edit_model.specs.Relabel.{relabel}

module _ (i : ℕ) (low : i < header_words) where
  pub relabel_header : (xs ls ws : List ℕ) → word_at (relabel xs ls ws).words i ≡ word_at ws i
  unfolding relabel
  relabel_header [] ls ws = refl
  relabel_header (x ∷ xs) [] ws = refl
  relabel_header (x ∷ xs) (l ∷ ls) ws = relabel_header xs ls (with_label ws x l) ∙ header_kept_label ws x l i low
