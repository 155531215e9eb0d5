-- Where a record stands, in words from the first record on. Assumes nothing.
use mathlib.Core.Path.{◌≡◌}
use mathlib.Core.List.{List}
use Prim.Native.Nat.{ℕ, ◌+◌, ◌*◌, ◌≤◌, ◌<◌}
use native.Mathlib.Omega.{arith}
use lib.ListN.{length, get_or}
use Rattle.store_types.specs.Layout.{header_words, tag_words, records_at, words_for, field, label_at, Records}
use Rattle.words.specs.Offsets.{offset_of, RecordAt}

module _ (ws : List ℕ) (p : ℕ) where
  pub offset_field : (k x : ℕ) → p ≡ offset_of x → get_or ws (p + k + header_words) 0 ≡ field ws x k
  unfolding field records_at
  offset_field k x e = let s : p + k + header_words ≡ header_words + tag_words * x + k = omega arith in rw s

  pub offset_label : (x : ℕ) → p ≡ offset_of x → get_or ws (header_words + p) 0 ≡ label_at ws x
  unfolding label_at records_at
  offset_label x e = let s : header_words + p ≡ header_words + tag_words * x = omega arith in rw s

  pub offset_fits : RecordAt ws p → header_words + p + tag_words < length ws + 1
  unfolding records_at
  offset_fits h = omega (arith, h.there, h.room.fits)

-- an offset behind the words is no tag's among n
pub offset_beyond : {ws : List ℕ} {n x p : ℕ} → Records ws n → p ≡ offset_of x → length ws ≤ p → n ≤ x
unfolding words_for
offset_beyond h e far = omega (arith, h.long)
