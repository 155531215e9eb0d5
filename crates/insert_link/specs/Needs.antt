-- What the functions of this crate ask of their callers. Assumes nothing: these are definitions.
use Rattle.std.specs.Prelude.{◌≡◌, true, List, map, ℕ, ◌+◌, ◌≤◌, length}
use Rattle.store_types.specs.Layout.{Records}
use Rattle.words.specs.Places.{TagOrNone, behind, up_word, depth_word}
use Rattle.calls.specs.Kind.{kind_of}
use Rattle.calls.specs.Nesting.{nests}
use Rattle.calls.specs.Load.{all_kinds}

-- there is room for tags of these kinds from number n on, at least one; they nest; the place, the tag behind it and the begin
-- around new tags there are each one of n or none; and no more than n begins are around these
pub record NewRowFits (ws cs : List ℕ) (n y : ℕ) : Type 0 where
  pub records : Records ws (n + length cs)
  pub some : 1 ≤ length cs
  pub kinds : all_kinds cs ≡ true
  pub nesting : nests 0 (map kind_of cs) ≡ true
  pub place : TagOrNone n y
  pub next : TagOrNone n (behind ws y)
  pub up : TagOrNone n (up_word ws y)
  pub deep : depth_word ws y ≤ n
