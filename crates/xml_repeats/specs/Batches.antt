-- Attributes of one tag whose names are looked at in batches, as many at once as an index has places. Assumes nothing: these are
-- definitions.
use Rattle.std.specs.Prelude.{◌≡◌, List, ◌++◌, ℕ, ◌≤◌, length}
use Rattle.name_index.specs.Index.{places, Noted}
use Rattle.xml_attributes.specs.Chain.{Chain}
use Rattle.xml_repeats.specs.declared.Batch.{Batch}

-- attributes from a place up to another within the text, and their names
pub record Chained (text : List ℕ) (from to : ℕ) : Type 0 where
  pub row : List (List ℕ)
  pub chain : Chain text to from row
  pub within : to ≤ length text

-- the same: their names, how many there are, and where they begin if that many can be noted
pub record Met (text : List ℕ) (from to count : ℕ) (ss : List ℕ) : Type 0 where
  pub row : List (List ℕ)
  pub chain : Chain text to from row
  pub within : to ≤ length text
  pub counted : count ≡ length row
  pub noted : count ≤ places → Noted text ss row

-- a batch of them from the first on, and those after it
pub record Filled (text : List ℕ) (to : ℕ) (row : List (List ℕ)) (ss : List ℕ) (b : Batch) : Type 0 where
  pub early : List (List ℕ)
  pub late : List (List ℕ)
  pub split : row ≡ early ++ late
  pub counted : b.count ≡ length early
  pub noted : Noted text ss early
  pub rest : Chain text to b.end late
