-- Lines put together from pieces of input, as functions on lists. Assumes nothing: these are definitions.
use Rattle.std.specs.Prelude.{◌≡◌, Bool, true, false, cond, List, [], ◌∷◌, ◌++◌, ℕ, ◌+◌, ◌≤◌, eqb, length, take}

-- the bytes of a piece before its first line feed, all where there is none
unfoldable pub stretch : (piece : List ℕ) → List ℕ
stretch [] = []
stretch (c ∷ cs) = let rest = stretch cs in cond (eqb c 10) [] (c ∷ rest)

unfoldable pub has_feed : (piece : List ℕ) → Bool
has_feed [] = false
has_feed (c ∷ cs) = let rest = has_feed cs in cond (eqb c 10) true rest

-- a line in hand in lent bytes: as much of it as they have room for stands at their front
pub record Holds (line buffer : List ℕ) (held : ℕ) : Type 0 where
  pub fits : held ≤ length buffer
  pub front : take held buffer ≡ take (length buffer) line

-- a stretch of a piece, gone after what was in hand
pub record Gathers (begun piece : List ℕ) (from : ℕ) (buffer : List ℕ) (at held : ℕ) : Type 0 where
  pub place : at ≡ from + length (stretch piece)
  pub holds : Holds (begun ++ stretch piece) buffer held
