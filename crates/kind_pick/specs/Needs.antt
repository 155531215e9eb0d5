-- The kind word of a begin, end or text, with or without the mark. Assumes nothing: these are definitions.
use Rattle.std.specs.Prelude.{ℕ, ◌%◌, ◌≤◌, ◌<◌}

pub record KindWord (c : ℕ) : Type 0 where
  pub small : c < 32
  pub low : 1 ≤ c % 16
  pub high : c % 16 ≤ 3
