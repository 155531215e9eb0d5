-- Room for what is written. Assumes nothing: these are definitions.
use Rattle.std.specs.Prelude.{List, ℕ, ◌+◌, ◌≤◌, length}

-- for any line of a reply, at the end of a list of at most n bytes
pub record LineRoom (n : ℕ) (out : List ℕ) : Type 0 where
  pub fits : length out + 64 ≤ n
