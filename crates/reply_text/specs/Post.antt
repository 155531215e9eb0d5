-- What is written into lent bytes, at a place. Assumes nothing: these are definitions.
use Rattle.std.specs.Prelude.{◌≡◌, List, ◌++◌, ℕ, ◌+◌, ◌≤◌, length, take, drop}

-- bytes written at a place, all else as it was, and the place after them
pub record Written (out : List ℕ) (at : ℕ) (bytes after : List ℕ) (e : ℕ) : Type 0 where
  pub text : after ≡ take at out ++ (bytes ++ drop (at + length bytes) out)
  pub behind : e ≡ at + length bytes

-- room for any line of a reply, from a place of lent bytes on
pub record LentRoom (at : ℕ) (out : List ℕ) : Type 0 where
  pub fits : at + 64 ≤ length out
