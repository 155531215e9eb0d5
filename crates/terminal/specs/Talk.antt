-- What is read of an input and written of its lines' text, where the reader and the writer know their bytes. Assumes nothing:
-- these are definitions.
use Rattle.std.specs.Prelude.{List, [], ◌++◌, ℕ, Option}
use Rattle.std.specs.Io.KnownBytes.{Appends, Consumes, IsAtEnd}
use Rattle.line_reader.specs.Reads.{whole, last_line}
use Rattle.interpreter.specs.Session.{texts, Passes, Talks}

-- a piece is passed, and what is printed of it was written
pub record PassedOut (held words piece held' words' : List ℕ) (before after : Option (List ℕ)) : Type 0 where
  pub printed : List ℕ
  pub passes : Passes held words piece held' words' printed
  pub written : Appends before after printed

-- the input was read to its end, in some pieces; what a session prints of them was written, but for the text of a last line,
-- which is still in hand
pub record Told (words held' words' : List ℕ) (left left' before after : Option (List ℕ)) : Type 0 where
  pub pieces : List (List ℕ)
  pub printed : List ℕ
  pub talks : Talks [] words pieces (printed ++ texts words' (last_line held'))
  pub read : Consumes left left' (whole pieces)
  pub end : IsAtEnd left'
  pub written : Appends before after printed
