-- Specimens of whole inputs, and what they print: a table, which proofs/Specimens.antt shows to hold. The first is the case
-- that document 01 prints; the others are worked out by hand from it, and from document 02, CR 4, where tags are marked. Assumes nothing: these are definitions.
use Rattle.std.specs.Prelude.{List, [], ◌∷◌, ℕ}
use Prim.Native.String.{String}
use Rattle.line_reader.specs.Lines.{lines}
use Rattle.interpreter.specs.Answer.{first_words}
use Rattle.interpreter.specs.Session.{texts}

pub record Script : Type 0 where
  pub input : String
  pub printed : String

-- over the store that the program starts from
unfoldable pub prints : (input : List ℕ) → List ℕ
prints cs = texts first_words (lines cs)

abbrev pub inputs : List Script
inputs =
    record {
      input = "load 2 2 7 BBEBEE\ntext 2\ntext 2\nlist\n";
      printed = "ok 6 2\nok 6 1 0\nok 7 4 2\n0 0\n1 1\n2 3\n7 4\n6 9\n3 10\n4 12\n5 13\nend 8\n";
    } ∷
    -- nothing is loaded yet; an empty line is none; the last line needs no line feed
    record { input = "list\n\nmark front"; printed = "no 2\n?\nno 2\n" } ∷
    -- a marked tag is not listed, and takes no text behind it
    record { input = "load 2 2 0 BTE\nmark 1\nmark 1\nmark front\nlist\ntext 1\ntext front\n"; printed = "ok 3 1\nok 1\nno 9\nno 8\n0 0\n2 2\nend 2\nno 9\nok 3 2 1\n" } ∷
    -- a marked tag that moves does not count as moved (document 02, CR 4)
    record { input = "load 2 2 7 TTTT\nmark 1\ntext 0\n"; printed = "ok 4 2\nok 1\nok 4 0 0\n" } ∷
    record { input = "load 2 2 7 TTTT\nmark 3\ntext 0\ntext 0\n"; printed = "ok 4 2\nok 1\nok 4 1 0\nok 5 3 1\n" } ∷
    record { input = "load 2 2 7 TTT\nmark 1\ntext 2\n"; printed = "ok 3 1\nok 1\nok 3 1 1\n" } ∷
    record { input = "load 2 2 7 BTE\nmark 0\ntext front\ntext front\n"; printed = "ok 3 1\nok 3\nok 3 0 1\nok 4 1 0\n" } ∷
    record { input = ""; printed = "" } ∷
    []
