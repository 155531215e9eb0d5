-- What is promised of a session. proofs/Sessions.antt has the proof. Assumes nothing: these are definitions.
use Rattle.std.specs.Prelude.{◌≡◌, List, [], ◌↔◌, ℕ}
use Rattle.line_reader.specs.Lines.{lines}
use Rattle.line_reader.specs.Reads.{whole}
use Rattle.interpreter.specs.Session.{texts, Talks}

-- however an input comes in pieces, what is printed is what its lines print, however long they are: that, and nothing else
abbrev pub PiecesPrinted : Type 0
PiecesPrinted = (words : List ℕ) (pieces : List (List ℕ)) (printed : List ℕ) → Talks [] words pieces printed ↔ (printed ≡ texts words (lines (whole pieces)))
