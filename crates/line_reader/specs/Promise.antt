-- What is promised of a reader. proofs/Pieces.antt has the proof. Assumes nothing: these are definitions.
use Rattle.std.specs.Prelude.{◌≡◌, List, [], map, ◌↔◌, ℕ, ◌≤◌, take}
use Rattle.line_reader.specs.Lines.{lines}
use Rattle.line_reader.specs.Reads.{Reads, whole}

-- however an input comes in pieces, the lines handed out are the input's, each with as many bytes as the buffer holds: these
-- are read, and no others
abbrev pub AnyPieces : Type 0
AnyPieces = (n : ℕ) → 1 ≤ n → (pieces handed : List (List ℕ)) → Reads n [] pieces handed ↔ (handed ≡ map (take n) (lines (whole pieces)))
