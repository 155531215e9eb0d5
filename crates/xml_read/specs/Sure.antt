-- What a reading that writes kinds is told: that the text is accepted. A reading that writes none is told nothing.
-- Assumes nothing: these are definitions.
use Rattle.std.specs.Prelude.{◌≡◌, List, ℕ, ◌+◌, ◌<◌, length, Ok}
use Rattle.xml.specs.Grammar.{most_depth}
use Rattle.xml.specs.Reader.{accepted, read_sheet}
use Rattle.xml_pieces.specs.declared.Cursor.{Cursor}
use Rattle.xml_pieces.specs.Outcome.{done, outcome}

-- from a cursor on, with some elements open, the reading comes to kinds and not to a refusal
pub record Surely (bs : List ℕ) (depth : ℕ) (c : Cursor) (ls : List ℕ) : Type 0 where
  pub opened : List (List ℕ)
  pub deep : length opened + depth ≡ most_depth
  pub count : ℕ
  pub list : List ℕ
  pub accepts : outcome bs opened ls (Ok c) ≡ done count list

-- where the list has room
abbrev pub Sure : (text : List ℕ) → (depth : ℕ) → (from : Cursor) → (list : List ℕ) → Type 0
Sure bs d c ls = 0 < length ls → Surely bs d c ls

-- the same of the whole text
abbrev pub SureSheet : (text list : List ℕ) → Type 0
SureSheet bs ls = 0 < length ls → (ks : List ℕ) × (read_sheet bs ≡ accepted ks)
