-- What a reader that has come to some place, and has written some kinds, comes to in the end. The readers' contracts say that it
-- is the same before and after each of them. Assumes nothing: these are definitions.
use Rattle.std.specs.Prelude.{◌≡◌, Bool, false, List, ◌∷◌, ℕ, ◌+◌, ◌≤◌, eqb, length, drop, Result, Ok, Err}
use Rattle.std.proofs.lemmas.List.Edits.{sets}
use Rattle.xml.specs.Grammar.{at_place, most_depth}
use Rattle.xml.specs.Reader.{Reading, accepted, refused, read_from}
use Rattle.xml_pieces.specs.declared.Cursor.{Cursor}
use Rattle.store_types.specs.declared.refusal.Refusal.{Refusal}
use Rattle.store_types.specs.Replies.{number_of}
use Rattle.xml_pieces.specs.Pieces.{goes_on}

-- how many kinds there are and what the lent list holds, as far as it has room; or the refusal
pub data Outcome : Type 0 where
  done : (count : ℕ) → (list : List ℕ) → Outcome
  failed : (number : ℕ) → Outcome

-- of a reading of which so many kinds have been written
unfoldable pub finish : (count : ℕ) → (list : List ℕ) → Reading → Outcome
finish n ls (accepted ks) = done (n + length ks) (sets ls n ks)
finish n ls (refused k) = failed k

-- whether a cursor stands in a text
abbrev pub in_text : Cursor → Bool
in_text c = eqb c.in_text 1

-- where a reader has come to, or the refusal
abbrev pub Part : Type 0
Part = Result Cursor Refusal

-- from a cursor, or after a refusal, with these elements open
unfoldable pub outcome : (text : List ℕ) → (opened : List (List ℕ)) → (list : List ℕ) → Part → Outcome
outcome bs os ls (Ok c) = finish c.count ls (read_from (at_place os) (in_text c) 0 (drop c.at bs))
outcome bs os ls (Err k) = failed (number_of k)

-- a cursor by its parts
abbrev pub cursor_at : (at count in_text : ℕ) → Cursor
cursor_at e n t = record { at = e; count = n; in_text = t }

-- a cursor stands in the text, and no more kinds have been given than bytes were read
pub record InText (bs : List ℕ) (c : Cursor) : Type 0 where
  pub within : c.at ≤ length bs
  pub counted : c.count ≤ c.at

-- where a reader has come to, at least so far
unfoldable pub Reached : (text : List ℕ) → (least : ℕ) → Part → Type 0
Reached bs i (Ok c) = InText bs c × (i ≤ c.at)
Reached bs i (Err k) = Unit {0}

-- a reader with so much depth left: whatever elements are open, it comes to the same, and it has come at least so far
pub record ReadsOn (bs : List ℕ) (depth : ℕ) (from : Cursor) (least : ℕ) (ls ls' : List ℕ) (part : Part) : Type 0 where
  pub same : (os : List (List ℕ)) → length os + depth ≡ most_depth → outcome bs os ls' part ≡ outcome bs os ls (Ok from)
  pub reached : Reached bs least part
  pub long : length ls' ≡ length ls

-- behind the content of an element of this name: whatever elements are open around it, its end tag comes to the same
pub record Closes (bs name : List ℕ) (from : Cursor) (ls ls' : List ℕ) (part : Part) : Type 0 where
  pub same : (os : List (List ℕ)) → outcome bs os ls' part ≡ outcome bs (name ∷ os) ls (Ok from)
  pub reached : Reached bs from.at part
  pub long : length ls' ≡ length ls

-- content has been read up to where it ends
unfoldable pub Ended : (text : List ℕ) → Part → Type 0
Ended bs (Ok c) = goes_on (drop c.at bs) ≡ false
Ended bs (Err k) = Unit {0}
