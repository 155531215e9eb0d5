-- What is said of the readers of single constructs, from a place of the text on. Assumes nothing: these are definitions.
use Rattle.std.specs.Prelude.{◌≡◌, Bool, true, false, ◌&&◌, not, List, [], ◌∷◌, ℕ, ◌+◌, ◌≤◌, ◌<◌, length, drop, Option, Some, None, Result, Ok, Err}
use Rattle.lists.specs.Fronts.{starts_with}
use Rattle.xml.specs.Bytes.{less_than, end_opens, declaration_opens, instruction_opens}
use Rattle.xml.specs.Grammar.{at_place}
use Rattle.xml.specs.Reader.{Step, stuck, one_byte, piece, aside, opening, whole, closing, refused, preceded, text_kind, read_from}
use Rattle.store_types.specs.declared.refusal.Refusal.{Refusal}
use Rattle.store_types.specs.Replies.{number_of}
use Rattle.xml_pieces.specs.declared.Piece.{Piece}
use Rattle.xml_pieces.specs.declared.Piece.TheVariants as found

-- whether content goes on: neither the text's end nor an end tag
unfoldable pub goes_on : List ℕ → Bool
goes_on [] = false
goes_on (c ∷ cs) = not (starts_with end_opens (c ∷ cs))

-- whether < begins the text with no ! and no ? behind it
unfoldable pub opens_element : List ℕ → Bool
opens_element cs =
    starts_with (less_than ∷ []) cs && (not (starts_with declaration_opens cs) && not (starts_with instruction_opens cs))

-- WHAT A READER ASKS of the text from its place on. A construct that is neither an element nor an end tag
pub record ConstructHere (cs : List ℕ) : Type 0 where
  pub goes : goes_on cs ≡ true
  pub none : opens_element cs ≡ false

-- one that begins with <
pub record MarkupHere (cs : List ℕ) : Type 0 where
  pub markup : starts_with (less_than ∷ []) cs ≡ true
  pub here : ConstructHere cs

-- where a place lies behind another in the text
pub record Behind (bs : List ℕ) (i e : ℕ) : Type 0 where
  pub on : i < e
  pub within : e ≤ length bs

-- what a construct that is neither an element nor an end tag comes to, whatever is open and whether a text goes on: a piece of a
-- text, a comment, or the refusal
unfoldable pub PieceRight : (text : List ℕ) → (at : ℕ) → Result Piece Refusal → Type 0
PieceRight bs i (Ok (found.Text e)) =
    Behind bs i e
    × ((os : List (List ℕ)) (r : Bool) → read_from (at_place os) r 0 (drop i bs) ≡ preceded (text_kind r) (read_from (at_place os) true 0 (drop e bs)))
PieceRight bs i (Ok (found.Comment e)) =
    Behind bs i e × ((os : List (List ℕ)) (r : Bool) → read_from (at_place os) r 0 (drop i bs) ≡ read_from (at_place os) false 0 (drop e bs))
PieceRight bs i (Err k) = (os : List (List ℕ)) (r : Bool) → read_from (at_place os) r 0 (drop i bs) ≡ refused (number_of k)

-- where an end tag ends, by the reader's step over it
unfoldable pub closing_found : (from : ℕ) → Step → Option ℕ
closing_found a (stuck k) = None
closing_found a (one_byte c) = None
closing_found a (piece u) = None
closing_found a (aside u) = None
closing_found a (opening n u) = None
closing_found a (whole u) = None
closing_found a (closing u) = Some (a + u)
