-- One construct of the grammar and one step of the reader, from one place: what is to be shown of `next` so that the reader is
-- right. Each statement is a type. Assumes nothing: these are definitions.
use Rattle.std.specs.Prelude.{◌≡◌, Bool, true, false, List, ◌∷◌, ◌++◌, ◌↔◌, ◌⊎◌, ℕ, ◌≤◌, length}
use Rattle.std.proofs.Math.Option.{some}
use Rattle.xml.specs.Grammar.{Construct, datum, reference, cdata, comment, start, empty_element, stop, Tag, text_of, is_tag, Place, may_stand, most_depth, refused_opener, not_a_sheet, too_deep, not_read}
use Rattle.xml.specs.Scan.{SizedTag, tag_at}
use Rattle.xml.specs.Reader.{Step, next}
use Rattle.xml.specs.Reader as reader
use Rattle.xml.specs.Promise.{WholeTag}

-- the reader's step over a construct
unfoldable pub step_of : Construct → Step
step_of (datum c) = reader.Step.one_byte c
step_of (reference n) = reader.Step.piece (length (text_of (reference n)))
step_of (cdata cs) = reader.Step.piece (length (text_of (cdata cs)))
step_of (comment cs) = reader.Step.aside (length (text_of (comment cs)))
step_of (start t) = reader.Step.opening t.name (length (text_of (start t)))
step_of (empty_element t) = reader.Step.whole (length (text_of (empty_element t)))
step_of (stop n b) = reader.Step.closing (length (text_of (stop n b)))

unfoldable pub is_stuck : Step → Bool
is_stuck (reader.Step.stuck k) = true
is_stuck (reader.Step.one_byte c) = false
is_stuck (reader.Step.piece u) = false
is_stuck (reader.Step.aside u) = false
is_stuck (reader.Step.opening n u) = false
is_stuck (reader.Step.whole u) = false
is_stuck (reader.Step.closing u) = false

-- TAGS. A tag of the grammar with its > or />
unfoldable pub tag_construct : (lone : Bool) → Tag → Construct
tag_construct false t = start t
tag_construct true t = empty_element t

-- what the scanner of tags says of one
unfoldable pub size_of : (lone : Bool) → Tag → SizedTag
size_of l t = record { name = length t.name; used = length (text_of (tag_construct l t)); lone = l }

-- a tag that is written so is found, whatever stands behind it
unfoldable pub TagsFound : Type 0
TagsFound = (l : Bool) (t : Tag) (more : List ℕ) → is_tag t ≡ true → tag_at (text_of (tag_construct l t) ++ more) ≡ some (size_of l t)

-- what is found is written so
pub record TagThere (rest : List ℕ) (z : SizedTag) : Type 0 where
  pub tag : Tag
  pub more : List ℕ
  pub right : is_tag tag ≡ true
  pub written : text_of (tag_construct z.lone tag) ++ more ≡ rest
  pub size : size_of z.lone tag ≡ z

-- of a text that begins with <
unfoldable pub TagsWritten : Type 0
TagsWritten = (cs : List ℕ) (z : SizedTag) → tag_at (60 ∷ cs) ≡ some z → TagThere (60 ∷ cs) z

-- CONSTRUCTS. One that may stand at a place is found there, whatever stands behind it
unfoldable pub ConstructsFound : Type 0
ConstructsFound = (c : Construct) (p : Place) (more : List ℕ) → may_stand c p ≡ true → next p (text_of c ++ more) ≡ step_of c

-- what is found may stand there and is written so
pub record ConstructThere (p : Place) (rest : List ℕ) (s : Step) : Type 0 where
  pub construct : Construct
  pub more : List ℕ
  pub written : text_of construct ++ more ≡ rest
  pub stands : may_stand construct p ≡ true
  pub step : step_of construct ≡ s

unfoldable pub ConstructsWritten : Type 0
ConstructsWritten = (p : Place) (rest : List ℕ) → is_stuck (next p rest) ≡ false → ConstructThere p rest (next p rest)

-- where none is found, the number is the one that the rest and the depth say
pub record NumberRight (p : Place) (rest : List ℕ) (number : ℕ) : Type 0 where
  pub fourteen : (number ≡ not_read) ↔ (refused_opener rest ≡ true)
  pub thirteen : (number ≡ too_deep) ↔ ((length p.opened ≡ most_depth) × WholeTag rest)
  pub only : (number ≡ not_a_sheet) ⊎ ((number ≡ too_deep) ⊎ (number ≡ not_read))

-- at a depth that constructs that stand can reach
unfoldable pub NumbersRight : Type 0
NumbersRight = (p : Place) (rest : List ℕ) (n : ℕ) → length p.opened ≤ most_depth → next p rest ≡ reader.Step.stuck n → NumberRight p rest n
