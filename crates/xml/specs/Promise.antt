-- What is promised of sheets (document 02, CR 1). Each statement is a type; its proof stands in crate xml_laws.
-- Assumes nothing: these are definitions.
use Rattle.std.specs.Prelude.{◌≡◌, true, false, List, [], ◌++◌, map, ◌↔◌, ◌⊎◌, ℕ, ◌≤◌, ◌<◌, length, Ok, Err}
use Rattle.lists.specs.Fronts.{in_front}
use Rattle.calls.specs.Kind.{kind_of}
use Rattle.calls.specs.Load.{all_kinds}
use Rattle.calls.specs.Nesting.{nests}
use Rattle.xml.specs.Grammar.{Construct, start, empty_element, text_of, texts, Tag, is_tag, Place, top, may_stand, all_stand, place_after_all, kinds_from, most_depth, refused_opener, not_a_sheet, too_deep, not_read}
use Rattle.xml.specs.Content.{Content, constructs, content_right, data_right}
use Rattle.xml.specs.Reader.{accepted, refused, read_sheet}
use Rattle.xml.specs.Replies.{list_short, sheet_reply, sheet_list}

-- IN THE GRAMMAR, with these kinds: a row of constructs, each where it may stand, with no element open at the end
pub record InGrammar (text kinds : List ℕ) : Type 0 where
  pub row : List Construct
  pub written : texts row ≡ text
  pub stand : all_stand row top ≡ true
  pub closed : (place_after_all row top).opened ≡ []
  pub give : kinds_from false row ≡ kinds

-- no construct that may stand there begins the rest
unfoldable pub Stuck : Place → (rest : List ℕ) → Type 0
Stuck p rest = (c : Construct) (more : List ℕ) → text_of c ++ more ≡ rest → may_stand c p ≡ true → ⊥

-- a whole start tag or empty-element tag begins the rest
pub record WholeTag (rest : List ℕ) : Type 0 where
  pub tag : Tag
  pub more : List ℕ
  pub right : is_tag tag ≡ true
  pub written : (text_of (start tag) ++ more ≡ rest) ⊎ (text_of (empty_element tag) ++ more ≡ rest)

-- OUTSIDE IT, with this number: constructs up to the first that cannot be completed, or to the end with an element open
pub record Outside (text : List ℕ) (number : ℕ) : Type 0 where
  pub before : List Construct
  pub rest : List ℕ
  pub parted : texts before ++ rest ≡ text
  pub stand : all_stand before top ≡ true
  pub stuck : Stuck (place_after_all before top) rest
  pub not_whole : rest ≡ [] → (place_after_all before top).opened ≡ [] → ⊥
  pub fourteen : (number ≡ not_read) ↔ (refused_opener rest ≡ true)
  pub thirteen : (number ≡ too_deep) ↔ ((length (place_after_all before top).opened ≡ most_depth) × WholeTag rest)
  pub only : (number ≡ not_a_sheet) ⊎ ((number ≡ too_deep) ⊎ (number ≡ not_read))

-- the reader replies what the grammar says, for every text
pub record SheetsRight : Type 0 where
  pub accepts : (text kinds : List ℕ) → (read_sheet text ≡ accepted kinds) ↔ InGrammar text kinds
  pub refuses : (text : List ℕ) (number : ℕ) → (read_sheet text ≡ refused number) ↔ Outside text number

-- so every text is in the grammar or outside it, and in one way
unfoldable pub OneKinds : Type 0
OneKinds = (text ks ls : List ℕ) → InGrammar text ks → InGrammar text ls → ks ≡ ls

unfoldable pub OneNumber : Type 0
OneNumber = (text : List ℕ) (m n : ℕ) → Outside text m → Outside text n → m ≡ n

unfoldable pub NotBoth : Type 0
NotBoth = (text kinds : List ℕ) (number : ℕ) → InGrammar text kinds → Outside text number → ⊥

unfoldable pub Either : Type 0
Either = (text : List ℕ) → ((kinds : List ℕ) × InGrammar text kinds) ⊎ ((number : ℕ) × Outside text number)

-- IN THE GRAMMAR as the standard nests it: content, right in itself, no deeper than the greatest depth
pub record Nested (text kinds : List ℕ) : Type 0 where
  pub content : Content
  pub written : texts (constructs content) ≡ text
  pub right : content_right most_depth content ≡ true
  pub parted : data_right (constructs content) ≡ true
  pub give : kinds_from false (constructs content) ≡ kinds

unfoldable pub SheetsNestAsTrees : Type 0
SheetsNestAsTrees = (text kinds : List ℕ) → InGrammar text kinds ↔ Nested text kinds

-- what a sheet gives is never refused with 4 or 5 by a load
unfoldable pub KindsNest : Type 0
KindsNest = (text kinds : List ℕ) → InGrammar text kinds → (all_kinds kinds ≡ true) × (nests 0 (map kind_of kinds) ≡ true)

-- THE CALL on a text and a lent list. The text is in the grammar, with so many kinds, and the list has room for them
pub record Fits (text list : List ℕ) (count : ℕ) : Type 0 where
  pub kinds : List ℕ
  pub sheet : InGrammar text kinds
  pub counted : length kinds ≡ count
  pub room : count ≤ length list

-- the text is in the grammar, and the list is shorter than its kinds
pub record TooShort (text list : List ℕ) : Type 0 where
  pub kinds : List ℕ
  pub sheet : InGrammar text kinds
  pub short : length list < length kinds

-- accepted exactly where the list has room for the kinds of a text in the grammar, which then stand in front of a rest that is as it
-- was; 14, 13, 12 and 11 each exactly under its condition, and nothing changed; no other refusal; and a list of as many bytes as the
-- text is never too short
pub record SheetRight (text list : List ℕ) : Type 0 where
  pub accepts : (count : ℕ) → (sheet_reply text list ≡ Ok count) ↔ Fits text list count
  pub writes : (count : ℕ) (fits : Fits text list count) → sheet_list text list ≡ in_front fits.kinds list
  pub fourteen : (sheet_reply text list ≡ Err not_read) ↔ Outside text not_read
  pub thirteen : (sheet_reply text list ≡ Err too_deep) ↔ Outside text too_deep
  pub twelve : (sheet_reply text list ≡ Err not_a_sheet) ↔ Outside text not_a_sheet
  pub eleven : (sheet_reply text list ≡ Err list_short) ↔ TooShort text list
  pub leaves : (number : ℕ) → sheet_reply text list ≡ Err number → sheet_list text list ≡ list
  pub no_other : (number : ℕ) → sheet_reply text list ≡ Err number → (number ≡ list_short) ⊎ ((number ≡ not_a_sheet) ⊎ ((number ≡ too_deep) ⊎ (number ≡ not_read)))
  pub as_many : length (sheet_list text list) ≡ length list
  pub suffices : length text ≤ length list → TooShort text list → ⊥

unfoldable pub EverySheet : Type 0
EverySheet = (text list : List ℕ) → SheetRight text list
