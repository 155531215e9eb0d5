-- Content as the standard nests it ([39] element, [43] content): content holds elements and an element holds content (document 02, CR 1).
-- Assumes nothing: these are definitions.
use Rattle.std.specs.Prelude.{Bool, true, false, ◌&&◌, not, List, [], ◌∷◌, ◌++◌, ℕ, zero, suc, ltb}
use Rattle.lists.specs.Fronts.{starts_with}
use Rattle.xml.specs.Bytes.{cdata_closes}
use Rattle.xml.specs.Grammar.{Construct, datum, reference, cdata, comment, start, empty_element, stop, is_construct, Tag, is_tag, is_blank}

-- an item is a construct that leaves open what was open: data, a reference, a CDATA section, a comment, or the whole element of an
-- empty-element tag; the blank of an element stands in its end tag
pub data Content : Type 0 where
  nothing : Content
  item : Construct → Content → Content
  element : Tag → (inside : Content) → (blank : List ℕ) → Content → Content

unfoldable pub constructs : Content → List Construct
constructs nothing = []
constructs (item c rest) = c ∷ constructs rest
constructs (element t inside b rest) = start t ∷ constructs inside ++ (stop t.name b ∷ constructs rest)

-- an item by itself, with so much depth left, of which an empty element takes one; start and end tags are none
unfoldable pub item_right : (depth : ℕ) → Construct → Bool
item_right d (datum c) = is_construct (datum c)
item_right d (reference n) = is_construct (reference n)
item_right d (cdata cs) = is_construct (cdata cs)
item_right d (comment cs) = is_construct (comment cs)
item_right d (start t) = false
item_right d (empty_element t) = is_construct (empty_element t) && ltb 0 d
item_right d (stop n b) = false

-- each right by itself, and no element deeper than is left
unfoldable pub content_right : (depth : ℕ) → Content → Bool
content_right d nothing = true
content_right d (item c rest) = item_right d c && content_right d rest
content_right zero (element t inside b rest) = false
content_right (suc d) (element t inside b rest) = (is_tag t && is_blank b) && (content_right d inside && content_right (suc d) rest)

-- the character data that begins a row
unfoldable pub data_front : List Construct → List ℕ
data_front [] = []
data_front (datum c ∷ cs) = c ∷ data_front cs
data_front (reference n ∷ cs) = []
data_front (cdata bs ∷ cs) = []
data_front (comment bs ∷ cs) = []
data_front (start t ∷ cs) = []
data_front (empty_element t ∷ cs) = []
data_front (stop n b ∷ cs) = []

-- ]]> stands nowhere in data that stands together
unfoldable pub data_right : List Construct → Bool
data_right [] = true
data_right (c ∷ cs) = not (starts_with cdata_closes (data_front (c ∷ cs))) && data_right cs
