-- Rows of constructs and what the grammar says of each, with no reader, in one table, which proofs/RowSpecimens.antt shows to hold.
-- Expected values are worked out by hand from document 02, CR 1. Assumes nothing: these are definitions.
use Rattle.std.specs.Prelude.{Bool, true, false, ◌&&◌, not, List, [], ◌∷◌, ◌++◌, map, ℕ, replicate}
use Prim.Native.String.{String}
use Rattle.lists.specs.Lists.{same}
use Rattle.lists.specs.Texts.{bytes}
use Rattle.xml.specs.Bytes.{quotation, apostrophe}
use Rattle.xml.specs.Grammar.{Value, no_more, byte, named, Attribute, Tag, Construct, datum, reference, cdata, comment, start, empty_element, stop, texts, top, may_stand, all_stand, place_after_all, kinds_from}

-- a row that is a sheet, with its text and its kinds; one that stands and leaves an element open; and a construct that may not stand
-- where it follows a row that stands
pub data RowSpecimen : Type 0 where
  is_sheet : (row : List Construct) → (text kinds : List ℕ) → RowSpecimen
  left_open : (row : List Construct) → RowSpecimen
  no_place : (row : List Construct) → (next : Construct) → RowSpecimen

unfoldable pub none_open : (opened : List (List ℕ)) → Bool
none_open [] = true
none_open (n ∷ ns) = false

unfoldable pub row_holds : RowSpecimen → Bool
row_holds (is_sheet cs bs ks) =
    all_stand cs top && (none_open (place_after_all cs top).opened && (same (texts cs) bs && same (kinds_from false cs) ks))
row_holds (left_open cs) = all_stand cs top && not (none_open (place_after_all cs top).opened)
row_holds (no_place cs c) = all_stand cs top && not (may_stand c (place_after_all cs top))

-- constructs from texts
abbrev all_data : String → List Construct
all_data s = map datum (bytes s)

abbrev plain : (name : String) → Tag
plain s = record { name = bytes s; attributes = []; blank = [] }

abbrev with_attributes : List Attribute → Tag
with_attributes as' = record { name = bytes "a"; attributes = as'; blank = [] }

-- one space, a name, =, and a value between two quotation marks
abbrev attribute : (name : String) → Value → Attribute
attribute s v = record { gap = bytes " "; name = bytes s; before = []; after = []; quote = quotation; value = v }

abbrev a_start : Construct
a_start = start (plain "a")

abbrev a_stop : Construct
a_stop = stop (bytes "a") []

abbrev pub row_table : List RowSpecimen
row_table =
    is_sheet [] [] [] ∷
    -- a text is the longest run of data, references and CDATA, a blank one too
    is_sheet (all_data " \t\r\n") (bytes " \t\r\n") (3 ∷ []) ∷
    is_sheet (all_data "x" ++ (reference (bytes "lt") ∷ cdata (bytes "w") ∷ all_data "y")) (bytes "x&lt;<![CDATA[w]]>y") (3 ∷ []) ∷
    is_sheet (cdata [] ∷ reference (bytes "gt") ∷ []) (bytes "<![CDATA[]]>&gt;") (3 ∷ []) ∷
    is_sheet (all_data "x" ++ (empty_element (plain "a") ∷ all_data "y")) (bytes "x<a/>y") (3 ∷ 1 ∷ 2 ∷ 3 ∷ []) ∷
    -- the five references
    is_sheet (reference (bytes "lt") ∷ []) (bytes "&lt;") (3 ∷ []) ∷
    is_sheet (reference (bytes "gt") ∷ []) (bytes "&gt;") (3 ∷ []) ∷
    is_sheet (reference (bytes "amp") ∷ []) (bytes "&amp;") (3 ∷ []) ∷
    is_sheet (reference (bytes "apos") ∷ []) (bytes "&apos;") (3 ∷ []) ∷
    is_sheet (reference (bytes "quot") ∷ []) (bytes "&quot;") (3 ∷ []) ∷
    no_place [] (reference (bytes "nbsp")) ∷
    no_place [] (reference (bytes "#65")) ∷
    no_place [] (reference (bytes "LT")) ∷
    no_place [] (reference []) ∷
    -- a comment gives no tag and parts texts
    is_sheet (all_data "a" ++ (comment (bytes " ") ∷ all_data "b")) (bytes "a<!-- -->b") (3 ∷ 3 ∷ []) ∷
    is_sheet (comment (bytes "->") ∷ []) (bytes "<!--->-->") [] ∷
    is_sheet (comment [] ∷ []) (bytes "<!---->") [] ∷
    no_place [] (comment (bytes " a-")) ∷
    no_place [] (comment (bytes "--")) ∷
    no_place [] (comment (bytes "\u{80}")) ∷
    -- ]]> in data that stands together, and in a CDATA section
    is_sheet (all_data "]]" ++ (reference (bytes "gt") ∷ [])) (bytes "]]&gt;") (3 ∷ []) ∷
    is_sheet (all_data "]]" ++ (comment [] ∷ all_data ">")) (bytes "]]<!---->>") (3 ∷ 3 ∷ []) ∷
    no_place (all_data "]]") (datum 62) ∷
    no_place (all_data "]]]") (datum 62) ∷
    no_place [] (cdata (bytes "]]>")) ∷
    -- bytes that are no data
    no_place [] (datum 60) ∷
    no_place [] (datum 38) ∷
    no_place [] (datum 128) ∷
    no_place [] (datum 0) ∷
    no_place [] (cdata (bytes "\u{80}")) ∷
    -- elements: the end tag's name, one left open, and an end tag where none is open
    is_sheet (a_start ∷ all_data "x" ++ (stop (bytes "a") (bytes " ") ∷ [])) (bytes "<a>x</a >") (1 ∷ 3 ∷ 2 ∷ []) ∷
    left_open (a_start ∷ []) ∷
    left_open (a_start ∷ a_start ∷ a_stop ∷ []) ∷
    no_place [] a_stop ∷
    no_place (a_start ∷ a_stop ∷ []) a_stop ∷
    no_place (a_start ∷ []) (stop (bytes "b") []) ∷
    no_place (a_start ∷ []) (stop (bytes "ab") []) ∷
    no_place [] (start (plain "1")) ∷
    no_place [] (start (plain "")) ∷
    -- to a depth of 64
    left_open (replicate 64 a_start) ∷
    left_open (replicate 63 a_start ++ (empty_element (plain "a") ∷ [])) ∷
    no_place (replicate 64 a_start) a_start ∷
    no_place (replicate 64 a_start) (empty_element (plain "a")) ∷
    -- attributes: other names may share a front, none repeats, each has its gap and its value
    is_sheet (empty_element (with_attributes (attribute "b" (byte 49 no_more) ∷ attribute "bb" (named (bytes "lt") no_more) ∷ [])) ∷ []) (bytes "<a b=\"1\" bb=\"&lt;\"/>") (1 ∷ 2 ∷ []) ∷
    is_sheet (empty_element (with_attributes (record { gap = bytes "\n "; name = bytes "b"; before = bytes " "; after = bytes "\t"; quote = apostrophe; value = byte 34 no_more } ∷ [])) ∷ []) (bytes "<a\n b =\t'\"'/>") (1 ∷ 2 ∷ []) ∷
    no_place [] (empty_element (with_attributes (attribute "b" no_more ∷ attribute "b" (byte 49 no_more) ∷ []))) ∷
    no_place [] (start (with_attributes (attribute "b" no_more ∷ attribute "c" no_more ∷ attribute "b" no_more ∷ []))) ∷
    no_place [] (empty_element (with_attributes (record { gap = []; name = bytes "b"; before = []; after = []; quote = quotation; value = no_more } ∷ []))) ∷
    no_place [] (empty_element (with_attributes (record { gap = bytes " "; name = bytes "b"; before = []; after = []; quote = 120; value = no_more } ∷ []))) ∷
    no_place [] (empty_element (with_attributes (attribute "b" (byte 60 no_more) ∷ []))) ∷
    no_place [] (empty_element (with_attributes (attribute "b" (byte 38 no_more) ∷ []))) ∷
    no_place [] (empty_element (with_attributes (attribute "b" (byte quotation no_more) ∷ []))) ∷
    no_place [] (empty_element (with_attributes (attribute "b" (named (bytes "x") no_more) ∷ []))) ∷ []
