-- The grammar of a sheet: XML 1.0 (fifth edition), cut down (document 02, CR 1). A text is a row of constructs; each is said by
-- its parts, with every byte of it, so that `text_of` is the grammar's right-hand side and no reader is defined here. Above a
-- definition stands the standard's production, by number and in words, and what document 02 cuts down: everywhere the bytes from 128
-- on. Assumes nothing: these are definitions.
use Rattle.std.specs.Prelude.{Bool, true, false, ◌&&◌, ◌||◌, not, cond, List, [], ◌∷◌, ◌++◌, map, ℕ, ltb, eqb, length}
use Rattle.lists.specs.Lists.{same, all_hold}
use Rattle.lists.specs.Fronts.{starts_with}
use Rattle.xml.specs.Bytes.{is_char, is_space, is_name_start, is_name_char, contains, less_than, greater_than, ampersand, semicolon, equals, hyphen, bracket, quotation, apostrophe, comment_opens, comment_closes, two_hyphens, cdata_opens, cdata_closes, end_opens, tag_closes, lone_closes, instruction_opens, doctype_opens, lt_name, gt_name, amp_name, apos_name, quot_name}

-- [5] Name: a NameStartChar, then any number of NameChars ([4], [4a] in Bytes.antt)
unfoldable pub is_name : List ℕ → Bool
is_name [] = false
is_name (c ∷ cs) = is_name_start c && all_hold is_name_char cs

-- S?: spaces or none, where a production says so
unfoldable pub is_blank : List ℕ → Bool
is_blank cs = all_hold is_space cs

-- [3] S: one space or more
unfoldable pub is_gap : List ℕ → Bool
is_gap [] = false
is_gap (c ∷ cs) = is_blank (c ∷ cs)

-- [67] Reference is [68] EntityRef or [66] CharRef. Document 02 leaves the five names of section 4.6, and no CharRef
unfoldable pub is_reference : (name : List ℕ) → Bool
is_reference cs =
    same cs lt_name || (same cs gt_name || (same cs amp_name || (same cs apos_name || same cs quot_name)))

-- [68] EntityRef: &, a Name, ;
unfoldable pub reference_text : (name : List ℕ) → List ℕ
reference_text cs = ampersand ∷ cs ++ (semicolon ∷ [])

-- [10] AttValue: between two " or between two ', in any number, bytes but < & and that quote, and References. Here what stands
-- between the quotes; a Reference is one of the five
pub data Value : Type 0 where
  no_more : Value
  byte : (c : ℕ) → Value → Value
  named : (name : List ℕ) → Value → Value

unfoldable pub value_text : Value → List ℕ
value_text no_more = []
value_text (byte c v) = c ∷ value_text v
value_text (named cs v) = reference_text cs ++ value_text v

-- each byte is a Char [2] and none of < & and the quote; each name is one of the five
unfoldable pub is_value : (quote : ℕ) → Value → Bool
is_value q no_more = true
is_value q (byte c v) = (is_char c && (not (eqb c less_than) && (not (eqb c ampersand) && not (eqb c q)))) && is_value q v
is_value q (named cs v) = is_reference cs && is_value q v

-- " or '
unfoldable pub is_quote : ℕ → Bool
is_quote c = eqb c quotation || eqb c apostrophe

-- [41] Attribute: Name Eq AttValue, where [25] Eq is S? = S?. The gap is the S that [40] and [44] have before each Attribute;
-- `before` and `after` are the S? on both sides of =
pub record Attribute : Type 0 where
  pub gap : List ℕ
  pub name : List ℕ
  pub before : List ℕ
  pub after : List ℕ
  pub quote : ℕ
  pub value : Value

-- an attribute from its name on, and with its gap
unfoldable pub bare_text : Attribute → List ℕ
bare_text a =
    a.name ++ (a.before ++ (equals ∷ a.after ++ (a.quote ∷ value_text a.value ++ (a.quote ∷ []))))

unfoldable pub attribute_text : Attribute → List ℕ
attribute_text a = a.gap ++ bare_text a

unfoldable pub is_attribute : Attribute → Bool
is_attribute a =
    (is_gap a.gap && is_name a.name) && ((is_blank a.before && is_blank a.after)
    && (is_quote a.quote && is_value a.quote a.value))

unfoldable pub attributes_text : List Attribute → List ℕ
attributes_text [] = []
attributes_text (a ∷ more) = attribute_text a ++ attributes_text more

-- whether a name is among some
unfoldable pub among : (name : List ℕ) → List (List ℕ) → Bool
among n [] = false
among n (m ∷ ms) = same n m || among n ms

unfoldable pub names_of : List Attribute → List (List ℕ)
names_of as' = map (λ a. a.name) as'

-- (S Attribute)* of [40] and [44]: each right by itself, and no name repeats (the constraint "Unique Att Spec" of [40] and [44])
unfoldable pub are_attributes : List Attribute → Bool
are_attributes [] = true
are_attributes (a ∷ more) = (is_attribute a && not (among a.name (names_of more))) && are_attributes more

-- [40] STag: <, Name, (S Attribute)*, S?, >. [44] EmptyElemTag: the same with /> at its end. Here all before > and />
pub record Tag : Type 0 where
  pub name : List ℕ
  pub attributes : List Attribute
  pub blank : List ℕ

unfoldable pub tag_text : Tag → List ℕ
tag_text t = less_than ∷ t.name ++ (attributes_text t.attributes ++ t.blank)

unfoldable pub is_tag : Tag → Bool
is_tag t = is_name t.name && (are_attributes t.attributes && is_blank t.blank)

-- CONSTRUCTS, which [43] content is a row of: one byte of CharData, a Reference, a CDSect, a Comment, an STag, an EmptyElemTag, an
-- ETag. Document 02 leaves PI [16] out
pub data Construct : Type 0 where
  datum : (c : ℕ) → Construct
  reference : (name : List ℕ) → Construct
  cdata : (bytes : List ℕ) → Construct
  comment : (bytes : List ℕ) → Construct
  start : Tag → Construct
  empty_element : Tag → Construct
  stop : (name blank : List ℕ) → Construct

-- what a construct is written as:
-- [14] CharData: a byte stands for itself
-- [68] EntityRef
-- [18] CDSect: CDStart [19] <![CDATA[, CData [20], CDEnd [21] ]]>
-- [15] Comment: <!--, its bytes, -->
-- [40] STag and [44] EmptyElemTag, by their ends
-- [42] ETag: </, Name, S?, >
unfoldable pub text_of : Construct → List ℕ
text_of (datum c) = c ∷ []
text_of (reference n) = reference_text n
text_of (cdata cs) = cdata_opens ++ (cs ++ cdata_closes)
text_of (comment cs) = comment_opens ++ (cs ++ comment_closes)
text_of (start t) = tag_text t ++ tag_closes
text_of (empty_element t) = tag_text t ++ lone_closes
text_of (stop n b) = end_opens ++ (n ++ (b ++ tag_closes))

unfoldable pub texts : List Construct → List ℕ
texts [] = []
texts (c ∷ cs) = text_of c ++ texts cs

-- RIGHT BY ITSELF, wherever a construct stands:
-- [14] CharData: a Char, and neither < nor &
-- [20] CData: Chars, with ]]> nowhere in them
-- [15] Comment: Chars, with -- nowhere in them and no - at their end
-- the name of an ETag is right because its STag's is
unfoldable pub is_construct : Construct → Bool
is_construct (datum c) = is_char c && (not (eqb c less_than) && not (eqb c ampersand))
is_construct (reference n) = is_reference n
is_construct (cdata cs) = all_hold is_char cs && not (contains cdata_closes cs)
is_construct (comment cs) = all_hold is_char cs && not (contains two_hyphens (cs ++ (hyphen ∷ [])))
is_construct (start t) = is_tag t
is_construct (empty_element t) = is_tag t
is_construct (stop n b) = is_blank b

-- WHERE A CONSTRUCT STANDS: the names of the open elements, innermost first, and how many ] of character data stand right
-- before it (0, 1, or 2 for two and more)
pub record Place : Type 0 where
  pub opened : List (List ℕ)
  pub brackets : ℕ

-- no depth is in the standard; document 02 has 64, top elements at 1
abbrev pub most_depth : ℕ
most_depth = 64

unfoldable pub brackets_after : (c brackets : ℕ) → ℕ
brackets_after c b = cond (eqb c bracket) (cond (eqb b 0) 1 2) 0

-- [39] element: STag, content, ETag, and its constraint "Element Type Match": an end tag has its start tag's name
unfoldable pub closes : (name : List ℕ) → (opened : List (List ℕ)) → Bool
closes n [] = false
closes n (m ∷ ms) = same n m

-- whether a construct may stand at a place: it is right by itself, and
-- [14] CharData: a > does not end ]]> in data that stands together
-- [39] element: no tag opens deeper than the greatest depth, and an end tag closes the innermost open element
unfoldable pub may_stand : Construct → Place → Bool
may_stand (datum c) p = is_construct (datum c) && not (eqb c greater_than && eqb p.brackets 2)
may_stand (reference n) p = is_construct (reference n)
may_stand (cdata cs) p = is_construct (cdata cs)
may_stand (comment cs) p = is_construct (comment cs)
may_stand (start t) p = is_construct (start t) && ltb (length p.opened) most_depth
may_stand (empty_element t) p = is_construct (empty_element t) && ltb (length p.opened) most_depth
may_stand (stop n b) p = closes n p.opened && is_construct (stop n b)

-- elements that are open around what stands after an end tag
unfoldable pub tail_of : List (List ℕ) → List (List ℕ)
tail_of [] = []
tail_of (n ∷ ns) = ns

abbrev pub at_place : (opened : List (List ℕ)) → Place
at_place os = record { opened = os; brackets = 0 }

-- the place after a construct, and after a row of them
unfoldable pub place_after : Construct → Place → Place
place_after (datum c) p = record { opened = p.opened; brackets = brackets_after c p.brackets }
place_after (reference n) p = at_place p.opened
place_after (cdata cs) p = at_place p.opened
place_after (comment cs) p = at_place p.opened
place_after (start t) p = at_place (t.name ∷ p.opened)
place_after (empty_element t) p = at_place p.opened
place_after (stop n b) p = at_place (tail_of p.opened)

-- [43] content: constructs in any number and order, each where it may stand. The whole sheet is one content, no [1] document
unfoldable pub all_stand : List Construct → Place → Bool
all_stand [] p = true
all_stand (c ∷ cs) p = may_stand c p && all_stand cs (place_after c p)

unfoldable pub place_after_all : List Construct → Place → Place
place_after_all [] p = p
place_after_all (c ∷ cs) p = place_after_all cs (place_after c p)

abbrev pub top : Place
top = at_place []

-- THE NUMBERS of texts outside: a construct is not completed, a whole tag stands too deep, a construct opens what is not read
abbrev pub not_a_sheet : ℕ
not_a_sheet = 12

abbrev pub too_deep : ℕ
too_deep = 13

abbrev pub not_read : ℕ
not_read = 14

-- [16] PI and [23] XMLDecl open with <?, [28] doctypedecl with <!DOCTYPE; document 02 reads none of them
unfoldable pub refused_opener : List ℕ → Bool
refused_opener cs = starts_with instruction_opens cs || starts_with doctype_opens cs

-- KINDS: 1 begin, 2 end, 3 text. A text is the longest run of data, references and CDATA; comments give no tag and part texts
unfoldable pub kinds_from : (in_text : Bool) → List Construct → List ℕ
kinds_from r [] = []
kinds_from r (datum c ∷ cs) = let rest = kinds_from true cs in cond r rest (3 ∷ rest)
kinds_from r (reference n ∷ cs) = let rest = kinds_from true cs in cond r rest (3 ∷ rest)
kinds_from r (cdata bs ∷ cs) = let rest = kinds_from true cs in cond r rest (3 ∷ rest)
kinds_from r (comment bs ∷ cs) = kinds_from false cs
kinds_from r (start t ∷ cs) = 1 ∷ kinds_from false cs
kinds_from r (empty_element t ∷ cs) = 1 ∷ 2 ∷ kinds_from false cs
kinds_from r (stop n b ∷ cs) = 2 ∷ kinds_from false cs
