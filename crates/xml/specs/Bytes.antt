-- Bytes of a sheet: the five classes by the rules of XML 1.0 (fifth edition) for ASCII, and the strings of its markup
-- (document 02, CR 1). Assumes nothing: these are definitions.
use Rattle.std.specs.Prelude.{Bool, ◌&&◌, ◌||◌, not, cond, List, [], ◌∷◌, ℕ, ltb, leb, eqb}
use Rattle.lists.specs.Fronts.{starts_with}
use Rattle.lists.specs.Texts.{bytes}
use Rattle.xml.specs.declared.Class.{Class}
use Rattle.xml.specs.declared.Class.TheVariants.{Forbidden, Space, NameStart, NameOnly, Other}

-- production 2, Char: tab, line feed, carriage return, and 32 to 127; from 128 on all are forbidden here
unfoldable pub is_char : ℕ → Bool
is_char c = ltb c 128 && (leb 32 c || (eqb c 9 || (eqb c 10 || eqb c 13)))

-- production 3, S
unfoldable pub is_space : ℕ → Bool
is_space c = eqb c 32 || (eqb c 9 || (eqb c 13 || eqb c 10))

-- production 4, NameStartChar: colon, low line, letters
unfoldable pub is_name_start : ℕ → Bool
is_name_start c = eqb c 58 || (eqb c 95 || ((leb 65 c && leb c 90) || (leb 97 c && leb c 122)))

-- production 4a, NameChar: also hyphen, full stop, digits
unfoldable pub is_name_char : ℕ → Bool
is_name_char c = is_name_start c || (eqb c 45 || (eqb c 46 || (leb 48 c && leb c 57)))

-- the class of a byte
unfoldable pub class_of : ℕ → Class
class_of c =
    cond (not (is_char c)) Forbidden
    (cond (is_space c) Space (cond (is_name_start c) NameStart (cond (is_name_char c) NameOnly Other)))

-- the bytes that markup is made of
abbrev pub less_than : ℕ
less_than = 60

abbrev pub greater_than : ℕ
greater_than = 62

abbrev pub ampersand : ℕ
ampersand = 38

abbrev pub semicolon : ℕ
semicolon = 59

abbrev pub equals : ℕ
equals = 61

abbrev pub slash : ℕ
slash = 47

abbrev pub hyphen : ℕ
hyphen = 45

abbrev pub bracket : ℕ
bracket = 93

abbrev pub quotation : ℕ
quotation = 34

abbrev pub apostrophe : ℕ
apostrophe = 39

abbrev pub comment_opens : List ℕ
comment_opens = bytes "<!--"

abbrev pub comment_closes : List ℕ
comment_closes = bytes "-->"

-- what a comment holds only in its closer
abbrev pub two_hyphens : List ℕ
two_hyphens = bytes "--"

abbrev pub cdata_opens : List ℕ
cdata_opens = bytes "<![CDATA["

abbrev pub cdata_closes : List ℕ
cdata_closes = bytes "]]>"

abbrev pub end_opens : List ℕ
end_opens = bytes "</"

abbrev pub tag_closes : List ℕ
tag_closes = bytes ">"

abbrev pub lone_closes : List ℕ
lone_closes = bytes "/>"

-- what begins comments, CDATA sections and declarations
abbrev pub declaration_opens : List ℕ
declaration_opens = bytes "<!"

abbrev pub instruction_opens : List ℕ
instruction_opens = bytes "<?"

abbrev pub doctype_opens : List ℕ
doctype_opens = bytes "<!DOCTYPE"

-- the names of the five references of 4.6
abbrev pub lt_name : List ℕ
lt_name = bytes "lt"

abbrev pub gt_name : List ℕ
gt_name = bytes "gt"

abbrev pub amp_name : List ℕ
amp_name = bytes "amp"

abbrev pub apos_name : List ℕ
apos_name = bytes "apos"

abbrev pub quot_name : List ℕ
quot_name = bytes "quot"

-- whether a string stands somewhere in a list
unfoldable pub contains : (string : List ℕ) → List ℕ → Bool
contains xs [] = starts_with xs []
contains xs (c ∷ cs) = starts_with xs (c ∷ cs) || contains xs cs
