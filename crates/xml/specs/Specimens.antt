-- Sheets and what they give, in one table, which proofs/Specimens.antt shows to hold. Expected values are worked out by hand
-- from document 02, CR 1. Assumes nothing: these are definitions.
use Rattle.std.specs.Prelude.{Bool, ◌&&◌, List, [], ◌∷◌, ◌++◌, ℕ, zero, suc, length, replicate}
use Rattle.lists.specs.Lists.{same}
use Rattle.lists.specs.Texts.{bytes}
use Rattle.xml.specs.Grammar.{most_depth}
use Rattle.store_types.specs.Replies.{count_numbers}
use Rattle.xml.specs.Replies.{sheet_reply, sheet_list}

-- a text and its kinds, or its refusal; or, with a lent list, the reply's numbers and the list afterwards
pub data Specimen : Type 0 where
  gives : (text kinds : List ℕ) → Specimen
  refuses : (text : List ℕ) → (number : ℕ) → Specimen
  lends : (text list numbers after : List ℕ) → Specimen

unfoldable pub answers : (text list numbers after : List ℕ) → Bool
answers bs ls ns after = same (count_numbers (sheet_reply bs ls)) ns && same (sheet_list bs ls) after

-- kinds are looked at in a list of just their number
unfoldable pub specimen_holds : Specimen → Bool
specimen_holds (gives bs ks) = answers bs (replicate (length ks) 0) (0 ∷ length ks ∷ []) ks
specimen_holds (refuses bs n) = answers bs (9 ∷ []) (n ∷ []) (9 ∷ [])
specimen_holds (lends bs ls ns after) = answers bs ls ns after

unfoldable pub many : ℕ → List ℕ → List ℕ
many zero bs = []
many (suc n) bs = bs ++ many n bs

-- as many open elements as there may be
unfoldable pub deep : List ℕ
deep = many most_depth (bytes "<a>")

abbrev pub specimen_table : List Specimen
specimen_table =
    -- the text's own refusal comes before a short list
    lends (bytes "<a>x") [] (12 ∷ []) [] ∷
    -- (empty)
    gives (bytes "") [] ∷
    gives (bytes " ") (3 ∷ []) ∷
    gives (bytes "<a/>") (1 ∷ 2 ∷ []) ∷
    gives (bytes "<a></a>") (1 ∷ 2 ∷ []) ∷
    gives (bytes "<a>x</a>") (1 ∷ 3 ∷ 2 ∷ []) ∷
    gives (bytes "<a>t<b/>u<!--c-->v<![CDATA[w]]>&gt;</a>") (1 ∷ 3 ∷ 1 ∷ 2 ∷ 3 ∷ 3 ∷ 2 ∷ []) ∷
    gives (bytes "<!--->-->") [] ∷
    refuses (bytes "<!-- a--->") 12 ∷
    refuses (bytes "<!-->") 12 ∷
    gives (bytes "<!---->") [] ∷
    gives (bytes "]]") (3 ∷ []) ∷
    refuses (bytes "]]>") 12 ∷
    gives (bytes "]]&gt;") (3 ∷ []) ∷
    gives (bytes "]]<!---->>") (3 ∷ 3 ∷ []) ∷
    refuses (bytes "<![CDATA[x]]>]]>") 12 ∷
    gives (bytes "<![CDATA[]]>") (3 ∷ []) ∷
    gives (bytes "a<!-- -->b") (3 ∷ 3 ∷ []) ∷
    refuses (bytes "]]]>") 12 ∷
    gives (bytes "<a b = \"1\" c='&lt;\"]]>'/>") (1 ∷ 2 ∷ []) ∷
    refuses (bytes "<a b=\"1\"c=\"2\"/>") 12 ∷
    refuses (bytes "<a b=\"1\" b=\"2\"/>") 12 ∷
    refuses (bytes "<a b=\"<\"/>") 12 ∷
    gives (bytes "<a></a >") (1 ∷ 2 ∷ []) ∷
    refuses (bytes "<a></ a>") 12 ∷
    refuses (bytes "<a/ >") 12 ∷
    refuses (bytes "<a></b><?c?>") 12 ∷
    refuses (bytes "</a>") 12 ∷
    refuses (bytes "<a>") 12 ∷
    refuses (bytes "<a></ab>") 12 ∷
    refuses (bytes "<ab></a>") 12 ∷
    refuses (bytes "<a b=\"1\" c=\"2\" b=\"3\"/>") 12 ∷
    gives (bytes "<a b=\"1\" bb=\"2\"/>") (1 ∷ 2 ∷ []) ∷
    refuses (bytes "<?") 14 ∷
    refuses (bytes "<!DOCTYPEx") 14 ∷
    refuses (bytes "<!DOCTYP") 12 ∷
    refuses (bytes "<a><?b?></a>") 14 ∷
    refuses (bytes "<a <?b?>>") 12 ∷
    refuses (bytes "<!-- <?") 12 ∷
    refuses (bytes "]]><?") 12 ∷
    refuses (bytes "<![CDAT") 12 ∷
    refuses (bytes "<!doctype") 12 ∷
    refuses (bytes "&#65;") 12 ∷
    refuses (bytes "&lt") 12 ∷
    gives (bytes "&amp;&apos;&quot;") (3 ∷ []) ∷
    refuses (bytes "<a b=\"&x;\"/>") 12 ∷
    gives (bytes "\u{7f}") (3 ∷ []) ∷
    refuses (bytes "\0") 12 ∷
    refuses (bytes "\u{80}") 12 ∷
    refuses (bytes "\u{b}") 12 ∷
    gives (bytes "\r\n") (3 ∷ []) ∷
    gives (bytes "<:/>") (1 ∷ 2 ∷ []) ∷
    -- 64 times <a>, then <b/>
    refuses (deep ++ (bytes "<b/>")) 13 ∷
    -- 64 times <a>, then <b x="1">
    refuses (deep ++ (bytes "<b x=\"1\">")) 13 ∷
    -- 64 times <a>, then <b x="1" x="1">
    refuses (deep ++ (bytes "<b x=\"1\" x=\"1\">")) 12 ∷
    -- 64 times <a>, then <b
    refuses (deep ++ (bytes "<b")) 12 ∷
    -- 64 times <a>, then <?
    refuses (deep ++ (bytes "<?")) 14 ∷
    -- 64 times <a>, then 64 times </a>
    gives (deep ++ many most_depth (bytes "</a>")) (replicate most_depth 1 ++ replicate most_depth 2) ∷
    -- 63 times <a>, then <b/>, then 63 times </a>
    gives (many 63 (bytes "<a>") ++ (bytes "<b/>") ++ many 63 (bytes "</a>")) (replicate most_depth 1 ++ replicate most_depth 2) ∷
    -- <a>x</a> with a list of 2, of 3 and of 5
    lends (bytes "<a>x</a>") (9 ∷ 9 ∷ []) (11 ∷ []) (9 ∷ 9 ∷ []) ∷
    lends (bytes "<a>x</a>") (9 ∷ 9 ∷ 9 ∷ []) (0 ∷ 3 ∷ []) (1 ∷ 3 ∷ 2 ∷ []) ∷
    lends (bytes "<a>x</a>") (9 ∷ 9 ∷ 9 ∷ 9 ∷ 9 ∷ []) (0 ∷ 3 ∷ []) (1 ∷ 3 ∷ 2 ∷ 9 ∷ 9 ∷ []) ∷ []
