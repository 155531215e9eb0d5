-- The lines of the book program (document 01, "The book program"). Bytes are numbers below 256.
-- Assumes nothing: these are definitions.
use Rattle.std.specs.Prelude.{cond, List, [], ◌∷◌, map, ℕ, ltb, eqb, length, Option, Some, None}
use Rattle.store_types.specs.Limits.{no_tag}
use Rattle.lists.specs.Lists.{same, with_first}
use Rattle.console_fields.specs.Field.{number_of, all_letters, letter_kind}
use Rattle.console.specs.declared.Command.{Command}
use Rattle.console.specs.declared.Command.TheVariants.{Load, Insert, Mark, List as ListAll}

-- FIELDS are parted by one space: a line of m spaces has m + 1 fields, of which some may be empty
unfoldable pub fields : (line : List ℕ) → List (List ℕ)
fields [] = [] ∷ []
fields (c ∷ cs) = let rest = fields cs in cond (eqb c 32) ([] ∷ rest) (with_first c rest)

-- WORDS of a line
abbrev pub load_word : List ℕ
load_word = 108 ∷ 111 ∷ 97 ∷ 100 ∷ []

abbrev pub list_word : List ℕ
list_word = 108 ∷ 105 ∷ 115 ∷ 116 ∷ []

abbrev pub element_word : List ℕ
element_word = 101 ∷ 108 ∷ 101 ∷ 109 ∷ 101 ∷ 110 ∷ 116 ∷ []

abbrev pub text_word : List ℕ
text_word = 116 ∷ 101 ∷ 120 ∷ 116 ∷ []

abbrev pub mark_word : List ℕ
mark_word = 109 ∷ 97 ∷ 114 ∷ 107 ∷ []

abbrev pub front_word : List ℕ
front_word = 102 ∷ 114 ∷ 111 ∷ 110 ∷ 116 ∷ []

-- A PLACE is a number or `front`, which is no tag
unfoldable pub number_or_front : List ℕ → Option ℕ
number_or_front cs = cond (same cs front_word) (Some no_tag) (number_of cs)

-- A LINE'S COMMAND, none where it asks for nothing, and the kinds of a load
pub record Parsed : Type 0 where
  pub command : Option Command
  pub kinds : List ℕ

abbrev pub unknown : Parsed
unknown = record { command = None; kinds = [] }

abbrev pub plain : Command → Parsed
plain c = record { command = Some c; kinds = [] }

unfoldable pub load_of : (s r book : Option ℕ) → (letters : List ℕ) → Parsed
load_of None r b cs = unknown
load_of (Some s) None b cs = unknown
load_of (Some s) (Some r) None cs = unknown
load_of (Some s) (Some r) (Some b) cs =
    cond (all_letters cs) (record { command = Some (Load s r b (length cs)); kinds = map letter_kind cs }) unknown

unfoldable pub insert_of : (kind : ℕ) → (place : Option ℕ) → Parsed
insert_of k None = unknown
insert_of k (Some y) = plain (Insert k (record { 0 = y }))

unfoldable pub mark_of : (place : Option ℕ) → Parsed
mark_of None = unknown
mark_of (Some y) = plain (Mark (record { 0 = y }))

-- by the first field and how many follow: `list`; `element y`, `text y`, `mark y`; `load s r book`, `load s r book kinds`
unfoldable pub command_of : (fields : List (List ℕ)) → Parsed
command_of [] = unknown
command_of (w ∷ []) = cond (same w list_word) (plain ListAll) unknown
command_of (w ∷ a ∷ []) =
    cond (same w element_word) (insert_of 1 (number_or_front a))
    (cond (same w text_word) (insert_of 3 (number_or_front a))
    (cond (same w mark_word) (mark_of (number_or_front a)) unknown))
command_of (w ∷ a ∷ b ∷ []) = unknown
command_of (w ∷ a ∷ b ∷ c ∷ []) =
    cond (same w load_word) (load_of (number_of a) (number_of b) (number_of c) []) unknown
command_of (w ∷ a ∷ b ∷ c ∷ d ∷ []) =
    cond (same w load_word) (load_of (number_of a) (number_of b) (number_of c) d) unknown
command_of (w ∷ a ∷ b ∷ c ∷ d ∷ e ∷ fs) = unknown

-- a line over 2,100 bytes is none; its line feed does not count
abbrev pub line_limit : ℕ
line_limit = 2100

unfoldable pub parsed : (line : List ℕ) → Parsed
parsed cs = cond (ltb line_limit (length cs)) unknown (command_of (fields cs))
