-- Specimens of lines (document 01, "The book program", and others that tell them from wrong ones): a table,
-- which proofs/Specimens.antt shows to hold. Expected values are worked out by hand from document 01. Assumes nothing:
-- these are definitions.
use Rattle.std.specs.Prelude.{List, [], ◌∷◌, ◌++◌, ℕ, replicate, Some}
use Prim.Native.String.{String}
use Rattle.store_types.specs.Limits.{no_tag}
use Rattle.console.specs.Line.{Parsed, unknown, plain}
use Rattle.lists.specs.Texts.{bytes}
use Rattle.console.specs.declared.Command.TheVariants.{Load, Insert, Mark, List as ListAll}

-- LINES, and what they ask for
pub record Reading : Type 0 where
  pub line : List ℕ
  pub says : Parsed

abbrev says_load : String → (s r book : ℕ) → (count : ℕ) → (kinds : List ℕ) → Reading
says_load t s r b n ks = record { line = bytes t; says = record { command = Some (Load s r b n); kinds = ks } }

abbrev says_insert : String → (kind place : ℕ) → Reading
says_insert t k y = record { line = bytes t; says = plain (Insert k (record { 0 = y })) }

abbrev says_nothing : String → Reading
says_nothing t = record { line = bytes t; says = unknown }

abbrev pub readings : List Reading
readings =
    says_load "load 2 2 7 BBEBEE" 2 2 7 6 (1 ∷ 1 ∷ 2 ∷ 1 ∷ 2 ∷ 2 ∷ []) ∷
    says_load "load 2 2 7 T" 2 2 7 1 (3 ∷ []) ∷
    says_load "load 2 2 7" 2 2 7 0 [] ∷
    -- the space of letters that are absent: the empty load
    says_load "load 2 2 7 " 2 2 7 0 [] ∷
    says_nothing "load 02 2 7" ∷
    says_nothing "load 2 2" ∷
    says_nothing "load 2 2 7  B" ∷
    says_nothing "load 2 2 7 B B" ∷
    says_nothing "load 2 2 7 BX" ∷
    says_nothing "LOAD 2 2 7" ∷
    says_insert "text 2" 3 2 ∷
    says_insert "text front" 3 no_tag ∷
    says_insert "text 4294967295" 3 4294967295 ∷
    says_nothing "text 4294967296" ∷
    says_nothing "text" ∷
    says_insert "element 0" 1 0 ∷
    record { line = bytes "mark front"; says = plain (Mark (record { 0 = no_tag })) } ∷
    record { line = bytes "list"; says = plain ListAll } ∷
    says_nothing "list " ∷
    says_nothing "" ∷
    -- 2,100 bytes are a line, 2,101 are none
    record {
      line = bytes "load 2 2 7 " ++ replicate 2089 84;
      says = record { command = Some (Load 2 2 7 2089); kinds = replicate 2089 3 };
    } ∷
    record { line = bytes "load 2 2 7 " ++ replicate 2090 84; says = unknown } ∷
    []
