-- Specimens of replies (document 01, "The book program"): a table, which proofs/Specimens.antt shows to hold. Expected values
-- are worked out by hand from document 01. Assumes nothing: these are definitions.
use Rattle.std.specs.Prelude.{List, [], ◌∷◌, ℕ}
use Prim.Native.String.{String}
use Rattle.reply_text.specs.Text.{decimal, reply_line, tag_lines, end_line, unknown_line}

-- REPLIES, and what is printed
pub record Printing : Type 0 where
  pub print : List ℕ
  pub text : String

abbrev prints : List ℕ → String → Printing
prints ns t = record { print = ns; text = t }

abbrev pub replies : List Printing
replies =
    prints (reply_line (0 ∷ 6 ∷ 2 ∷ [])) "ok 6 2\n" ∷
    prints (reply_line (0 ∷ 7 ∷ 4 ∷ 2 ∷ [])) "ok 7 4 2\n" ∷
    prints (reply_line (0 ∷ 1 ∷ [])) "ok 1\n" ∷
    prints (reply_line (7 ∷ [])) "no 7\n" ∷
    -- the list that document 01 prints
    prints (tag_lines (0 ∷ 1 ∷ 2 ∷ 7 ∷ 6 ∷ 3 ∷ 4 ∷ 5 ∷ []) (0 ∷ 1 ∷ 3 ∷ 4 ∷ 9 ∷ 10 ∷ 12 ∷ 13 ∷ [])) "0 0\n1 1\n2 3\n7 4\n6 9\n3 10\n4 12\n5 13\n" ∷
    prints (end_line 8) "end 8\n" ∷
    prints unknown_line "?\n" ∷
    prints (decimal 0) "0" ∷
    prints (decimal 9) "9" ∷
    prints (decimal 10) "10" ∷
    prints (decimal 4294967295) "4294967295" ∷
    []
