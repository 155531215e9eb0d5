-- The lines of a listing, one more at a time, and their lengths. Assumes nothing.
use mathlib.Core.Path.{◌≡◌, refl}
use mathlib.Core.List.{List, [], ◌∷◌, ◌++◌, append_assoc, append-nil}
use Prim.Native.Nat.{ℕ, ◌+◌, ◌≤◌, ◌<◌}
use native.Mathlib.Numerals.{add-one}
use native.Mathlib.Omega.{arith}
use lib.ListN.{length, get_or, drop, drop_of_length-le, length-append}
use lib.Seq.{drop-cons}
use Rattle.std.proofs.lemmas.Slice.Zip.{zip_turn, zip_end}
use Rattle.store_types.specs.Limits.{word_limit}
use Rattle.reply_text.specs.Text.{decimal, spaced, tag_line, tag_lines}
use Rattle.reply_text.proofs.Digits.{decimal_short}

pub tag_line_short : (x l : ℕ) → x < word_limit → l < word_limit → length (tag_line x l) ≤ 22
unfolding tag_line spaced
tag_line_short x l a b =
    omega (
      arith,
      decimal_short x a,
      decimal_short l b,
      length-append (decimal x) (((32 ∷ decimal l) ++ []) ++ (10 ∷ [])),
      length-append ((32 ∷ decimal l) ++ []) (10 ∷ []),
      length-append (32 ∷ decimal l) [],
    )

-- one more line is written
pub lines_next : (out ts ls : List ℕ) (i : ℕ) → i < length ts → i < length ls →
    (out ++ tag_line (get_or ts i 0) (get_or ls i 0)) ++ tag_lines (drop (i + 1) ts) (drop (i + 1) ls) ≡ out ++ tag_lines (drop i ts) (drop i ls)
unfolding tag_lines
lines_next out ts ls i a b = rw (add-one i, drop-cons ts i 0 a, drop-cons ls i 0 b) (append_assoc out _ _)

-- no more are left
pub lines_all : (ts ls : List ℕ) (i : ℕ) → length ts ≤ i → tag_lines (drop i ts) (drop i ls) ≡ []
unfolding tag_lines
lines_all ts ls i a = rw (drop_of_length-le ts a)

pub lines_all_right : (ts ls : List ℕ) (i : ℕ) → length ls ≤ i → tag_lines (drop i ts) (drop i ls) ≡ []
unfolding tag_lines
lines_all_right ts ls i b = rw (drop_of_length-le ls b) (none (drop i ts))
  where
    none : (xs : List ℕ) → tag_lines xs [] ≡ []
    none [] = refl
    none (x ∷ xs) = refl

-- what `tag_lines` needs of these
pub ruleset listing_steps = (lines_next, lines_all, lines_all_right, tag_line_short, append_assoc, append-nil, length-append, zip_turn, zip_end)
