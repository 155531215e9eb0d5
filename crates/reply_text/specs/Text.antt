-- Replies as bytes (document 01, "The book program"). Assumes nothing: these are definitions.
use Rattle.std.specs.Prelude.{cond, List, [], ◌∷◌, ◌++◌, ℕ, zero, suc, ◌+◌, ◌/◌, ◌%◌, ltb}

-- decimal digits with no leading zeros; `most` bounds how many
unfoldable pub decimal_from : (most n : ℕ) → (behind : List ℕ) → List ℕ
decimal_from zero n ds = ds
decimal_from (suc k) n ds =
    let all = (48 + n % 10) ∷ ds in
    let more = decimal_from k (n / 10) all in
    cond (ltb n 10) all more

unfoldable pub decimal : (n : ℕ) → List ℕ
decimal n = decimal_from 20 n []

-- each number behind a space
unfoldable pub spaced : List ℕ → List ℕ
spaced [] = []
spaced (n ∷ ns) = (32 ∷ decimal n) ++ spaced ns

-- the line of a reply's numbers: `ok` and its values (0 comes first), or `no` and the refusal
unfoldable pub reply_line : (numbers : List ℕ) → List ℕ
reply_line [] = []
reply_line (zero ∷ vs) = (111 ∷ 107 ∷ []) ++ (spaced vs ++ (10 ∷ []))
reply_line (suc k ∷ vs) = (110 ∷ 111 ∷ []) ++ (spaced (suc k ∷ []) ++ (10 ∷ []))

-- what `list` prints: tag and label a line, then `end` and the count
unfoldable pub tag_line : (tag label : ℕ) → List ℕ
tag_line x l = decimal x ++ (spaced (l ∷ []) ++ (10 ∷ []))

unfoldable pub tag_lines : (tags labels : List ℕ) → List ℕ
tag_lines [] ls = []
tag_lines (x ∷ xs) [] = []
tag_lines (x ∷ xs) (l ∷ ls) = tag_line x l ++ tag_lines xs ls

unfoldable pub end_line : (count : ℕ) → List ℕ
end_line n = (101 ∷ 110 ∷ 100 ∷ []) ++ (spaced (n ∷ []) ++ (10 ∷ []))

-- any other line
unfoldable pub unknown_line : List ℕ
unknown_line = 63 ∷ 10 ∷ []
