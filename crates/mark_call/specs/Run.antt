-- What mark does to the words, as its code does it: tag by tag, along next from a section's first tag to its last.
-- Assumes nothing: these are definitions.
use Rattle.std.specs.Prelude.{cond, List, [], ◌∷◌, ℕ, zero, suc, ◌+◌, leb, ltb, eqb}
use Rattle.store_types.specs.Layout.{at_next, at_mate, at_kind, field, with_field}

-- a kind word when its tag is marked, and 1 where it was not before
unfoldable pub with_mark : ℕ → ℕ
with_mark c = cond (leb 16 c) c (c + 16)

unfoldable pub new_mark : ℕ → ℕ
new_mark c = cond (leb 16 c) 0 1

-- words after one tag is marked, and after a row of tags
unfoldable pub mark_one : List ℕ → (tag : ℕ) → List ℕ
mark_one ws x = with_field ws x at_kind (with_mark (field ws x at_kind))

unfoldable pub mark_each : List ℕ → (tags : List ℕ) → List ℕ
mark_each ws [] = ws
mark_each ws (x ∷ xs) = mark_each (mark_one ws x) xs

-- how many of the row were not marked before
unfoldable pub count_new : List ℕ → (tags : List ℕ) → ℕ
count_new ws [] = 0
count_new ws (x ∷ xs) = new_mark (field ws x at_kind) + count_new (mark_one ws x) xs

-- from tag x along next to the last one: at most so many tags, each below n
unfoldable pub section_tags : (steps n : ℕ) → List ℕ → (x last : ℕ) → List ℕ
section_tags zero n ws x last = []
section_tags (suc m) n ws x last =
    let rest = section_tags m n ws (field ws x at_next) last in
    cond (ltb x n) (x ∷ cond (eqb x last) [] rest) []

-- a section's tags, to its mate
unfoldable pub tags_of : (n : ℕ) → List ℕ → (section : ℕ) → List ℕ
tags_of n ws x = section_tags n n ws x (field ws x at_mate)
