-- The kinds of tags and their numbers (document 01, "The book in words"). Assumes nothing: these are definitions.
use Rattle.std.specs.Prelude.{Bool, true, false, ◌&&◌, cond, ℕ, suc, ◌+◌, ◌-◌, leb, eqb}

pub data Kind : Type 0 where
  begin end text : Kind

-- 1 begin, 2 end, 3 text
unfoldable pub code : Kind → ℕ
code begin = 1
code end = 2
code text = 3

unfoldable pub is_kind : ℕ → Bool
is_kind c = leb 1 c && leb c 3

-- the kind of a number that is_kind admits
unfoldable pub kind_of : ℕ → Kind
kind_of c = cond (eqb c 1) begin (cond (eqb c 2) end text)

-- the word of a tag: 17, 18, 19 are the same when marked
unfoldable pub kind_word : Kind → (marked : Bool) → ℕ
kind_word k m = code k + cond m 16 0

-- the kind that a tag's word says
unfoldable pub word_kind : (word : ℕ) → Kind
word_kind c = kind_of (cond (leb 16 c) (c - 16) c)

unfoldable pub is_begin : Kind → Bool
is_begin begin = true
is_begin end = false
is_begin text = false

unfoldable pub is_end : Kind → Bool
is_end begin = false
is_end end = true
is_end text = false

-- DEPTH: the number of elements around a tag, the same for begin and end (document 02, CR 7). Where so many begins are open before
-- a tag of a kind it is that number, one less for an end, which is not inside its own element
unfoldable pub own_depth : Kind → (open_begins : ℕ) → ℕ
own_depth k d = cond (is_end k) (d - 1) d

-- how many are open after it: its depth, one more for a begin
unfoldable pub opens_after : Kind → (depth : ℕ) → ℕ
opens_after k d = cond (is_begin k) (suc d) d

-- one step from the number before a tag to the one after it
unfoldable pub depth_after : Kind → (open_begins : ℕ) → ℕ
depth_after k d = opens_after k (own_depth k d)
