-- Parts of the refusals that single functions of this crate compute. Assumes nothing: these are definitions.
use Rattle.std.specs.Prelude.{Bool, List, ℕ, ◌+◌}
use Rattle.lists.specs.Lists.{first}
use Rattle.store_types.specs.Layout.{at_s, at_r, at_height, at_count, word_at}
use Rattle.tree.specs.Book.{height}
use Rattle.tree.specs.Grown.{height_for}
use Rattle.calls.specs.Store.{Store, count, height_fits}
use Rattle.calls.specs.Insert.{labels_run_out, place_tests, room_tests}

-- H with k tags more: the least height from the present one on whose root has room for them
abbrev pub height_after : (words : List ℕ) → (k : ℕ) → ℕ
height_after ws k = height_for k (word_at ws at_s) (word_at ws at_r) (word_at ws at_count + k) (word_at ws at_height)

-- the tests of the room for k tags
abbrev pub row_room : (lent k : ℕ) → Store → List (Bool × ℕ)
row_room lent k st = room_tests lent k (labels_run_out (height_fits st) st.book.s st.book.r k (count st) (height st.book)) st

-- THE REFUSALS of a row in two parts: 8 and 9 of its place, 6 and 7 of its room; 0 where there is none
unfoldable pub place_refusal : (place : ℕ) → Store → ℕ
place_refusal y st = first (place_tests y st) 0

unfoldable pub room_refusal : (lent k : ℕ) → Store → ℕ
room_refusal lent k st = first (row_room lent k st) 0
