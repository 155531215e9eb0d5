-- Sound stores (document 01, "Sound means"; document 02, CR 7, for depth). Assumes nothing: these are definitions.
use Rattle.std.specs.Prelude.{Bool, ◌&&◌, ℕ, ◌+◌, leb, eqb, length}
use Rattle.store_types.specs.Limits.{no_tag, most_tags}
use Rattle.tree.specs.Row.{all_below}
use Rattle.tree.specs.Book.{height, book_within}
use Rattle.calls.specs.Store.{Store, count, row, height_fits, marked_count}
use Rattle.calls.specs.Nesting.{nested, depths_right}

-- s and r are each 2 to 16
unfoldable pub degrees_fit : (s r : ℕ) → Bool
degrees_fit s r = (leb 2 s && leb s 16) && (leb 2 r && leb r 16)

-- ranges, b^H at most 2^32, and the limits of every node (that labels rise and spell a tree without gaps is in words_of)
unfoldable pub tree_sound : Store → Bool
tree_sound st = degrees_fit st.book.s st.book.r && (height_fits st (height st.book) && book_within st.book)

-- at most 200,000 tags, and each number below n once along next
unfoldable pub row_sound : Store → Bool
row_sound st = leb (count st) most_tags && (eqb (length (row st)) (count st) && all_below (count st) (row st))

-- stamp at most n plus the marked tags (the book number is the caller's, any word: nothing is asked of it)
unfoldable pub stamp_sound : Store → Bool
stamp_sound st = leb st.stamp (count st + marked_count st.facts)

unfoldable pub sound : Store → Bool
sound st =
    (tree_sound st && row_sound st) && ((nested st.facts no_tag (row st) && depths_right st.facts 0 (row st)) && stamp_sound st)
