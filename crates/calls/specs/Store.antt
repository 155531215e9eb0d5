-- A store: the book's tree, and for each tag its kind, mark, mate, up and depth (document 01, "The book in words"; document 02,
-- CR 7, for depth).
-- Assumes nothing: these are definitions.
use Rattle.std.specs.Prelude.{Bool, false, not, List, ◌∷◌, ℕ, suc, leb, length, get_or}
use Rattle.lists.specs.Lists.{how_many}
use Rattle.store_types.specs.Limits.{no_tag, label_limit}
use Rattle.tree.specs.Row.{place}
use Rattle.tree.specs.Book.{Book, tags, label_of, power_width}
use Rattle.calls.specs.Kind.{Kind, text}

-- what is kept of a tag besides its place and label: mate is the other tag of the element, a text's own number for a
-- text; up is the begin tag of the innermost element around it, or no tag; depth is the number of elements around it
pub record Fact : Type 0 where
  pub kind : Kind
  pub marked : Bool
  pub mate : ℕ
  pub up : ℕ
  pub depth : ℕ

-- number is document 01's book number (the caller's, any word), stamp its count of accepted changes since load
pub record Store : Type 0 where
  pub book : Book
  pub number : ℕ
  pub stamp : ℕ
  pub facts : List Fact

-- every one is made by this
abbrev pub new_fact : Kind → (marked : Bool) → (mate up depth : ℕ) → Fact
new_fact k m mate up depth = record { kind = k; marked = m; mate = mate; up = up; depth = depth }

-- what no tag says: above all that it is not marked
abbrev pub no_fact : Fact
no_fact = new_fact text false no_tag no_tag 0

abbrev pub fact_in : List Fact → (tag : ℕ) → Fact
fact_in fs x = get_or fs x no_fact

abbrev pub fact : Store → (tag : ℕ) → Fact
fact st x = fact_in st.facts x

-- whether a session can hold a tag: nobody can hold a marked one
abbrev pub unmarked : Store → (tag : ℕ) → Bool
unmarked st x = not (fact st x).marked

-- n: tags issued
abbrev pub count : Store → ℕ
count st = length st.facts

-- the tags in book order
abbrev pub row : Store → List ℕ
row st = tags st.book

-- how many tags stand before a tag
abbrev pub place_of : Store → (tag : ℕ) → ℕ
place_of st x = place x (row st)

-- document 01's widths: the powers of b
abbrev pub width : Store → ℕ → ℕ
width st = power_width st.book.s st.book.r

-- whether labels of a tree of this height fit: its root is at most 2^32 wide
unfoldable pub labels_fit : (width : ℕ → ℕ) → (height : ℕ) → Bool
labels_fit w h = leb (w h) label_limit

abbrev pub height_fits : Store → (height : ℕ) → Bool
height_fits st = labels_fit (width st)

-- by s and r, where there is no store yet: b^h is at most 2^32
abbrev pub power_fits : (s r height : ℕ) → Bool
power_fits s r = labels_fit (power_width s r)

abbrev pub label : Store → (tag : ℕ) → ℕ
label st x = label_of (width st) st.book x

-- the tag behind and the tag before a tag in a row, or no tag
unfoldable pub next_in : List ℕ → (tag : ℕ) → ℕ
next_in xs x = get_or xs (suc (place x xs)) no_tag

unfoldable pub prior_in : List ℕ → (tag : ℕ) → ℕ
prior_in xs x = get_or (no_tag ∷ xs) (place x xs) no_tag

abbrev pub marked_count : List Fact → ℕ
marked_count ts = how_many (λ t. t.marked) ts
