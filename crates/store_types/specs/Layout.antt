-- Where everything stands in the words of a store (document 01, "The book in words"): the header's words by name, and behind
-- the header a record for each tag, its label in front and its fields by name. Only the laws of crate words see through
-- `records_at`, `words_for`, `field`, `label_at`, `with_field` and `with_label`. Assumes nothing: these are definitions.
use Rattle.std.specs.Prelude.{List, [], ◌∷◌, ℕ, ◌+◌, ◌*◌, ◌≤◌, length, get_or, set}
use Rattle.store_types.specs.Limits.{most_tags}

-- THE HEADER: the value 1; s; r; height H; tags issued n; first tag or no tag; book number; stamp
abbrev pub at_version : ℕ
at_version = 0

abbrev pub at_s : ℕ
at_s = 1

abbrev pub at_r : ℕ
at_r = 2

abbrev pub at_height : ℕ
at_height = 3

abbrev pub at_count : ℕ
at_count = 4

abbrev pub at_first : ℕ
at_first = 5

abbrev pub at_book : ℕ
at_book = 6

abbrev pub at_stamp : ℕ
at_stamp = 7

abbrev pub header_words : ℕ
header_words = 8

-- A RECORD: so many words of a label; then next, prior, mate, up, kind and depth (document 02, CR 7)
abbrev pub label_words : ℕ
label_words = 1

abbrev pub at_next : ℕ
at_next = 1

abbrev pub at_prior : ℕ
at_prior = 2

abbrev pub at_mate : ℕ
at_mate = 3

abbrev pub at_up : ℕ
at_up = 4

abbrev pub at_kind : ℕ
at_kind = 5

abbrev pub at_depth : ℕ
at_depth = 6

abbrev pub tag_words : ℕ
tag_words = 7

-- THE WORDS one after the other: of a header, and of a record
abbrev pub header_list : (s r height n first number stamp : ℕ) → List ℕ
header_list s r h n first number stamp = 1 ∷ s ∷ r ∷ h ∷ n ∷ first ∷ number ∷ stamp ∷ []

abbrev pub record_list : (label next prior mate up kind depth : ℕ) → List ℕ
record_list l next prior mate up kind depth = l ∷ next ∷ prior ∷ mate ∷ up ∷ kind ∷ depth ∷ []

-- the label of such a record
abbrev pub label_in : List ℕ → ℕ
label_in ws = get_or ws 0 0

-- a word of the header
abbrev pub word_at : List ℕ → (i : ℕ) → ℕ
word_at ws i = get_or ws i 0

-- where the records begin
unfoldable pub records_at : List ℕ → ℕ
records_at ws = header_words

-- how many words a header and the records of n tags have
unfoldable pub words_for : (header n : ℕ) → ℕ
words_for header n = header + tag_words * n

-- a field of a tag's record, and its label
unfoldable pub field : List ℕ → (tag k : ℕ) → ℕ
field ws x k = get_or ws (records_at ws + tag_words * x + k) 0

unfoldable pub label_at : List ℕ → (tag : ℕ) → ℕ
label_at ws x = get_or ws (records_at ws + tag_words * x) 0

-- words with another value there
unfoldable pub with_field : List ℕ → (tag k v : ℕ) → List ℕ
with_field ws x k v = set ws (records_at ws + tag_words * x + k) v

unfoldable pub with_label : List ℕ → (tag label : ℕ) → List ℕ
with_label ws x l = set ws (records_at ws + tag_words * x) l

-- the whole record of a tag is there; and those of n tags
pub record Room (ws : List ℕ) (x : ℕ) : Type 0 where
  pub fits : records_at ws + tag_words * x + tag_words ≤ length ws

pub record Records (ws : List ℕ) (n : ℕ) : Type 0 where
  pub few : n ≤ most_tags
  pub long : words_for header_words n ≤ length ws
