-- Where everything stands in a file (document 02, CR 3): records, each a length, a kind and words. Assumes nothing: these are
-- definitions.
use Rattle.std.specs.Prelude.{ℕ, ◌+◌, ◌*◌}

-- the kinds of records: the header's, a tag's, the last
abbrev pub header_kind : ℕ
header_kind = 1

abbrev pub tag_kind : ℕ
tag_kind = 2

abbrev pub end_kind : ℕ
end_kind = 3

-- bytes of a length, of a kind and of a word; so of what stands before the words of a record
abbrev pub length_bytes : ℕ
length_bytes = 4

abbrev pub kind_bytes : ℕ
kind_bytes = 2

abbrev pub word_bytes : ℕ
word_bytes = 4

abbrev pub front_bytes : ℕ
front_bytes = length_bytes + kind_bytes

-- words of the header's record and of a tag's, which are a row; and of the last record
abbrev pub row_words : ℕ
row_words = 7

abbrev pub end_words : ℕ
end_words = 1

-- bytes of such records, and of the file of n tags
abbrev pub row_bytes : ℕ
row_bytes = front_bytes + word_bytes * row_words

abbrev pub end_bytes : ℕ
end_bytes = front_bytes + word_bytes * end_words

abbrev pub file_bytes : (n : ℕ) → ℕ
file_bytes n = row_bytes + row_bytes * n + end_bytes

-- where the i-th tag's record begins, and where its words do
abbrev pub record_place : (i : ℕ) → ℕ
record_place i = row_bytes + row_bytes * i

abbrev pub row_place : (i : ℕ) → ℕ
row_place i = record_place i + front_bytes

-- the words of a tag's record that a file keeps: all but the last, its depth, which the kinds give (document 02, CR 7)
abbrev pub kept_words : ℕ
kept_words = 6

-- words of a row: the tag's number and its label; its fields stand after them in the order of a record
abbrev pub at_number : ℕ
at_number = 0

abbrev pub at_label : ℕ
at_label = 1
