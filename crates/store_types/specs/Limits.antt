-- The numbers that document 01, and document 02 of rights, fix, each named once. Assumes nothing: these are definitions.
use Rattle.std.specs.Prelude.{ℕ}

-- stands for no tag, and as a place for the front of the book ("The book in words")
abbrev pub no_tag : ℕ
no_tag = 4294967295

-- no label, and no width of a root, passes this (refusal 7)
abbrev pub label_limit : ℕ
label_limit = 4294967296

-- numbers that fit a word are below this
abbrev pub word_limit : ℕ
word_limit = 4294967296

-- at most so many tags, marked ones counted
abbrev pub most_tags : ℕ
most_tags = 200000

-- no sound store is higher than this: for H of 2 or more its root has at least 2 times r^(H − 1) tags, and r is at least 2
-- (calls/specs/Promise.antt: HeightMost)
abbrev pub most_levels : ℕ
most_levels = 17

-- parties are numbered from 1 to this (document 02, CR 6)
abbrev pub most_party : ℕ
most_party = 65535

-- the rights: read, write, insert, and all of them added up
abbrev pub read_right : ℕ
read_right = 1

abbrev pub write_right : ℕ
write_right = 2

abbrev pub insert_right : ℕ
insert_right = 4

abbrev pub all_rights : ℕ
all_rights = 7
