-- The filter of names: a name's place in it. Equal names have one place, so that a name whose place is not marked is new.
-- Assumes nothing: these are definitions.
use Rattle.std.specs.Prelude.{List, ℕ, ◌+◌, ◌*◌, ◌-◌, ◌%◌, length, get_or}

-- how many places the filter has
abbrev pub filter_places : ℕ
filter_places = 64

-- by its first and last byte and its length
unfoldable pub filter_place : (name : List ℕ) → ℕ
filter_place n = (get_or n 0 0 + (3 * get_or n (length n - 1) 0 + 8 * (length n % 8))) % filter_places
