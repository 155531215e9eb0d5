-- A byte of which most text is made. Assumes nothing: these are definitions.
use Rattle.std.specs.Prelude.{Bool, ◌||◌, ℕ}
use Rattle.xml.specs.Bytes.{is_space, is_name_char}

-- it may stand anywhere in character data
unfoldable pub is_usual : ℕ → Bool
is_usual c = is_space c || is_name_char c
