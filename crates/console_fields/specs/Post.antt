-- What the functions of this crate ensure, by parts that have names. Assumes nothing: these are definitions.
use Rattle.std.specs.Prelude.{◌≡◌, Bool, true, List, map, ℕ, suc, ◌<◌, length, take, drop, Option, MatchOption}
use Rattle.console_fields.specs.Field.{all_letters, letter_kind}
use Rattle.console_fields.specs.Scan.{first_space}

-- what stands after a line's first space
pub record After (line rest : List ℕ) : Type 0 where
  pub space : first_space line < length line
  pub bytes : rest ≡ drop (suc (first_space line)) line

-- a line at its first space: the field before it, and what stands after it where there is one
pub record Split (line field : List ℕ) (rest : Option (List ℕ)) : Type 0 where
  pub front : field ≡ take (first_space line) line
  pub rest_is : MatchOption rest (first_space line ≡ length line) (After line)

-- whether a field is of letters only, and their kinds in front of the lent array where it is
pub record Lettered (field kinds : List ℕ) (t : Bool) : Type 0 where
  pub whether : t ≡ all_letters field
  pub written : all_letters field ≡ true → take (length field) kinds ≡ map letter_kind field
