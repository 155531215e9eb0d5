-- The specimens of specs/Specimens.antt hold: the checker computes the table. Assumes nothing.
use mathlib.Core.Path.{◌≡◌, refl}
use mathlib.Core.List.{map}
use Rattle.lists.specs.Lists.{same, with_first}
use Rattle.console_fields.specs.Field.{is_digit, all_digits, value_from, well_begun, number_of, is_letter, all_letters, letter_kind}
use Rattle.console.specs.Line.{fields, number_or_front, load_of, insert_of, mark_of, command_of, parsed}
use Rattle.console.specs.Specimens.{readings}

pub line_specimens : map (λ e. parsed e.line) readings ≡ map (λ e. e.says) readings
unfolding same with_first fields is_digit all_digits value_from well_begun number_of number_or_front is_letter all_letters letter_kind load_of insert_of mark_of command_of parsed
line_specimens = refl
