-- `console_fields::letters::letters` meets its contract: letters up to here have their kinds written, and the rest decides. Assumes nothing.
use mathlib.Core.Path.{◌≡◌}
use mathlib.Core.List.{map}
use lib.ListN.{take, drop}
use Rattle.console_fields.specs.Field.{all_letters, letter_kind}
use Rattle.console_fields.proofs.letters.letters.Given as goal

abbrev pub invariant-loop-i : goal.invariant-loop-i
invariant-loop-i l = record {
  rest : all_letters (drop l.i l.field) ≡ all_letters l.field;
  kinds : take l.i l.kinds ≡ map letter_kind (take l.i l.field);
}
