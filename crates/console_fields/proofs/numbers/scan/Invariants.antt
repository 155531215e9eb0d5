-- `console_fields::scan` meets its contract: the digits from here on, with the value so far, give what the whole does. Assumes nothing.
use mathlib.Core.Path.{◌≡◌}
use lib.ListN.{drop}
use Rattle.console_fields.specs.Scan.{scanned}
use Rattle.console_fields.proofs.numbers.scan.Given as goal

abbrev pub invariant-loop-c : goal.invariant-loop-c
invariant-loop-c l = scanned l.value (drop l.c-index l.field) ≡ scanned 0 l.field
