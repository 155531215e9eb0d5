-- Words as a system without grants. Assumes nothing: this is a definition.
use Rattle.std.specs.Prelude.{List, [], ℕ}
use Rattle.system.specs.System.{System}

abbrev pub over : (words : List ℕ) → System
over ws = record { words = ws; grants = []; count = 0 }
