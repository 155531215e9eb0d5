-- What the functions of this crate ensure and require, by parts that have names. Assumes nothing: these are definitions.
use Rattle.std.specs.Prelude.{◌≡◌, List, ℕ, length, take, Option}
use Rattle.console.specs.Line.{Parsed}
use Rattle.console.specs.declared.Command.{Command}

-- a line's command as a result, and its kinds in front of the lent array
pub record Gives (p : Parsed) (c : Option Command) (kinds : List ℕ) : Type 0 where
  pub command : c ≡ p.command
  pub written : take (length p.kinds) kinds ≡ p.kinds
