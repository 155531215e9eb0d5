-- `file_form::row_field` meets its contract. Assumes nothing.
use mathlib.Core.Path.{◌≡◌}
use Prim.Native.Nat.{suc, ◌+◌}
use native.Mathlib.Omega.{arith}
use Rattle.file_form.proofs.row_field.Goals as goal

pub returns : goal.returns
returns c = let next : 1 + c.args.k ≡ suc c.args.k = omega arith in rw next at c.row_word.ensures
