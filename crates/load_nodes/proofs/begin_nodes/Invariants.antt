-- `load_nodes::begin_nodes` meets its contract. The loop's invariant: what is left comes to what the whole does. Assumes
-- nothing.
use mathlib.Core.Path.{◌≡◌}
use Prim.Native.Nat.{◌<◌}
use Rattle.powers.specs.Tables.{table_length}
use Rattle.store_types.specs.Limits.{label_limit}
use Rattle.load_model.specs.Begins.{begun}
use Rattle.load_nodes.proofs.Nodes.{from_height}
use Rattle.load_nodes.proofs.begin_nodes.Given as goal

abbrev pub invariant-loop-j : goal.invariant-loop-j
invariant-loop-j l =
    (l.at < label_limit) × (from_height l.gaps l.lows l.n l.i l.j l.at l.begins ≡ begun table_length 0 l.gaps l.lows l.n l.i l.label l.initial.begins)
