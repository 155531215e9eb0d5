-- `xml_ends::closed` meets its contract. Assumes nothing.
use mathlib.Core.Path.{ap}
use Rattle.xml_pieces.specs.Outcome.{cursor_at}
use Rattle.xml_ends.proofs.closed.Goals as goal

pub returns : goal.returns
returns c =
    record { cursor = ap (λ n. cursor_at c.args.end n 0) c.put_kind-n.ensures.count; list = c.put_kind-n.ensures.list }
