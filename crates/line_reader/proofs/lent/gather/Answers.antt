-- `line_reader::lent::gather` meets its contract: what is kept of the stretch goes after what was in hand. Assumes nothing.
use Rattle.std.proofs.Common.{◌≡◌, length, drop, ◌+◌, ◌-◌}
use mathlib.Core.Path.{ap}
use native.Mathlib.Omega.{arith}
use lib.ListN.{length-drop}
use Rattle.line_reader.specs.Gather.{stretch}
use Rattle.line_reader.proofs.Gathering.{held_in_lent}
use Rattle.line_reader.proofs.lent.gather.Goals as goal

pub returns : goal.returns
returns c =
    let line = c.args.line.now in
    let b = c.within-begun.result in
    let k = c.min-kept.result in
    let t : c.stretch-taken.result ≡ length (stretch c.rest-left.result.now) = c.stretch-taken.ensures.taken in
    let left : length (drop ((b + k) - b) (drop b line)) ≡ (length line - b) - ((b + k) - b) = rw (length-drop ((b + k) - b) (drop b line), length-drop b line) in
    record {
      place = rw (← c.rest-left.ensures) (ap (λ n. c.args.from + n) t);
      holds = rw (c.copy_from_slice.ensures.after, ← c.rest-left.ensures) (held_in_lent line c.rest-left.result.now _ c.args.held c.within-begun.ensures t c.min-kept.ensures (omega (arith, left, c.within-begun.ensures, c.min-kept.ensures)));
    }
