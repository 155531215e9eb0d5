-- `mark_call::mark_section` meets its contract: what is left from the loop's tag on is the whole. Assumes nothing.
use Rattle.mark_call.specs.Run.{tags_of}
use Rattle.mark_call.proofs.Loop.{Left}
use Rattle.mark_call.proofs.mark_section.Given as goal

abbrev pub invariant-loop : goal.invariant-loop
invariant-loop l =
    Left l.n l.last.0 l.initial.words (tags_of l.n l.initial.words l.initial.tag.0) l.words l.tag.0 l.marked l.counter
