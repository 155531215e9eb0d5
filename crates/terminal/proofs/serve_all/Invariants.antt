-- `terminal::serve_all` meets its contract: the pieces so far, with any that follow, have led from the words at first, and
-- what is printed of them was written. Assumes nothing.
use Rattle.std.proofs.Common.{◌≡◌, ℕ, List, [], length}
use Rattle.interpreter.specs.Session.{Went, Led}
use Rattle.terminal.proofs.Turns.{Speaking}
use Rattle.terminal.proofs.serve_all.Given as goal

abbrev pub invariant-loop : goal.invariant-loop
invariant-loop g l = record {
  room : 65536 ≡ length l.buffer;
  led : (ps : List (List ℕ)) (a b : List ℕ) → Went l.session.line l.session.words.now ps a b → Led [] l.initial.session.words.now a b;
  speaking : Speaking l.initial.session.words.now l.session.line l.session.words.now (g.R.Read.remaining l.initial.input) (g.R.Read.remaining l.input) (g.W.Write.contents l.initial.output) (g.W.Write.contents l.output);
}
