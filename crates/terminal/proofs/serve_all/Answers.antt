-- `terminal::serve_all` meets its contract. Assumes nothing.
use Rattle.std.proofs.Common.{[], ◌∷◌, arith, rules}
use Rattle.interpreter.specs.Session.{none, onward}
use Rattle.terminal.proofs.Turns.{speaking_first, speaking_on, speaking_over}
use Rattle.terminal.proofs.serve_all.Goals as goal

pub loop-init : goal.loop-init
loop-init g c = record {
  room = search rules;
  led = rw c.clear.ensures (λ ps a b x. record { pieces = ps; went = x });
  speaking = rw c.clear.ensures (speaking_first c.args.session.now.words.now _ _);
}

pub returns-then-n-eq0-clause-led : goal.returns-then-n-eq0-clause-led
returns-then-n-eq0-clause-led g c = c.loop.invariant.led [] _ _ none

pub returns-then-n-eq0-clause-told : goal.returns-then-n-eq0-clause-told
returns-then-n-eq0-clause-told g c =
    speaking_over c.loop.invariant.speaking (rw c.if-n-eq0.true at c.in_ok-n.ensures.bytes) (c.in_ok-n.ensures.end c.if-n-eq0.true (omega (arith, c.loop.invariant.room)))

pub loop-preserved : goal.loop-preserved
loop-preserved g c = record {
  room = search rules;
  led = λ ps a b x. c.loop.invariant.led (_ ∷ ps) a b (onward c.in_ok-serve.ensures.passed x);
  speaking = speaking_on c.loop.invariant.speaking c.in_ok-serve.ensures.printed c.in_ok-n.ensures.bytes;
}
