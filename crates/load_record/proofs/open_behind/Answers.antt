-- `load_record::open_behind` meets its contract. Assumes nothing.
use mathlib.Core.Path.{sym}
use mathlib.Core.Bool.{true≢false}
use mathlib.Core.Logic.{inl, inr}
use borrow.Author.Tests.{eq-eqb}
use native.Mathlib.Omega.{arith}
use Rattle.load_record.proofs.Inside.{opened}
use Rattle.load_record.proofs.open_behind.Goals as goal

pub returns-then-kind-eq-BEGIN : goal.returns-then-kind-eq-BEGIN
returns-then-kind-eq-BEGIN c =
    opened _ _ _ _ _ c.requires.0 _ _ _ _ c.at_begin.ensures c.at_begin-2.ensures (λ k. inl c.if-kind-eq-BEGIN.true) c.opens_after.ensures

pub returns-then-kind-ne-END : goal.returns-then-kind-ne-END
returns-then-kind-ne-END c =
    opened _ _ _ _ _ c.requires.0 _ _ _ _ c.at_begin.ensures c.at_begin-2.ensures
    (λ known. inr (omega (arith, c.if-kind-eq-BEGIN.false, c.if-kind-ne-END.true, c.requires.0.low, c.requires.0.high), known)) c.opens_after.ensures

pub returns-else-kind-ne-END : goal.returns-else-kind-ne-END
returns-else-kind-ne-END c =
    opened _ _ _ _ _ c.requires.0 _ _ _ _ c.at_begin.ensures c.at_begin-2.ensures
    (λ known. absurd (true≢false (sym (rw (eq-eqb _ 2 c.if-kind-ne-END.false) at known)))) c.opens_after.ensures
