-- `console::lines::parse` meets its contract, by the line's length, its word and what is after it. Assumes nothing.
use native.Mathlib.Omega.{arith}
use Rattle.console.proofs.Words.{word_is}
use Rattle.console.proofs.Parses.{line_long, line_one, line_load, line_two, line_many}
use Rattle.console.proofs.lines.parse.Goals as goal

pub returns-then-line-gt-LINE_LIMIT : goal.returns-then-line-gt-LINE_LIMIT
returns-then-line-gt-LINE_LIMIT c = line_long _ _ (omega (arith, c.if-line-gt-LINE_LIMIT.true))

pub returns-in_default : goal.returns-in_default
returns-in_default c = line_one _ c.if-line-gt-LINE_LIMIT.false _ (rw c.in_default.is at c.split_field.ensures) c.one_field.ensures

pub returns-then-eq : goal.returns-then-eq
returns-then-eq c = line_load _ c.if-line-gt-LINE_LIMIT.false (rw c.in-Some.is at c.split_field.ensures) _ (word_is _ c.if-eq.ensures c.as_slice.ensures) c.load.ensures

pub returns-in-None : goal.returns-in-None
returns-in-None c =
    line_two _ c.if-line-gt-LINE_LIMIT.false (rw c.in-Some.is at c.split_field.ensures) _ (rw c.in-None.is at c.split_field-2.ensures) c.two_fields.ensures

pub returns-in-Some-more : goal.returns-in-Some-more
returns-in-Some-more c =
    line_many _ c.if-line-gt-LINE_LIMIT.false (rw c.in-Some.is at c.split_field.ensures) (rw c.in-Some-more.is at c.split_field-2.ensures) (word_is _ c.if-eq.ensures c.as_slice.ensures)
