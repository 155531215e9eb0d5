-- `interpreter::session::Session::finish` meets its contract, by whether a byte is in hand. Assumes nothing.
use Rattle.std.proofs.Common.{◌≡◌, refl, length, arith}
use Rattle.interpreter.proofs.Steps.{ends_none, ends_line}
use Rattle.interpreter.proofs.session.Session.finish.Goals as goal

pub returns-in-empty : goal.returns-in-empty
returns-in-empty c =
    let none : length c.as_slice.result.now ≡ 0 = omega arith in
    let all = ends_none c.args.self.now.line c.args.self.now.words.now (rw c.as_slice.ensures.all at none) in
    record { same_reference = refl; line = refl; words = all.0; text = rw c.clear.ensures all.1 }

pub returns-in_default : goal.returns-in_default
returns-in_default c =
    let all = ends_line c.args.self.now.line c.args.self.now.words.now _ _ (rw c.as_slice.ensures.all at c.in_default.len_at_least)
    (rw c.as_slice.ensures.all at c.answer.ensures.words) (rw c.as_slice.ensures.all at c.answer.ensures.text) in
    record { same_reference = refl; line = refl; words = all.0; text = all.1 }
