-- `interpreter::reply::answer` meets its contract, by the line's command. Assumes nothing.
use Rattle.std.proofs.Common.{Some, refl, sym, ap, ◌∙◌}
use lib.Seq.{length-take-le}
use Rattle.interpreter.specs.Answer.{command_text, command_words}
use Rattle.interpreter.proofs.Commands.{answers, answers_load, load_within}
use Rattle.interpreter.proofs.reply.answer.Goals as goal

pub slice_bounds-kinds-end : goal.slice_bounds-kinds-end
slice_bounds-kinds-end c =
    load_within c.args.line.now c.parse.ensures (c.in-Some.is ∙ ap Some c.in-Load.is)

pub slice_bounds-load-end : goal.slice_bounds-load-end
slice_bounds-load-end c =
    sym (length-take-le _ c.parse.new.kinds (load_within c.args.line.now c.parse.ensures (c.in-Some.is ∙ ap Some c.in-Load.is)))

pub returns-in-Load : goal.returns-in-Load
returns-in-Load c =
    let all = answers_load c.args.line.now c.parse.ensures (c.in-Some.is ∙ ap Some c.in-Load.is) c.args.words.now c.load.ensures.words (rw c.clear.ensures at c.load.ensures.text) in record { words = all.0; text = all.1 }

pub returns-in-Insert : goal.returns-in-Insert
unfolding command_text command_words
returns-in-Insert c =
    let all = answers c.args.line.now c.parse.ensures (c.in-Some.is ∙ ap Some c.in-Insert.is) c.args.words.now c.insert.ensures.words (rw c.clear.ensures at c.insert.ensures.text) in record { words = all.0; text = all.1 }

pub returns-in-Mark : goal.returns-in-Mark
unfolding command_text command_words
returns-in-Mark c =
    let all = answers c.args.line.now c.parse.ensures (c.in-Some.is ∙ ap Some c.in-Mark.is) c.args.words.now c.mark.ensures.words (rw c.clear.ensures at c.mark.ensures.text) in record { words = all.0; text = all.1 }

pub returns-in-List : goal.returns-in-List
unfolding command_text command_words
returns-in-List c =
    let all = answers c.args.line.now c.parse.ensures (c.in-Some.is ∙ ap Some c.in-List.is) c.args.words.now refl (rw c.clear.ensures at c.list.ensures) in record { words = all.0; text = all.1 }

pub returns-in_default : goal.returns-in_default
unfolding command_text command_words
returns-in_default c =
    let all = answers c.args.line.now c.parse.ensures c.in_default.is c.args.words.now refl (rw c.clear.ensures at c.unknown_line.ensures) in record { words = all.0; text = all.1 }
