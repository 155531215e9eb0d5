-- `interpreter::say::tag_lines` meets its contract: with the tags that are left, what is written is the whole. Assumes nothing.
use Rattle.std.proofs.Common.{◌≡◌, ◌+◌, ◌*◌, ◌≤◌, ◌++◌, length, drop}
use Rattle.reply_text.specs.Text.{tag_lines}
use Rattle.interpreter.proofs.say.tag_lines.Given as goal

abbrev pub invariant-loop-tag : goal.invariant-loop-tag
invariant-loop-tag l = record {
  room : length l.out ≤ length l.initial.out + 22 * length l.yielded;
  rest : l.out ++ tag_lines (drop (length l.yielded) l.tags) (drop (length l.yielded) l.labels) ≡ l.initial.out ++ tag_lines l.tags l.labels;
}
