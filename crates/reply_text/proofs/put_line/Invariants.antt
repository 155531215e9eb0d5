-- `reply_text::put_line` meets its contract: with the numbers that are left, what is written is the whole. Assumes nothing.
use Rattle.std.proofs.Common.{◌≡◌, ◌+◌, ◌*◌, ◌≤◌, ◌++◌, length, drop}
use Rattle.reply_text.specs.Text.{spaced}
use Rattle.reply_text.proofs.put_line.Given as goal

abbrev pub invariant-loop-n : goal.invariant-loop-n
invariant-loop-n g l = record {
  room : length l.out ≤ length l.initial.out + 11 * l.n-index;
  rest : l.out ++ spaced (drop l.n-index l.numbers) ≡ l.initial.out ++ spaced l.numbers;
}
