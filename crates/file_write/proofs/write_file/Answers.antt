-- `file_write::write_file` meets its contract. Assumes nothing.
use mathlib.Core.Path.{sym}
use native.Mathlib.Omega.{arith}
use borrow.Author.Rules.{rules}
use Rattle.store_types.specs.Replies.{numbered, refusal_in}
use Rattle.file_write.proofs.WriteReplies.{file_room, few_bytes, write_refuses, write_writes}
use Rattle.file_write.proofs.write_file.Goals as goal

pub returns-in_err-check_lent : goal.returns-in_err-check_lent
returns-in_err-check_lent c = let all = write_refuses _ _ _ _ c.in_err-check_lent.ensures _ (search rules) in record { reply = all.0; bytes = all.1 }

pub put_file-count-requires : goal.put_file-count-requires
unfolding refusal_in
put_file-count-requires c = file_room _ _ (sym c.in_ok-check_lent.ensures)

pub overflow_cast-result : goal.overflow_cast-result
unfolding refusal_in
overflow_cast-result c =
    omega (arith, c.put_file-count.ensures.count, few_bytes _ _ (sym c.in_ok-check_lent.ensures))

pub returns : goal.returns
unfolding refusal_in numbered
returns c =
    let all = write_writes _ _ (sym c.in_ok-check_lent.ensures) c.put_file-count.ensures.count c.put_file-count.ensures.bytes in record { reply = all.0; bytes = all.1 }
