-- `file_write::check_lent` meets its contract. Assumes nothing.
use mathlib.Core.Path.{sym}
use native.Mathlib.Omega.{arith}
use borrow.Author.Rules.{rules}
use Rattle.store_types.specs.Replies.{number_of, refusal_in}
use Rattle.store_refuse.proofs.Laws.{accepted_says, words_told, header_room}
use Rattle.file_write.proofs.WriteReplies.{too_few, enough}
use Rattle.file_write.proofs.check_lent.Goals as goal

pub returns-in_err-check_words : goal.returns-in_err-check_words
returns-in_err-check_words c = words_told _ _ _ _ c.in_err-check_words.ensures _ (search rules)

pub count_of-n-requires : goal.count_of-n-requires
unfolding refusal_in number_of
count_of-n-requires c = header_room _ (accepted_says _ _ (sym c.in_ok-check_words.ensures))

pub returns-then-lent-needed : goal.returns-then-lent-needed
unfolding refusal_in number_of
returns-then-lent-needed c =
    too_few _ _ (accepted_says _ _ (sym c.in_ok-check_words.ensures)) c.count_of-n.ensures (omega (arith, c.file_bytes-needed.ensures, c.if-lent-needed.true))

pub returns : goal.returns
unfolding refusal_in number_of
returns c =
    enough _ _ (accepted_says _ _ (sym c.in_ok-check_words.ensures)) c.count_of-n.ensures (omega (arith, c.file_bytes-needed.ensures, c.if-lent-needed.false))
