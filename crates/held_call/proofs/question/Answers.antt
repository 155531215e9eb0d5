-- `held_call::question` meets its contract. Assumes nothing.
use mathlib.Core.Path.{sym}
use borrow.Author.Rules.{rules}
use Rattle.store_types.specs.Replies.{refusal_in}
use Rattle.calls.specs.Replies.{question_reply}
use Rattle.calls.proofs.Checks.{check_refuses}
use Rattle.store_refuse.proofs.Laws.{accepted_says}
use Rattle.held_call.proofs.question.Goals as goal

pub returns-in_err-check_words : goal.returns-in_err-check_words
unfolding question_reply
returns-in_err-check_words c = check_refuses _ _ _ c.in_err-check_words.ensures _ _ (search rules)

pub asked-requires : goal.asked-requires
unfolding refusal_in
asked-requires c = accepted_says _ _ (sym c.in_ok-check_words.ensures)
