-- `store_refuse::check_words_at` meets its contract: the walk decides whether words say a store. Assumes nothing.
use borrow.Author.Tests.{not-true, not-false}
use mathlib.Core.Path.{sym, ◌∙◌}
use Rattle.store_types.specs.Replies.{number_of, refusal_in}
use Rattle.store_refuse.proofs.Laws.{refused_short, refused_unsound, refused_passing}
use Rattle.store_refuse.proofs.check_words_at.Goals as goal

pub returns-then-words-lt-HEADER_WORDS-clause-refusal : goal.returns-then-words-lt-HEADER_WORDS-clause-refusal
unfolding refusal_in number_of
returns-then-words-lt-HEADER_WORDS-clause-refusal c = sym (refused_short _ _ c.if-words-lt-HEADER_WORDS.true)

pub returns-then-not-sound_at-clause-refusal : goal.returns-then-not-sound_at-clause-refusal
unfolding refusal_in number_of
returns-then-not-sound_at-clause-refusal c = sym (refused_unsound _ _ c.if-words-lt-HEADER_WORDS.false (sym c.sound_at.ensures.ok ∙ not-true _ c.if-not-sound_at.true-raw))

pub returns : goal.returns
unfolding refusal_in
returns c = record { refusal = sym (refused_passing _ _ (sym c.sound_at.ensures.ok ∙ not-false _ c.if-not-sound_at.false-raw)); tables = c.sound_at.ensures.tables (not-false _ c.if-not-sound_at.false-raw); sizes = c.sound_at.ensures.sizes (not-false _ c.if-not-sound_at.false-raw) }
