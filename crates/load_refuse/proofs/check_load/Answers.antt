-- `load_refuse::check_load` meets its contract: each test as the definition has it, in its order. Assumes nothing.
use mathlib.Core.Path.{sym, ◌∙◌}
use Prim.Native.Nat.{◌<◌}
use native.Mathlib.Omega.{arith}
use borrow.Author.Tests.{lt-ltb, le-ltb, not-true, not-false}
use lib.ListN.{length}
use Rattle.store_types.specs.Layout.{header_words, words_for}
use Rattle.store_types.specs.Replies.{number_of, refusal_in}
use Rattle.lists.specs.Lists.{first}
use Rattle.calls.specs.Sound.{degrees_fit}
use Rattle.calls.specs.Load.{early_tests}
use Rattle.shape.specs.Needs.{degree_fits}
use Rattle.load_refuse.specs.Refusals.{kinds_refusal, refusal_before}
use Rattle.load_refuse.proofs.check_load.Goals as goal

pub returns-then-not-degree_fits : goal.returns-then-not-degree_fits
unfolding refusal_in number_of refusal_before early_tests first degrees_fit degree_fits
returns-then-not-degree_fits c = rw (sym c.degree_fits.ensures ∙ not-true _ c.if-not-degree_fits.true-raw)

pub returns-then-not-degree_fits-2 : goal.returns-then-not-degree_fits-2
unfolding refusal_in number_of refusal_before early_tests first degrees_fit degree_fits
returns-then-not-degree_fits-2 c = rw ((sym c.degree_fits.ensures ∙ not-false _ c.if-not-degree_fits.false-raw), sym c.degree_fits-2.ensures ∙ not-true _ c.if-not-degree_fits-2.true-raw)

pub returns-then-kinds-gt-MOST_KINDS : goal.returns-then-kinds-gt-MOST_KINDS
unfolding refusal_in number_of refusal_before early_tests first degrees_fit degree_fits
returns-then-kinds-gt-MOST_KINDS c = rw ((sym c.degree_fits.ensures ∙ not-false _ c.if-not-degree_fits.false-raw), (sym c.degree_fits-2.ensures ∙ not-false _ c.if-not-degree_fits-2.false-raw), lt-ltb 200000 _ c.if-kinds-gt-MOST_KINDS.true)

pub returns-then-room-words_for : goal.returns-then-room-words_for
unfolding refusal_in number_of refusal_before early_tests first degrees_fit degree_fits
returns-then-room-words_for c =
    let short : c.args.room < words_for header_words (length c.args.kinds.now) = omega (arith, c.words_for.ensures, c.if-room-words_for.true) in
    rw ((sym c.degree_fits.ensures ∙ not-false _ c.if-not-degree_fits.false-raw), (sym c.degree_fits-2.ensures ∙ not-false _ c.if-not-degree_fits-2.false-raw), le-ltb _ _ c.if-kinds-gt-MOST_KINDS.false, lt-ltb _ _ short)

pub returns : goal.returns
unfolding refusal_before kinds_refusal early_tests first degrees_fit degree_fits
returns c =
    rw ((sym c.degree_fits.ensures ∙ not-false _ c.if-not-degree_fits.false-raw), (sym c.degree_fits-2.ensures ∙ not-false _ c.if-not-degree_fits-2.false-raw), le-ltb _ _ c.if-kinds-gt-MOST_KINDS.false, le-ltb _ _ (rw c.words_for.ensures at c.if-room-words_for.false)) c.check_kinds.ensures
