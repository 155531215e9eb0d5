-- `terminal::run` meets its contract: what was read and printed to the end of the input, and then the last line's text. Assumes
-- nothing.
use Rattle.terminal.proofs.Turns.{told_all, on_ok}
use Rattle.terminal.proofs.run.Goals as goal

pub returns : goal.returns
returns g c =
    on_ok c.serve_last.result (λ w. told_all _ (rw (c.new-session.ensures.words, c.first_words-words.ensures) at c.in_ok-serve_all.ensures.told) w) c.serve_last.ensures
