-- The specimens of specs/Specimens.antt hold: the checker computes the table. Assumes nothing.
use mathlib.Core.Path.{◌≡◌, refl}
use mathlib.Core.List.{map}
use Rattle.lists.specs.Texts.{bytes}
use Rattle.reply_text.specs.Text.{decimal_from, decimal, spaced, reply_line, tag_line, tag_lines, end_line, unknown_line}
use Rattle.reply_text.specs.Specimens.{replies}

pub reply_specimens : map (λ e. e.print) replies ≡ map (λ e. bytes e.text) replies
unfolding decimal_from decimal spaced reply_line tag_line tag_lines end_line unknown_line
reply_specimens = refl
