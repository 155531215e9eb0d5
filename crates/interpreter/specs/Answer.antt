-- What a line prints, and the words after it (document 01, "The book program"): the call that the line asks for, on the
-- words before, as crate calls defines it; its reply's numbers as crate reply_text prints them. Assumes nothing: these are
-- definitions.
use Rattle.store_types.specs.Replies.{count_numbers}
use Rattle.std.specs.Prelude.{List, [], ◌∷◌, ◌++◌, ℕ, zero, suc, ◌+◌, ◌*◌, length, replicate, Option, Some, None}
use Rattle.store_types.specs.Limits.{no_tag}
use Rattle.store_types.specs.Layout.{header_words, tag_words}
use Rattle.calls.specs.Listing.{list_refusal, listed_tags, listed_labels}
use Rattle.calls.specs.Replies.{refusal_over, said, load_reply, load_numbers, load_words, insert_reply, insert_numbers, insert_words, mark_reply, mark_words}
use Rattle.console.specs.Line.{parsed}
use Rattle.reply_text.specs.Text.{reply_line, tag_lines, end_line, unknown_line}
use Rattle.console.specs.declared.Command.{Command}
use Rattle.console.specs.declared.Command.TheVariants.{Load, Insert, Mark, List as ListAll}

-- the store is for so many tags, all its words 0 at first
abbrev pub book_tags : ℕ
book_tags = 2000

unfoldable pub first_words : List ℕ
first_words = replicate (header_words + tag_words * book_tags) 0

unfoldable pub load_text : (s r book : ℕ) → (kinds words : List ℕ) → List ℕ
load_text s r b ks ws = reply_line (load_numbers (load_reply s r b ks ws))

unfoldable pub insert_text : (kind place : ℕ) → (words : List ℕ) → List ℕ
insert_text k y ws = reply_line (insert_numbers (insert_reply k y ws))

unfoldable pub mark_text : (tag : ℕ) → (words : List ℕ) → List ℕ
mark_text x ws = reply_line (count_numbers (mark_reply x ws))

-- tag and label a line, then `end` and the count; or the refusal
unfoldable pub listing : (refusal : ℕ) → (tags labels : List ℕ) → List ℕ
listing zero ts ls = tag_lines ts ls ++ end_line (length ts)
listing (suc k) ts ls = reply_line (suc k ∷ [])

-- of the whole book, into lists for as many tags as the store is for
unfoldable pub list_text : (words : List ℕ) → List ℕ
list_text ws =
    let st = said ws in
    listing (refusal_over ws (list_refusal book_tags book_tags no_tag)) (listed_tags no_tag st) (listed_labels no_tag st)

unfoldable pub command_text : Option Command → (kinds words : List ℕ) → List ℕ
command_text (Some (Load s r b n)) ks ws = load_text s r b ks ws
command_text (Some (Insert k y)) ks ws = insert_text k y.0 ws
command_text (Some (Mark x)) ks ws = mark_text x.0 ws
command_text (Some ListAll) ks ws = list_text ws
command_text None ks ws = unknown_line

unfoldable pub command_words : Option Command → (kinds words : List ℕ) → List ℕ
command_words (Some (Load s r b n)) ks ws = load_words s r b ks ws
command_words (Some (Insert k y)) ks ws = insert_words k y.0 ws
command_words (Some (Mark x)) ks ws = mark_words x.0 ws
command_words (Some ListAll) ks ws = ws
command_words None ks ws = ws

-- A LINE, without its line feed
unfoldable pub line_text : (line words : List ℕ) → List ℕ
line_text l ws = command_text (parsed l).command (parsed l).kinds ws

unfoldable pub line_words : (line words : List ℕ) → List ℕ
line_words l ws = command_words (parsed l).command (parsed l).kinds ws
