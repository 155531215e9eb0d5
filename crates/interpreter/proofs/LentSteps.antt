-- One step over a piece of input, and the end of it, over lent bytes. Assumes nothing.
use mathlib.Core.Path.{◌≡◌, refl, ap, ◌∙◌}
use mathlib.Core.Bool.{Bool, true, false}
use mathlib.Core.List.{List, [], ◌∷◌, append-nil}
use Prim.Native.Nat.{ℕ, ◌+◌, ◌≤◌, ◌<◌, min}
use native.Mathlib.Omega.{arith}
use lib.ListN.{length, take, drop, length-append, length-drop, length-take}
use lib.Seq.{take_at}
use Rattle.reply_text.specs.Post.{Written}
use Rattle.line_reader.specs.Gather.{has_feed, Gathers}
use Rattle.line_reader.specs.Reads.{last_line, in_hand}
use Rattle.line_reader.proofs.Gathering.{take_within}
use Rattle.interpreter.specs.Answer.{line_text, line_words}
use Rattle.interpreter.specs.Session.{texts, words_behind, buffer_size, step_length, step_held, step_text, step_words}
use Rattle.interpreter.specs.Lent.{LentSteps}
use Rattle.interpreter.proofs.Steps.{feed_within, plain_whole}

module _ {begun line : List ℕ} {at h : ℕ} (piece : List ℕ) (from : ℕ) (g : Gathers begun (drop from piece) from line at h) where
  no_feed : length piece ≤ at → has_feed (drop from piece) ≡ false
  no_feed l = go (has_feed (drop from piece)) refl
    where
      go : (t : Bool) → has_feed (drop from piece) ≡ t → t ≡ false
      go true e = absurd (omega (arith, g.place, feed_within (drop from piece) e, length-drop from piece))
      go false e = refl

  a_feed : at < length piece → has_feed (drop from piece) ≡ true
  a_feed l = go (has_feed (drop from piece)) refl
    where
      go : (t : Bool) → has_feed (drop from piece) ≡ t → t ≡ true
      go true e = refl
      go false e = absurd (omega (arith, g.place, plain_whole (drop from piece) e, length-drop from piece))

  module _ (size : length line ≡ buffer_size) where
    kept : take h line ≡ in_hand buffer_size begun (drop from piece)
    kept = rw size at g.holds.front

    pub steps_on : (ws out : List ℕ) → length piece ≤ at → LentSteps begun (drop from piece) ws from line ws out out at h 0
    unfolding step_length step_held step_text step_words
    steps_on ws out l =
        let e : has_feed (drop from piece) ≡ false = no_feed l in
        record { place = rw e g.place; in_buffer = rw e kept; stored = rw e; printed = rw e (record { text = refl; behind = refl }) }

    pub steps_answer : (ws ws' out out' : List ℕ) (text : ℕ) → at < length piece → ws' ≡ line_words (take h line) ws →
        Written out 0 (line_text (take h line) ws) out' text → LentSteps begun (drop from piece) ws from line ws' out out' (at + 1) 0 text
    unfolding step_length step_held step_text step_words
    steps_answer ws ws' out out' text l w p =
        let e : has_feed (drop from piece) ≡ true = a_feed l in
        record { place = rw e (omega (arith, g.place)); in_buffer = rw e; stored = rw e (rw kept at w); printed = rw e (rw kept at p) }

-- THE END
pub ends_none : (held : ℕ) (line ws out : List ℕ) → held ≡ 0 → (ws ≡ words_behind ws (last_line (take held line))) × (Written out 0 (texts ws (last_line (take held line))) out 0)
unfolding words_behind texts last_line
ends_none held line ws out e = (rw e, rw e (record { text = refl; behind = refl }))

last_one : (l : List ℕ) → 0 < length l → last_line l ≡ l ∷ []
unfolding last_line
last_one [] p = absurd (omega arith)
last_one (c ∷ l) p = refl

pub ends_line : (held h : ℕ) (line ws ws' out out' : List ℕ) (e : ℕ) → (held ≡ 0 → ⊥) → 0 < length line → h ≡ min held (length line) →
    ws' ≡ line_words (take h line) ws → Written out 0 (line_text (take h line) ws) out' e →
    (ws' ≡ words_behind ws (last_line (take held line))) × (Written out 0 (texts ws (last_line (take held line))) out' e)
unfolding words_behind texts
ends_line held h line ws ws' out out' e n some m w p =
    let same : take h line ≡ take held line = take_within held h line m in
    let one : last_line (take held line) ≡ take held line ∷ [] = last_one (take held line) (rw (length-take held line) (omega arith)) in
    (rw one (rw same at w), rw (one, append-nil (line_text (take held line) ws)) (rw same at p))

-- a text that was written lies in the bytes, and is what stands in front there
pub text_within : {out bytes after : List ℕ} {e : ℕ} → Written out 0 bytes after e → e ≤ length after
text_within {out} {bytes} {after} {e} w = omega (arith, w.behind, ap length w.text ∙ length-append bytes (drop (0 + length bytes) out))

pub text_written : {out bytes after : List ℕ} {e : ℕ} → Written out 0 bytes after e → take e after ≡ bytes
text_written {out} {bytes} {after} {e} w = rw w.text (take_at bytes (drop (0 + length bytes) out) e (omega (arith, w.behind)))
