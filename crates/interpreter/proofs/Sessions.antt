-- However an input comes in pieces, what is printed is what its lines print. Assumes nothing.
use mathlib.Core.Path.{◌≡◌, refl, ap, sym, ◌∙◌}
use mathlib.Core.Logic.{by_cases}
use mathlib.Core.Bool.{Bool, true, false, cond}
use mathlib.Core.List.{List, [], ◌∷◌, ◌++◌, append_assoc}
use Prim.Native.Nat.{ℕ, zero, suc, ◌≤◌}
use native.Mathlib.Decide.{dec_le}
use native.Mathlib.Omega.{arith}
use borrow.Author.Tests.{lt-ltb}
use lib.ListN.{length, take, drop, length-drop}
use lib.Dec.{eqb}
use lib.Seq.{take_all, take-take, length-take-le}
use Rattle.console.specs.Line.{parsed, line_limit}
use Rattle.line_reader.specs.Lines.{lines}
use Rattle.line_reader.specs.Gather.{stretch, has_feed}
use Rattle.line_reader.specs.Reads.{whole, last_line, in_hand, rest_of}
use Rattle.line_reader.proofs.Gathering.{take_more}
use Rattle.line_reader.proofs.Pieces.{behind, behind_none, feed_lines, plain_lines}
use Rattle.interpreter.specs.Answer.{line_text, line_words}
use Rattle.interpreter.specs.Session.{texts, buffer_size, step_length, step_held, step_text, step_words, Passes, over, step, Talks, ends, piece}
use Rattle.interpreter.specs.Promise.{PiecesPrinted}

-- a line that is cut at the buffer's end is still too long
parsed_kept : (l : List ℕ) → parsed (take buffer_size l) ≡ parsed l
unfolding parsed
parsed_kept l =
    by_cases (dec_le (length l) buffer_size)
    (λ m. ap parsed (take_all buffer_size l m))
    (λ m. let size : length (take buffer_size l) ≡ buffer_size = length-take-le buffer_size l (omega arith) in
    rw (lt-ltb line_limit (length (take buffer_size l)) (omega arith), lt-ltb line_limit (length l) (omega arith)))

text_kept : (l ws : List ℕ) → line_text (take buffer_size l) ws ≡ line_text l ws
unfolding line_text
text_kept l ws = rw (parsed_kept l)

words_kept : (l ws : List ℕ) → line_words (take buffer_size l) ws ≡ line_words l ws
unfolding line_words
words_kept l ws = rw (parsed_kept l)

-- two first lines that are cut to the same
first_kept : (ws h l : List ℕ) (ls : List (List ℕ)) → take buffer_size h ≡ take buffer_size l → texts ws (h ∷ ls) ≡ texts ws (l ∷ ls)
unfolding texts
first_kept ws h l ls e =
    let text : line_text h ws ≡ line_text l ws = sym (text_kept h ws) ∙ ap (λ k. line_text k ws) e ∙ text_kept l ws in
    let words : line_words h ws ≡ line_words l ws = sym (words_kept h ws) ∙ ap (λ k. line_words k ws) e ∙ words_kept l ws in
    rw (text, words)

held_kept : (ws h : List ℕ) (ls : List (List ℕ)) → texts ws (behind (take buffer_size h) ls) ≡ texts ws (behind h ls)
unfolding behind last_line
held_kept ws [] [] = refl
held_kept ws (c ∷ h) [] = first_kept ws (take buffer_size (c ∷ h)) (c ∷ h) [] (take-take buffer_size buffer_size (c ∷ h) (omega arith))
held_kept ws h (l ∷ ls) = first_kept ws (take buffer_size h ++ l) (h ++ l) ls (take_more buffer_size h l)

-- a piece without a line feed is used up
used_up : (p : List ℕ) → has_feed p ≡ false → drop (length (stretch p)) p ≡ []
unfolding has_feed stretch
used_up [] e = refl
used_up (c ∷ p) e = go (eqb c 10) e (used_up p)
  where
    go : (t : Bool) → cond t true (has_feed p) ≡ false → (has_feed p ≡ false → drop (length (stretch p)) p ≡ []) → drop (length (cond t [] (c ∷ stretch p))) (c ∷ p) ≡ []
    go true e more = absurd (let z : ◌≡◌ {A = ℕ} 0 1 = cc in omega arith)
    go false e more = more e

-- ONE STEP, with a line feed and without
module _ (h p ws t : List ℕ) (rest : List ℕ) where
  step_feed : has_feed p ≡ true → t ≡ texts (line_words (in_hand buffer_size h p) ws) (behind [] (lines (rest_of p ++ rest))) →
      line_text (in_hand buffer_size h p) ws ++ t ≡ texts ws (behind h (lines (p ++ rest)))
  unfolding texts behind
  step_feed e q =
      ap (λ k. line_text (in_hand buffer_size h p) ws ++ k) (q ∙ ap (texts (line_words (in_hand buffer_size h p) ws)) (behind_none (lines (rest_of p ++ rest)))) ∙
      first_kept ws (in_hand buffer_size h p) (h ++ stretch p) (lines (rest_of p ++ rest)) (take-take buffer_size buffer_size (h ++ stretch p) (omega arith)) ∙
      ap (λ k. texts ws (behind h k)) (sym (feed_lines p rest e))

  step_plain : has_feed p ≡ false → t ≡ texts ws (behind (in_hand buffer_size h p) (lines (drop (length (stretch p)) p ++ rest))) → t ≡ texts ws (behind h (lines (p ++ rest)))
  step_plain e q =
      q ∙
      ap (λ k. texts ws (behind (in_hand buffer_size h p) (lines (k ++ rest)))) (used_up p e) ∙
      held_kept ws (h ++ stretch p) (lines rest) ∙
      ap (texts ws) (sym (plain_lines h p rest e))

  step_either : t ≡ texts (step_words h p ws) (behind (step_held h p) (lines (drop (step_length p) p ++ rest))) → step_text h p ws ++ t ≡ texts ws (behind h (lines (p ++ rest)))
  unfolding step_words step_held step_length step_text
  step_either q = go (has_feed p) refl q
    where
      go : (b : Bool) → has_feed p ≡ b →
          t ≡ texts (cond b (line_words (in_hand buffer_size h p) ws) ws) (behind (cond b [] (in_hand buffer_size h p)) (lines (drop (cond b (suc (length (stretch p))) (length (stretch p))) p ++ rest))) →
          cond b (line_text (in_hand buffer_size h p) ws) [] ++ t ≡ texts ws (behind h (lines (p ++ rest)))
      go true e q = step_feed e q
      go false e q = step_plain e q

-- ANY PIECES, from any line in hand on
through : {h ws p h' ws' t : List ℕ} → Passes h ws p h' ws' t → (rest : List ℕ) → t ++ texts ws' (behind h' (lines rest)) ≡ texts ws (behind h (lines (p ++ rest)))
through over rest = refl
through (step {h = h} {ws = ws} {p = p} {h' = h'} {ws' = ws'} {t = t} x) rest =
    append_assoc (step_text h p ws) t (texts ws' (behind h' (lines rest))) ∙ step_either h p ws (t ++ texts ws' (behind h' (lines rest))) rest (through x rest)

from_held : {h ws t : List ℕ} {ps : List (List ℕ)} → Talks h ws ps t → t ≡ texts ws (behind h (lines (whole ps)))
unfolding whole lines behind
from_held ends = refl
from_held (piece {t = t} {ps = ps} x y) = ap (λ k. t ++ k) (from_held y) ∙ through x (whole ps)

printed_of : (ws : List ℕ) (ps : List (List ℕ)) (t : List ℕ) → Talks [] ws ps t → t ≡ texts ws (lines (whole ps))
printed_of ws ps t r = from_held r ∙ ap (texts ws) (behind_none (lines (whole ps)))

-- EVERY PIECE IS PASSED: a step goes on in a piece that is not used up
goes_on : (c : ℕ) (p : List ℕ) (k : ℕ) → length (c ∷ p) ≤ suc k → length (drop (step_length (c ∷ p)) (c ∷ p)) ≤ k
unfolding step_length has_feed stretch
goes_on c p k l = go (eqb c 10) (has_feed p)
  where
    go : (t u : Bool) → length (drop (cond (cond t true u) (suc (length (cond t [] (c ∷ stretch p)))) (length (cond t [] (c ∷ stretch p)))) (c ∷ p)) ≤ k
    go true u = omega arith
    go false true = omega (arith, length-drop (suc (length (stretch p))) p)
    go false false = omega (arith, length-drop (length (stretch p)) p)

pub passes_all : (k : ℕ) (h ws p : List ℕ) → length p ≤ k → (h' : List ℕ) × (ws' : List ℕ) × (t : List ℕ) × Passes h ws p h' ws' t
passes_all zero h ws [] l = (h, ws, [], over)
passes_all zero h ws (c ∷ p) l = absurd (omega arith)
passes_all (suc k) h ws [] l = (h, ws, [], over)
passes_all (suc k) h ws (c ∷ p) l =
    let (h', ws', t, x) = passes_all k (step_held h (c ∷ p)) (step_words h (c ∷ p) ws) (drop (step_length (c ∷ p)) (c ∷ p)) (goes_on c p k l) in
    (h', ws', step_text h (c ∷ p) ws ++ t, step x)

talks_all : (ps : List (List ℕ)) (h ws : List ℕ) → (t : List ℕ) × Talks h ws ps t
talks_all [] h ws = (texts ws (last_line h), ends)
talks_all (p ∷ ps) h ws =
    let (h', ws', t, x) = passes_all (length p) h ws p (omega arith) in
    let rest = talks_all ps h' ws' in
    (t ++ rest.0, piece x rest.1)

pub pieces_printed : PiecesPrinted
pieces_printed ws ps t = (
  printed_of ws ps t,
  λ e. let all = talks_all ps [] ws in rw (e ∙ sym (printed_of ws ps all.0 all.1)) all.1,
)
