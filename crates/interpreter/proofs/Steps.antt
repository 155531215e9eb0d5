-- One step over a piece of input, and the end of it, as the code goes. Assumes nothing.
use mathlib.Core.Path.{◌≡◌, refl, ap}
use mathlib.Core.Bool.{Bool, true, false, cond}
use mathlib.Core.List.{List, [], ◌∷◌, ◌++◌, append-nil}
use Prim.Native.Nat.{ℕ, suc, ◌+◌, ◌≤◌, ◌<◌}
use native.Mathlib.Omega.{arith}
use lib.Dec.{eqb}
use lib.ListN.{length, drop}
use Rattle.line_reader.specs.Gather.{stretch, has_feed}
use Rattle.line_reader.specs.Reads.{last_line, in_hand}
use Rattle.interpreter.specs.Answer.{line_text, line_words}
use Rattle.interpreter.specs.Session.{texts, words_behind, buffer_size, step_length, step_held, step_text, step_words, Steps, Passes, step}

-- a stretch ends before the piece does just where there is a line feed
pub feed_within : (p : List ℕ) → has_feed p ≡ true → length (stretch p) < length p
unfolding has_feed stretch
feed_within [] e = absurd (let z : ◌≡◌ {A = ℕ} 0 1 = cc in omega arith)
feed_within (c ∷ p) e = go (eqb c 10) e (feed_within p)
  where
    go : (t : Bool) → cond t true (has_feed p) ≡ true → (has_feed p ≡ true → length (stretch p) < length p) → length (cond t [] (c ∷ stretch p)) < suc (length p)
    go true e more = omega arith
    go false e more = omega (arith, more e)

pub plain_whole : (p : List ℕ) → has_feed p ≡ false → length (stretch p) ≡ length p
unfolding has_feed stretch
plain_whole [] e = refl
plain_whole (c ∷ p) e = go (eqb c 10) e (plain_whole p)
  where
    go : (t : Bool) → cond t true (has_feed p) ≡ false → (has_feed p ≡ false → length (stretch p) ≡ length p) → length (cond t [] (c ∷ stretch p)) ≡ suc (length p)
    go true e more = absurd (let z : ◌≡◌ {A = ℕ} 0 1 = cc in omega arith)
    go false e more = ap suc (more e)

-- ONE STEP over a piece: what is taken is its stretch, and what is in hand is what is kept of both
module _ (held p : List ℕ) {taken : ℕ} (place : taken ≡ length (stretch p)) where
  no_feed : taken ≡ length p → has_feed p ≡ false
  no_feed l = go (has_feed p) refl
    where
      go : (t : Bool) → has_feed p ≡ t → t ≡ false
      go true e = absurd (omega (arith, place, feed_within p e))
      go false e = refl

  a_feed : (taken ≡ length p → ⊥) → has_feed p ≡ true
  a_feed n = go (has_feed p) refl
    where
      go : (t : Bool) → has_feed p ≡ t → t ≡ true
      go true e = refl
      go false e = absurd (omega (arith, place, plain_whole p e))

  module _ {line : List ℕ} (gathered : line ≡ in_hand buffer_size held p) where
    pub steps_on : (ws : List ℕ) → taken ≡ length p → Steps held p ws line ws [] taken
    unfolding step_length step_held step_text step_words
    steps_on ws l =
        let e : has_feed p ≡ false = no_feed l in
        record { place = rw e place; gathered = rw e gathered; stored = rw e; printed = rw e }

    pub steps_answer : (ws ws' text : List ℕ) → (taken ≡ length p → ⊥) → ws' ≡ line_words line ws → text ≡ line_text line ws → Steps held p ws [] ws' text (taken + 1)
    unfolding step_length step_held step_text step_words
    steps_answer ws ws' text n w t =
        let e : has_feed p ≡ true = a_feed n in
        record { place = rw e (omega (arith, place)); gathered = rw e; stored = rw e (rw gathered at w); printed = rw e (rw gathered at t) }

-- THE END
pub ends_none : (line ws : List ℕ) → length line ≡ 0 → (ws ≡ words_behind ws (last_line line)) × ([] ≡ texts ws (last_line line))
unfolding words_behind texts last_line
ends_none [] ws e = (refl, refl)
ends_none (c ∷ l) ws e = absurd (omega arith)

pub ends_line : (line ws ws' text : List ℕ) → 1 ≤ length line → ws' ≡ line_words line ws → text ≡ line_text line ws →
    (ws' ≡ words_behind ws (last_line line)) × (text ≡ texts ws (last_line line))
unfolding words_behind texts last_line
ends_line [] ws ws' text l w t = absurd (omega arith)
ends_line (c ∷ line) ws ws' text l w t = (w, rw append-nil t)

-- WHAT A CALLER ASKS: a step goes on, and stays in the piece
module _ {held p ws held' ws' text : List ℕ} {taken : ℕ} (s : Steps held p ws held' ws' text taken) where
  pub steps_forward : 0 < length p → (0 < taken) × (taken ≤ length p)
  unfolding step_length
  steps_forward l = go (has_feed p) refl s.place
    where
      go : (t : Bool) → has_feed p ≡ t → taken ≡ cond t (suc (length (stretch p))) (length (stretch p)) → (0 < taken) × (taken ≤ length p)
      go true e q = (omega arith, omega (arith, feed_within p e))
      go false e q = (omega (arith, plain_whole p e), omega (arith, plain_whole p e))

  -- what is left of the piece after a step
  pub steps_pass : {a b t : List ℕ} → Passes held' ws' (drop taken p) a b t → Passes held ws p a b (text ++ t)
  steps_pass {t = t} x = rw s.printed (step (rw (s.gathered, s.stored, s.place) at x))
