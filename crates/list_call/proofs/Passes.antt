-- The two passes of list, each from its start over a turn to its end: what is left to do equals the whole.
-- Assumes nothing.
use mathlib.Core.Path.{◌≡◌, refl, ap, ◌∙◌}
use mathlib.Core.List.{List, [], ◌∷◌, ◌++◌, map, map-append}
use Prim.Native.Nat.{ℕ, ◌+◌, ◌-◌, ◌≤◌, ◌<◌}
use native.Mathlib.Omega.{arith}
use lib.ListN.{length, length-append, length-map}
use lib.Seq.{sets, length-sets}
use Rattle.lists.proofs.Sets.{sets_append}
use Rattle.lists.specs.Fronts.{in_front}
use Rattle.lists.proofs.Fronts.{sets_front}
use Rattle.store_types.specs.Limits.{most_tags}
use Rattle.store_types.specs.Layout.{at_next, field}
use Rattle.calls.specs.Store.{place_of, label}
use Rattle.calls.specs.Replies.{said}
use Rattle.list_call.specs.Needs.{SpanSaid, unmarked, unmarked_between}
use Rattle.list_call.proofs.Along.{not_last, place_next, span_next, between_few, between_next, between_done}

-- each turn comes nearer to the end
pub pass_falls : {ws : List ℕ} {x y : ℕ} → SpanSaid ws x y → (x ≡ y → ⊥) →
    place_of (said ws) y - place_of (said ws) (field ws x at_next) < place_of (said ws) y - place_of (said ws) x
pass_falls h on = omega (arith, not_last h on, place_next h on)

-- COUNTING from x₀ to y: at x, after k unmarked tags
pub record Counting (ws : List ℕ) (x₀ y x k : ℕ) : Type 0 where
  pub span : SpanSaid ws x y
  pub rest : k + length (unmarked_between (said ws) x y) ≡ length (unmarked_between (said ws) x₀ y)

pub counting_start : {ws : List ℕ} {x y : ℕ} → SpanSaid ws x y → Counting ws x y x 0
counting_start h = record { span = h; rest = omega arith }

-- what is found here, and then further on
length_next : {ws : List ℕ} {x y : ℕ} → SpanSaid ws x y → (x ≡ y → ⊥) →
    length (unmarked_between (said ws) x y) ≡ length (unmarked (said ws) (x ∷ [])) + length (unmarked_between (said ws) (field ws x at_next) y)
length_next {ws} {x} {y} h on = rw (between_next h on) (length-append (unmarked (said ws) (x ∷ [])) (unmarked_between (said ws) (field ws x at_next) y))

pub counting_turn : {ws : List ℕ} {x₀ y x k : ℕ} → Counting ws x₀ y x k → (x ≡ y → ⊥) →
    Counting ws x₀ y (field ws x at_next) (k + length (unmarked (said ws) (x ∷ [])))
counting_turn h on = record { span = span_next h.span on; rest = omega (arith, h.rest, length_next h.span on) }

-- no more are counted than there may be tags
pub counting_few : {ws : List ℕ} {x₀ y x k : ℕ} → Counting ws x₀ y x k → (x ≡ y → ⊥) → k + length (unmarked (said ws) (x ∷ [])) ≤ most_tags
counting_few {ws} {x₀} {y} h on = omega (arith, h.rest, length_next h.span on, between_few ws x₀ y h.span.says)

pub counting_end : {ws : List ℕ} {x₀ y x k : ℕ} → Counting ws x₀ y x k → x ≡ y → k ≡ length (unmarked_between (said ws) x₀ y)
counting_end {ws} {x₀} {y} {x} h e =
    let none : unmarked_between (said ws) x y ≡ [] = rw e (between_done (said ws) y) in omega (arith, h.rest, ap length none)

-- WRITING vs to a list from place i on, where all of it is vs₀ to l₀ from its front
pub record Left (vs l : List ℕ) (i : ℕ) (vs₀ l₀ : List ℕ) : Type 0 where
  pub fits : i + length vs ≤ length l
  pub rest : sets l i vs ≡ sets l₀ 0 vs₀
  pub same : length l ≡ length l₀

left_start : (vs l : List ℕ) → length vs ≤ length l → Left vs l 0 vs l
left_start vs l f = record { fits = omega arith; rest = refl; same = refl }

left_turn : (us vs : List ℕ) {l vs₀ l₀ : List ℕ} {i : ℕ} → Left (us ++ vs) l i vs₀ l₀ → Left vs (sets l i us) (i + length us) vs₀ l₀
left_turn us vs {l} {vs₀} {l₀} {i} h =
    record {
      fits = omega (arith, h.fits, length-append us vs, length-sets l i us);
      rest = sets_append us vs l i ∙ h.rest;
      same = length-sets l i us ∙ h.same;
    }

left_end : {l vs₀ l₀ : List ℕ} {i : ℕ} → Left [] l i vs₀ l₀ → length vs₀ ≤ length l₀ → l ≡ in_front vs₀ l₀
left_end {l} {vs₀} {l₀} h f = h.rest ∙ sets_front vs₀ l₀ f

-- THE TAGS AND LABELS of the unmarked tags from x₀ to y: at x, with i of them written
pub record Writing (ws : List ℕ) (x₀ y x i : ℕ) (ts₀ ls₀ ts ls : List ℕ) : Type 0 where
  pub span : SpanSaid ws x y
  pub tags : Left (unmarked_between (said ws) x y) ts i (unmarked_between (said ws) x₀ y) ts₀
  pub labels : Left (map (label (said ws)) (unmarked_between (said ws) x y)) ls i (map (label (said ws)) (unmarked_between (said ws) x₀ y)) ls₀
  pub counts : Counting ws x₀ y x i

pub writing_start : {ws : List ℕ} {x y : ℕ} (ts ls : List ℕ) → SpanSaid ws x y → length (unmarked_between (said ws) x y) ≤ length ts →
    length (unmarked_between (said ws) x y) ≤ length ls → Writing ws x y x 0 ts ls ts ls
writing_start {ws} {x} {y} ts ls h t l =
    record {
      span = h;
      tags = left_start (unmarked_between (said ws) x y) ts t;
      labels = left_start (map (label (said ws)) (unmarked_between (said ws) x y)) ls (rw length-map l);
      counts = counting_start h;
    }

module _ {ws : List ℕ} {x₀ y x i : ℕ} {ts₀ ls₀ ts ls : List ℕ} (h : Writing ws x₀ y x i ts₀ ls₀ ts ls) where
  -- there is room for the tag at x
  pub tags_room : (x ≡ y → ⊥) → i + length (unmarked (said ws) (x ∷ [])) ≤ length ts
  tags_room on = omega (arith, h.tags.fits, length_next h.span on)

  pub labels_room : (x ≡ y → ⊥) → i + length (unmarked (said ws) (x ∷ [])) ≤ length ls
  labels_room on =
      omega (arith, h.labels.fits, length-map (unmarked_between (said ws) x y) (label (said ws)), length_next h.span on)

  pub writing_turn : (x ≡ y → ⊥) →
      Writing ws x₀ y (field ws x at_next) (i + length (unmarked (said ws) (x ∷ []))) ts₀ ls₀ (sets ts i (unmarked (said ws) (x ∷ [])))
      (sets ls i (map (label (said ws)) (unmarked (said ws) (x ∷ []))))
  writing_turn on =
      let us = unmarked (said ws) (x ∷ []) in
      let vs = unmarked_between (said ws) (field ws x at_next) y in
      let f = label (said ws) in
      record {
        span = span_next h.span on;
        tags = left_turn us vs (rw (between_next h.span on) at h.tags);
        labels = rw (← length-map us f) (left_turn (map f us) (map f vs) (rw (between_next h.span on, map-append f us vs) at h.labels));
        counts = counting_turn h.counts on;
      }

  pub tags_end : x ≡ y → length (unmarked_between (said ws) x₀ y) ≤ length ts₀ → ts ≡ in_front (unmarked_between (said ws) x₀ y) ts₀
  tags_end e f = left_end (rw (e, between_done (said ws) y) at h.tags) f

  pub labels_end : x ≡ y → length (unmarked_between (said ws) x₀ y) ≤ length ls₀ →
      ls ≡ in_front (map (label (said ws)) (unmarked_between (said ws) x₀ y)) ls₀
  labels_end e f = left_end (rw (e, between_done (said ws) y) at h.labels) (rw length-map f)
