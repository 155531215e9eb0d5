-- The loop that marks a section: what is left to do from where it stands is the whole. Assumes nothing.
use mathlib.Core.Path.{◌≡◌, refl, ap, ◌∙◌}
use mathlib.Core.List.{List, [], ◌∷◌}
use Prim.Native.Nat.{ℕ, zero, suc, ◌+◌, ◌-◌, ◌≤◌, ◌<◌}
use native.Mathlib.Nat.{zero-add}
use native.Mathlib.Omega.{arith}
use borrow.Author.Tests.{lt-ltb, le-ltb, eq-eqb, ne_eqb}
use lib.ListN.{length}
use Rattle.store_types.specs.Layout.{at_next, at_mate, at_kind, field}
use Rattle.mark_call.specs.Run.{new_mark, mark_one, mark_each, count_new, section_tags, tags_of}
use Rattle.mark_call.proofs.Each.{length_one, one_other_word, new_mark_few}

-- ONE STEP ALONG NEXT: to the last tag, to another, or past the tags
module _ (k n : ℕ) (ws : List ℕ) (x m : ℕ) where
  pub tags_last : x < n → x ≡ m → section_tags (suc k) n ws x m ≡ x ∷ []
  unfolding section_tags
  tags_last l e = rw (lt-ltb x n l, eq-eqb x m e)

  pub tags_next : x < n → (x ≡ m → ⊥) → section_tags (suc k) n ws x m ≡ x ∷ section_tags k n ws (field ws x at_next) m
  unfolding section_tags
  tags_next l e = rw (lt-ltb x n l, ne_eqb x m e)

tags_out : (k n : ℕ) (ws : List ℕ) (x m : ℕ) → n ≤ x → section_tags k n ws x m ≡ []
unfolding section_tags
tags_out zero n ws x m l = refl
tags_out (suc k) n ws x m l = rw (le-ltb x n l)

-- a mark leaves next, and so the tags, as they were
tags_kept : (k n : ℕ) (ws : List ℕ) (y x m : ℕ) → section_tags k n (mark_one ws y) x m ≡ section_tags k n ws x m
unfolding section_tags
tags_kept zero n ws y x m = refl
tags_kept (suc k) n ws y x m = rw (one_other_word ws y x at_next (omega arith) (λ e. omega arith), tags_kept k n ws y (field ws x at_next) m)

-- WHAT IS LEFT at a tag, after so many steps and with so many marked: of all the tags, `all`
pub record Left (n m : ℕ) (ws₀ all ws : List ℕ) (x marked steps : ℕ) : Type 0 where
  pub long : length ws ≡ length ws₀
  pub short : steps ≤ n
  pub few : marked ≤ steps
  pub new : marked + count_new ws (section_tags (n - steps) n ws x m) ≡ count_new ws₀ all
  pub words : mark_each ws (section_tags (n - steps) n ws x m) ≡ mark_each ws₀ all

pub left_first : (n m : ℕ) (ws : List ℕ) (x : ℕ) → m ≡ field ws x at_mate → Left n m ws (tags_of n ws x) ws x 0 0
unfolding tags_of
left_first n m ws x mate =
    let all : n - 0 ≡ n = omega arith in
    record {
      long = refl;
      short = omega arith;
      few = omega arith;
      new = rw (all, zero-add, mate);
      words = rw (all, mate);
    }

-- A TURN marks the tag: k more are marked, and the words are vs
pub record Turn (n m : ℕ) (ws₀ all ws : List ℕ) (x marked steps k : ℕ) (vs : List ℕ) : Type 0 where
  pub left : Left n m ws₀ all ws x marked steps
  pub more : steps < n
  pub tag : x < n
  pub new : k ≡ new_mark (field ws x at_kind)
  pub put : vs ≡ mark_one ws x

pub turn : {n m : ℕ} {ws₀ all ws : List ℕ} {x marked steps k : ℕ} {vs : List ℕ} → Left n m ws₀ all ws x marked steps → steps < n → x < n →
    k ≡ new_mark (field ws x at_kind) → vs ≡ mark_one ws x → Turn n m ws₀ all ws x marked steps k vs
turn h more tag new put = record { left = h; more = more; tag = tag; new = new; put = put }

module _ {n m : ℕ} {ws₀ all ws : List ℕ} {x marked steps k : ℕ} {vs : List ℕ} (t : Turn n m ws₀ all ws x marked steps k vs) where
  pub turn_few : marked + k ≤ steps + 1
  turn_few = omega (arith, t.new, t.left.few, new_mark_few (field ws x at_kind))

  pub turn_long : length vs ≡ length ws₀
  turn_long = ap length t.put ∙ length_one ws x ∙ t.left.long

  -- another tag is next
  pub left_turn : {y : ℕ} → (x ≡ m → ⊥) → y ≡ field vs x at_next → Left n m ws₀ all vs y (marked + k) (steps + 1)
  unfolding mark_each count_new
  left_turn {y} other next =
      let j : ℕ = n - (steps + 1) in
      let one : n - steps ≡ suc j = omega (arith, t.more) in
      let behind : y ≡ field ws x at_next = next ∙ ap (λ (us : List ℕ). field us x at_next) t.put ∙ one_other_word ws x x 1 (omega arith) (λ e. omega arith) in
      let rest : section_tags j n vs y m ≡ section_tags j n ws (field ws x at_next) m = rw (t.put, behind) (tags_kept j n ws x (field ws x at_next) m) in
      let tags : section_tags (n - steps) n ws x m ≡ x ∷ section_tags j n ws (field ws x at_next) m = rw one (tags_next j n ws x m t.tag other) in
      record {
        long = turn_long;
        short = omega (arith, t.more);
        few = turn_few;
        new = rw (rest, t.put) (omega (arith, t.new, rw tags at t.left.new));
        words = rw (rest, t.put) (rw tags at t.left.words);
      }

  -- it was the last
  pub left_last : x ≡ m → (marked + k ≡ count_new ws₀ all) × (vs ≡ mark_each ws₀ all)
  unfolding mark_each count_new
  left_last e =
      let one : n - steps ≡ suc (n - (steps + 1)) = omega (arith, t.more) in
      let tags : section_tags (n - steps) n ws x m ≡ x ∷ [] = rw one (tags_last (n - (steps + 1)) n ws x m t.tag e) in
      (omega (arith, t.new, rw tags at t.left.new), t.put ∙ (rw tags at t.left.words))

-- WHERE NOTHING IS LEFT: past the tags, or after n steps
module _ {n m : ℕ} {ws₀ all ws : List ℕ} {x marked steps : ℕ} (h : Left n m ws₀ all ws x marked steps) where
  left_none : section_tags (n - steps) n ws x m ≡ [] → (marked ≡ count_new ws₀ all) × (ws ≡ mark_each ws₀ all)
  unfolding mark_each count_new
  left_none e = (omega (arith, rw e at h.new), rw e at h.words)

  pub left_out : n ≤ x → (marked ≡ count_new ws₀ all) × (ws ≡ mark_each ws₀ all)
  left_out l = left_none (tags_out (n - steps) n ws x m l)

  pub left_over : n ≤ steps → (marked ≡ count_new ws₀ all) × (ws ≡ mark_each ws₀ all)
  unfolding section_tags
  left_over l = let zero_left : n - steps ≡ 0 = omega arith in left_none (rw zero_left)
