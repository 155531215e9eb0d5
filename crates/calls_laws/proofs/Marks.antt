-- An accepted mark leaves a sound store. Assumes nothing.
use mathlib.Core.Path.{◌≡◌, refl, ap, sym, ◌∙◌}
use mathlib.Core.Bool.{Bool, true, false, ◌&&◌, ◌||◌, not, cond, true≢false, or-true, or-false, and-false}
use mathlib.Core.List.{List, [], ◌∷◌, ◌++◌}
use Prim.Native.Nat.{ℕ, zero, suc, ◌+◌, ◌≤◌, ◌<◌}
use native.Mathlib.Omega.{arith}
use native.Mathlib.Nat.{zero-add, add-zero, add-suc, suc-add, not-suc-le-zero, le_of_suc-le-suc}
use borrow.Author.Tests.{le-leb, lt-leb, leb-false}
use lib.Dec.{leb}
use lib.ListN.{length}
use Rattle.lists.specs.Lists.{first, how_many}
use Rattle.store_types.specs.Limits.{no_tag}
use Rattle.lists.proofs.Tests.{and_both, by_test}
use Rattle.lists.proofs.HowMany.{how_many_most}
use Rattle.tree.specs.Row.{member}
use Rattle.tree_laws.proofs.Rows.{member_append}
use Rattle.calls.specs.Kind.{end, is_end}
use Rattle.calls.specs.Store.{Store, Fact, fact_in, fact, count, row, place_of, marked_count}
use Rattle.calls.specs.Mark.{within, mark_facts, mark_store, new_marks, section_tests, section_refusal}
use Rattle.calls.specs.Promise.{MarkSound}
use Rattle.calls_laws.proofs.Tests.{passes, Sound, facts_of, sound_of}
use Rattle.calls_laws.proofs.Nesting.{Pass, pass_around, nested_of, Alike, Same, no_tag_same, Marked}
use Rattle.calls_laws.proofs.Depths.{Level, depths_kept}
use Rattle.calls_laws.proofs.Sections.{place_first_part, place_middle_part, place_last_part, distinct_row, row_below, in_row, is_tag, Section, section}

-- marked tags are tags
pub marked_few : (ts : List Fact) → marked_count ts ≤ length ts
marked_few ts = how_many_most (λ t. t.marked) ts

-- THE FACTS AFTER THE MARK of section x: of the tags d, d + 1, ..
module _ (st : Store) (x : ℕ) where
  pub length_marked : (d : ℕ) (ts : List Fact) → length (mark_facts st x d ts) ≡ length ts
  unfolding mark_facts
  length_marked d [] = refl
  length_marked d (t ∷ ts) = ap suc (length_marked (suc d) ts)

  pub alike_marked : (d : ℕ) (ts : List Fact) (i : ℕ) → Alike ts (mark_facts st x d ts) i
  unfolding mark_facts
  alike_marked d [] i = record { kind = refl; mate = refl; up = refl }
  alike_marked d (t ∷ ts) zero = record { kind = refl; mate = refl; up = refl }
  alike_marked d (t ∷ ts) (suc i) = let r = alike_marked (suc d) ts i in record { kind = r.kind; mate = r.mate; up = r.up }

  pub level_marked : (d : ℕ) (ts : List Fact) (i : ℕ) → Level ts (mark_facts st x d ts) i
  unfolding mark_facts
  level_marked d [] i = record { kind = refl; depth = refl }
  level_marked d (t ∷ ts) zero = record { kind = refl; depth = refl }
  level_marked d (t ∷ ts) (suc i) = let r = level_marked (suc d) ts i in record { kind = r.kind; depth = r.depth }

  pub mark_of : (d : ℕ) (ts : List Fact) (i : ℕ) → i < length ts → (fact_in (mark_facts st x d ts) i).marked ≡ ((fact_in ts i).marked || within st x (d + i))
  unfolding mark_facts
  mark_of d [] i l = absurd (not-suc-le-zero l)
  mark_of d (t ∷ ts) zero l = rw add-zero
  mark_of d (t ∷ ts) (suc i) l = rw (add-suc, ← suc-add) (mark_of (suc d) ts i (le_of_suc-le-suc l))

  -- how many are marked
  pub count_marked : (d : ℕ) (ts : List Fact) → marked_count (mark_facts st x d ts) ≡ new_marks st x d ts + marked_count ts
  unfolding mark_facts how_many new_marks
  count_marked d [] = refl
  count_marked d (t ∷ ts) = go t.marked (within st x d) (marked_count (mark_facts st x (suc d) ts)) (new_marks st x (suc d) ts) (marked_count ts) (count_marked (suc d) ts)
    where
      go : (m w : Bool) (a b c : ℕ) → a ≡ b + c → cond (m || w) 1 0 + a ≡ (cond (not m && w) 1 0 + b) + (cond m 1 0 + c)
      go true w a b c e = omega arith
      go false true a b c e = omega arith
      go false false a b c e = omega arith

  some_marked : (d : ℕ) (ts : List Fact) (i : ℕ) → i < length ts → (fact_in ts i).marked ≡ false → within st x (d + i) ≡ true → 1 ≤ new_marks st x d ts
  unfolding new_marks
  some_marked d [] i l e w = absurd (not-suc-le-zero l)
  some_marked d (t ∷ ts) zero l e w = rw (e, rw add-zero at w) (omega arith)
  some_marked d (t ∷ ts) (suc i) l e w =
      omega (arith, some_marked (suc d) ts i (le_of_suc-le-suc l) e (rw (add-suc, ← suc-add) at w))

module _ {st : Store} (h : Sound st) (x : ℕ) (c : Section st x) where
  -- which tags the section holds
  pub outside_before : (d : ℕ) → member d c.before ≡ true → within st x d ≡ false
  unfolding within
  outside_before d m =
      let p = place_first_part (row st) c.before c.own c.behind c.whole (distinct_row h) d m in
      rw (lt-leb (place_of st x) (place_of st d) (omega (arith, c.starts)))

  pub inside_own : (d : ℕ) → member d c.own ≡ true → within st x d ≡ true
  unfolding within
  inside_own d m =
      let p = place_middle_part (row st) c.before c.own c.behind c.whole (distinct_row h) d m in
      and_both (le-leb (place_of st x) (place_of st d) (omega (arith, c.starts))) (le-leb (place_of st d) (place_of st (fact st x).mate) (omega (arith, c.stops)))

  pub outside_behind : (d : ℕ) → member d c.behind ≡ true → within st x d ≡ false
  unfolding within
  outside_behind d m =
      let p = place_last_part (row st) c.before c.own c.behind c.whole (distinct_row h) d m in
      rw (lt-leb (place_of st d) (place_of st (fact st x).mate) (omega (arith, c.stops))) (and-false (leb (place_of st x) (place_of st d)))

  in_parts : (d : ℕ) → (member d c.before || (member d c.own || member d c.behind)) ≡ true → d < count st
  in_parts d m = row_below h d (rw (c.whole, member_append d c.before (c.own ++ c.behind), member_append d c.own c.behind) m)

  -- its own tags are tags, and these it holds
  pub own_below : (d : ℕ) → member d c.own ≡ true → d < count st
  own_below d m = in_parts d (rw m (or-true (member d c.before)))

  pub within_own : (d : ℕ) → d < count st → within st x d ≡ member d c.own
  within_own d l =
      let here = rw (c.whole, member_append d c.before (c.own ++ c.behind), member_append d c.own c.behind) at (in_row h d l) in
      by_test (member d c.own) (λ e. inside_own d e ∙ sym e)
      (λ e. by_test (member d c.before) (λ f. outside_before d f ∙ sym e)
      (λ f. outside_behind d (rw (e, f) at here) ∙ sym e))

  -- so other tags keep their facts, and its own are marked
  outside_same : (d : ℕ) → d < count st → within st x d ≡ false → Same st.facts (mark_facts st x 0 st.facts) d
  outside_same d k e = record {
    alike = alike_marked st x 0 st.facts d;
    marked = rw (mark_of st x 0 st.facts d k, zero-add, e) (or-false (fact st d).marked);
  }

  own_marked : (d : ℕ) → d < count st → within st x d ≡ true → Marked (mark_facts st x 0 st.facts) d
  own_marked d k e = record {
    tag = is_tag h d k;
    marked = rw (mark_of st x 0 st.facts d k, zero-add, e) (or-true (fact st d).marked);
  }

  -- and the pass holds
  pass_after : Pass (mark_facts st x 0 st.facts) no_tag no_tag (row st) no_tag
  pass_after =
      let fs = st.facts in
      let gs = mark_facts st x 0 fs in
      let none = no_tag_same fs gs (omega (arith, h.few)) (omega (arith, h.few, length_marked st x 0 fs)) in
      rw c.whole (
      pass_around fs gs none c.before c.own c.behind c.around
      (λ d m. outside_same d (in_parts d (rw m)) (outside_before d m))
      (λ d m. outside_same d (in_parts d (rw (m, or-true (member d c.own)) (or-true (member d c.before)))) (outside_behind d m))
      c.front c.back
      (λ same. c.inside gs (alike_marked st x 0 fs) (λ d m. own_marked d (own_below d m) (inside_own d m)))
      )

-- what an accepted mark or hold is asked of: an unmarked begin or text
pub record SectionAccepted (x : ℕ) (st : Store) : Type 0 where
  pub tag : x < count st
  pub unmarked : (fact st x).marked ≡ false
  pub begins : (fact st x).kind ≡ end → ⊥

pub accepted_section : (x : ℕ) (st : Store) → section_refusal x st ≡ 0 → SectionAccepted x st
unfolding section_refusal section_tests first is_end
accepted_section x st r =
    let a = passes (leb (count st) x) 7 _ r in
    let b = passes (fact st x).marked 8 _ a.1 in
    record {
      tag = leb-false _ _ a.0;
      unmarked = b.0;
      begins = λ e. true≢false (rw e at (passes (is_end (fact st x).kind) 9 0 b.1).0);
    }

-- an accepted mark leaves a sound store
pub mark_sound : MarkSound
unfolding MarkSound mark_store
mark_sound x st e r =
    let h = facts_of st e in
    let a = accepted_section x st r in
    let c = section h x a.tag a.begins in
    let n = length_marked st x 0 st.facts in
    let own : within st x (0 + x) ≡ true = rw zero-add (inside_own h x c x c.has) in
    sound_of (mark_store x st) (record {
      degrees = h.degrees;
      labels_fit = h.labels_fit;
      within = h.within;
      few = omega (arith, h.few);
      as_many = h.as_many ∙ sym n;
      each = rw n h.each;
      nesting = nested_of (mark_facts st x 0 st.facts) no_tag (row st) (pass_after h x c);
      depths = depths_kept st.facts (mark_facts st x 0 st.facts) (row st) (λ d m. level_marked st x 0 st.facts d) h.depths;
      stamp_fits = omega (arith, h.stamp_fits, count_marked st x 0 st.facts, some_marked st x 0 st.facts x a.tag a.unmarked own);
    })
