-- The refusals of granting, from what each test reads in words that say a store. Assumes nothing.
use mathlib.Core.Path.{◌≡◌, refl, sym, ◌∙◌}
use mathlib.Core.Bool.{◌&&◌, not, cond}
use mathlib.Core.List.{List}
use Prim.Native.Nat.{ℕ, ◌%◌, ◌≤◌, ◌<◌}
use native.Mathlib.Omega.{arith}
use borrow.Author.Tests.{eq-eqb, ne_eqb, le-leb, lt-leb, leb-false}
use lib.Dec.{leb, eqb}
use Rattle.store_types.specs.Limits.{all_rights}
use Rattle.store_types.specs.Layout.{at_kind, field}
use Rattle.lists.specs.Lists.{first}
use Rattle.lists.proofs.Tests.{by_test}
use Rattle.lists.specs.Fronts.{replied}
use Rattle.lists.proofs.Replied.{replied_refused}
use Rattle.calls.specs.Kind.{Kind, begin, end, text, is_begin, is_end}
use Rattle.calls.specs.Store.{Store, fact, count}
use Rattle.calls.specs.Mark.{section_tests, section_refusal}
use Rattle.calls.specs.Replies.{refusal_over, said}
use Rattle.calls.specs.Rights.{range_refusal, grant_tests, grant_refused}
use Rattle.calls_laws.proofs.Marks.{accepted_section}
use Rattle.store_refuse.proofs.Laws.{refused_first, refused_said, accepted_store, kind_of_tag}
use Rattle.store_types.proofs.Replies.{some_number}
use Rattle.calls_laws.proofs.Grants.{has_place}
use Rattle.held_call.proofs.Pairs.{section_tag}
use Rattle.party_rules.proofs.Replied.{by_refusal}

module _ (x c room : ℕ) where
  abbrev of_store : Store → ℕ
  of_store st = first (grant_tests x c room st) 0

  -- what hold refuses of a section granting refuses too: an end
  kind_first : (k : Kind) → (◌≡◌ {A = ℕ} (cond (is_end k) 10 0) 0 → ⊥) → ◌≡◌ {A = ℕ} (cond (not (is_begin k)) 10 (cond (leb room c) 19 0)) (cond (is_end k) 10 0)
  unfolding is_end is_begin
  kind_first begin n = absurd (n refl)
  kind_first end n = refl
  kind_first text n = absurd (n refl)

  section_first : (st : Store) → (section_refusal x st ≡ 0 → ⊥) → of_store st ≡ section_refusal x st
  unfolding section_refusal section_tests grant_tests first
  section_first st n =
      by_test (leb (count st) x) (λ t. rw t)
      (λ t. by_test (fact st x).marked (λ m. rw (t, m)) (λ m. rw (t, m) (kind_first (fact st x).kind (rw (t, m) at n))))

  -- of a section that hold takes
  section_taken : (ws : List ℕ) → refusal_over ws (section_refusal x) ≡ 0 → refusal_over ws of_store ≡ cond (not (eqb (field ws x at_kind) 1)) 10 (cond (leb room c) 19 0)
  unfolding grant_tests first
  section_taken ws e =
      let h = section_tag ws x e in
      let s = accepted_section x (said ws) (accepted_store ws (section_refusal x) e) in
      let low : field ws x at_kind < 16 = leb-false _ _ ((kind_of_tag h).marks ∙ s.unmarked) in
      let same : field ws x at_kind % 16 ≡ field ws x at_kind = omega arith in
      refused_said ws of_store h.says
      ∙ rw (lt-leb (count (said ws)) x h.tag, s.unmarked, ← (kind_of_tag h).begins, same)

module _ (ws : List ℕ) (p x q c room : ℕ) where
  abbrev of_ranges : ℕ
  of_ranges = range_refusal (leb 1 q && leb q all_rights) p c room

  pub out_of_range : {k : ℕ} → k ≡ of_ranges → (k ≡ 0 → ⊥) → k ≡ grant_refused p x q c room ws
  unfolding grant_refused
  out_of_range {k} e n = rw (← e) (replied_refused (λ i. i) k _ n)

  -- nothing is out of range
  module _ (z : of_ranges ≡ 0) where
    behind_range : grant_refused p x q c room ws ≡ refusal_over ws (of_store x c room)
    unfolding grant_refused replied
    behind_range = rw z

    pub no_section : {k : ℕ} → k ≡ refusal_over ws (section_refusal x) → (k ≡ 0 → ⊥) → k ≡ grant_refused p x q c room ws
    no_section {k} e n = refused_first ws (section_refusal x) (of_store x c room) k (section_first x c room) e n ∙ sym behind_range

    -- hold takes the section: v is its kind word
    module _ (y : refusal_over ws (section_refusal x) ≡ 0) {v : ℕ} (kind : v ≡ field ws x at_kind) where
      by_kind : grant_refused p x q c room ws ≡ cond (not (eqb v 1)) 10 (cond (leb room c) 19 0)
      by_kind = behind_range ∙ section_taken x c room ws y ∙ rw kind

      pub no_begin : (v ≡ 1 → ⊥) → 10 ≡ grant_refused p x q c room ws
      no_begin n = sym (by_kind ∙ rw (ne_eqb v 1 n))

      module _ (begins : v ≡ 1) where
        pub list_full : room ≤ c → 19 ≡ grant_refused p x q c room ws
        list_full l = sym (by_kind ∙ rw (eq-eqb v 1 begins, le-leb room c l))

        pub grants : c < room → 0 ≡ grant_refused p x q c room ws
        grants l = sym (by_kind ∙ rw (eq-eqb v 1 begins, lt-leb room c l))

-- what decides each test's answer, and what the call replies
pub ruleset refusals = (out_of_range, no_section, no_begin, list_full, grants, some_number)

pub ruleset replies = (by_refusal, has_place)
