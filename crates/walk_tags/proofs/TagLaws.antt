-- One tag (walk_model's Walk): the tests that do without a branch on the kind come to kind_fits. By cases on the kind and on
-- whether a begin is open; the begins that are open stay in range, so that no up has to be tested for it. Assumes nothing.
use mathlib.Core.Path.{◌≡◌, refl, sym, ◌∙◌}
use mathlib.Core.Bool.{Bool, true, false, ◌&&◌, ◌||◌, not, cond, true≢false, false≢true, and-true, and-false, and_comm, and-eq-true_iff}
use mathlib.Core.Logic.{◌⊎◌, inl, inr, ⊎_elim, by_cases}
use mathlib.Core.List.{List}
use Prim.Native.Nat.{ℕ, ◌-◌, ◌%◌, ◌≤◌, ◌<◌}
use native.Mathlib.Decide.{ℕ_discrete, dec_le}
use native.Mathlib.Omega.{arith}
use borrow.Author.Tests.{eq-eqb, ne_eqb, lt-ltb, le-ltb, le-leb, lt-leb, ltb-true, leb-true, eqb-true}
use lib.Dec.{ltb, leb, eqb}
use Rattle.store_types.specs.Limits.{no_tag}
use Rattle.lists.proofs.Tests.{fails}
use Rattle.store_types.specs.Layout.{at_prior, at_mate, at_up, at_kind, field}
use Rattle.walk_model.specs.Walk.{marked_word, inner_fits, end_fits, kind_fits}
use Rattle.kind_pick.proofs.PickLaws.{test_same}
use Rattle.kind_pick.specs.Needs.{KindWord}
use Rattle.walk_tags.specs.Needs.{BeginWord, Open, none, begin, is_kind_word, pair_fits, links_fit}

-- THE KIND WORD
module _ (c : ℕ) where
  pub kind_given : is_kind_word c ≡ true → KindWord c
  unfolding is_kind_word
  kind_given e =
      let all = simp and-eq-true_iff at e in
      record { small = ltb-true c 32 all.0; low = leb-true 1 (c % 16) all.1.0; high = leb-true (c % 16) 3 all.1.1 }

  kind_said : KindWord c → is_kind_word c ≡ true
  unfolding is_kind_word
  kind_said k = rw (lt-ltb c 32 k.small, le-leb 1 (c % 16) k.low, le-leb (c % 16) 3 k.high)

  kind_of_plain : c < 32 → (k : ℕ) → c % 16 ≡ k → 1 ≤ k → k ≤ 3 → KindWord c
  kind_of_plain small k e p q = record { small = small; low = omega arith; high = omega arith }

  pub begin_of : KindWord c → c % 16 ≡ 1 → BeginWord c
  begin_of k e = by_cases (dec_le 16 c) (λ l. inr (omega (arith, k.small))) (λ l. inl (omega arith))

-- a tag of another fits nowhere
module _ (ws : List ℕ) (n o x c : ℕ) where
  pub kind_fitting : kind_fits ws n o x c ≡ true → KindWord c
  unfolding kind_fits
  kind_fitting e =
      by_cases (dec_le 32 c) (λ large. absurd (false≢true (rw (le-leb 32 c large) at e)))
      (λ small. by_cases (ℕ_discrete (c % 16) 3) (λ text. kind_of_plain c (omega arith) 3 text (omega arith) (omega arith))
      (λ no_text. by_cases (ℕ_discrete (c % 16) 1) (λ begin. kind_of_plain c (omega arith) 1 begin (omega arith) (omega arith))
      (λ no_begin. by_cases (ℕ_discrete (c % 16) 2) (λ end. kind_of_plain c (omega arith) 2 end (omega arith) (omega arith))
      (λ no_end. absurd (false≢true (rw (lt-leb 32 c (omega arith), ne_eqb (c % 16) 3 no_text, ne_eqb (c % 16) 1 no_begin, ne_eqb (c % 16) 2 no_end) at e))))))

  kind_unfit : is_kind_word c ≡ false → false ≡ kind_fits ws n o x c
  kind_unfit e = sym (fails (kind_fits ws n o x c) (λ fits. true≢false (sym (kind_said c (kind_fitting fits)) ∙ e)))

  pub kind_large : 32 ≤ c → false ≡ kind_fits ws n o x c
  unfolding kind_fits
  kind_large p = rw (le-leb 32 c p)

-- THE OPEN BEGIN is no tag, or a begin among the tags
pub open_cases : {ws : List ℕ} {n o : ℕ} → Open ws n o → (o ≡ no_tag) ⊎ ((o < n) × BeginWord (field ws o at_kind) × Open ws n (field ws o at_up))
open_cases none = inl refl
open_cases (begin l w r) = inr (l, w, r)

open_range : {ws : List ℕ} {n o : ℕ} → Open ws n o → (eqb o no_tag || ltb o n) ≡ true
open_range {ws} {n} {o} a =
    ⊎_elim (λ e. rw (eq-eqb o no_tag e))
    (λ q. by_cases (ℕ_discrete o no_tag) (λ e. rw (eq-eqb o no_tag e)) (λ ne. rw (ne_eqb o no_tag ne) (lt-ltb o n q.0)))
    (open_cases a)

-- TESTS joined in another order
swapped : (a m b : Bool) → (m && (a && b)) ≡ (b && (a && m))
swapped true true b = sym (and-true b)
swapped true false b = sym (and-false b)
swapped false true b = sym (and-false b)
swapped false false b = sym (and-false b)

-- k says l, and u says r
regroup : (a b u k l r : Bool) → (k ≡ true → l ≡ true) → (u ≡ true → r ≡ true) → ((k && l) && (a && (u && b))) ≡ ((a && b) && ((u && k) && r))
regroup a b true true l r h g = rw (h refl, g refl, and-true (a && b))
regroup a b false true l r h g = simp and-false
regroup a b u false l r h g = simp and-false

-- ALL TESTS beside the record of q: the open begin's, or that of x itself where none is open
module _ (ws : List ℕ) (n o x q c : ℕ) (small : n < no_tag) (around : Open ws n o) (word : c ≡ field ws x at_kind) (of_q : q ≡ cond (ltb o n) o x) where
  q_none : o ≡ no_tag → q ≡ x
  q_none e = of_q ∙ rw (le-ltb o n (omega arith))

  q_open : o < n → q ≡ o
  q_open l = of_q ∙ rw (lt-ltb o n l)

  pub kind_beside : BeginWord (field ws q at_kind) ⊎ (field ws q at_kind ≡ c)
  kind_beside =
      ⊎_elim (λ e. inr (rw (q_none e) (sym word))) (λ p. inl (rw (q_open p.0) p.1)) (open_cases around)

  pub q_below : x < n → q < n
  q_below l = ⊎_elim (λ e. rw (q_none e) l) (λ p. rw (q_open p.0) p.0) (open_cases around)

  mark_inner : (leb 16 c || ltb (field ws q at_kind) 16) ≡ (leb 16 c || not (marked_word ws o))
  unfolding marked_word
  mark_inner =
      ⊎_elim
      (λ e. rw (q_none e, eq-eqb o no_tag e, ← word)
      (by_cases (dec_le 16 c) (λ l. rw (le-leb 16 c l)) (λ l. rw (lt-leb 16 c (omega arith), lt-ltb c 16 (omega arith)))))
      (λ p. rw (q_open p.0, ne_eqb o no_tag (λ e. omega (arith, p.0)))
      (by_cases (dec_le 16 (field ws o at_kind)) (λ l. rw (le-leb 16 (field ws o at_kind) l, le-ltb (field ws o at_kind) 16 l))
      (λ l. rw (lt-leb 16 (field ws o at_kind) (omega arith), lt-ltb (field ws o at_kind) 16 (omega arith)))))
      (open_cases around)

  module _ (b : ℕ) (prior : field ws x at_prior ≡ b) (kind : KindWord c) where
    all_begin : c % 16 ≡ 1 → (pair_fits c (field ws q at_kind) && links_fit ws b o x q c) ≡ kind_fits ws n o x c
    unfolding pair_fits links_fit kind_fits inner_fits
    all_begin e =
        rw (
          kind_said c kind,
          lt-leb 32 c kind.small,
          ne_eqb (c % 16) 3 (λ f. omega arith),
          eq-eqb (c % 16) 1 e,
          ne_eqb (c % 16) 2 (λ f. omega arith),
          eq-eqb (c - 1) (c - 1) refl,
          eq-eqb (field ws x at_up) (field ws x at_up) refl,
          eq-eqb (field ws x at_prior) b prior,
          and-true (eqb (field ws x at_up) o),
          mark_inner,
        )
        (and_comm (leb 16 c || not (marked_word ws o)) (eqb (field ws x at_up) o))

    all_text : c % 16 ≡ 3 → (pair_fits c (field ws q at_kind) && links_fit ws b o x q c) ≡ kind_fits ws n o x c
    unfolding pair_fits links_fit kind_fits inner_fits
    all_text e =
        rw (
          kind_said c kind,
          lt-leb 32 c kind.small,
          eq-eqb (c % 16) 3 e,
          ne_eqb (c % 16) 1 (λ f. omega arith),
          ne_eqb (c % 16) 2 (λ f. omega arith),
          eq-eqb (c - 1) (c - 1) refl,
          eq-eqb (field ws x at_up) (field ws x at_up) refl,
          mark_inner,
        )
        (swapped (eqb (field ws x at_up) o) (leb 16 c || not (marked_word ws o)) (eqb (field ws x at_mate) x))

    -- an end whose kind word is the open begin's and one more has its mark
    marked_end : eqb (field ws o at_kind) (c - 1) ≡ true → (leb 16 c || ltb (field ws o at_kind) 16) ≡ true
    marked_end r =
        let same = eqb-true (field ws o at_kind) (c - 1) r in
        by_cases (dec_le 16 c) (λ l. rw (le-leb 16 c l)) (λ l. rw (lt-leb 16 c (omega arith)) (lt-ltb (field ws o at_kind) 16 (omega arith)))

    all_end : c % 16 ≡ 2 → (pair_fits c (field ws q at_kind) && links_fit ws b o x q c) ≡ kind_fits ws n o x c
    unfolding pair_fits links_fit kind_fits end_fits
    all_end e =
        rw (
          kind_said c kind,
          lt-leb 32 c kind.small,
          ne_eqb (c % 16) 3 (λ f. omega arith),
          ne_eqb (c % 16) 1 (λ f. omega arith),
          eq-eqb (c % 16) 2 e,
        )
        (⊎_elim
        (λ z. rw (q_none z, eq-eqb o no_tag z, ← word, ne_eqb c (c - 1) (λ f. omega arith)))
        (λ p. rw (q_open p.0, ne_eqb o no_tag (λ z. omega (arith, p.0)), test_same (c - 1) (field ws o at_kind) (field ws o at_kind) (c - 1) sym sym)
        (regroup (eqb (field ws x at_mate) o) (eqb (field ws o at_mate) x) (eqb (field ws x at_up) (field ws o at_up)) (eqb (field ws o at_kind) (c - 1)) (leb 16 c || ltb (field ws o at_kind) 16) _ marked_end
        (λ u. rw (eqb-true (field ws x at_up) (field ws o at_up) u) (open_range p.2))))
        (open_cases around))

  tag_by : (b : ℕ) → field ws x at_prior ≡ b → (t : Bool) → is_kind_word c ≡ t → (pair_fits c (field ws q at_kind) && links_fit ws b o x q c) ≡ kind_fits ws n o x c
  unfolding pair_fits
  tag_by b prior true e =
      let kind = kind_given c e in
      by_cases (ℕ_discrete (c % 16) 3) (all_text b prior kind)
      (λ no_text. by_cases (ℕ_discrete (c % 16) 1) (all_begin b prior kind) (λ no_begin. all_end b prior kind (omega (arith, kind))))
  tag_by b prior false e = rw e (kind_unfit ws n o x c e)

  pub tag_right : (b : ℕ) → field ws x at_prior ≡ b → (pair_fits c (field ws q at_kind) && links_fit ws b o x q c) ≡ kind_fits ws n o x c
  tag_right b prior = tag_by b prior (is_kind_word c) refl
