-- Mates and ups by a stack of open begins, and by the one pass over a store's facts: the same. Assumes nothing.
use mathlib.Core.Path.{◌≡◌, refl, ap, sym, ◌∙◌}
use mathlib.Core.Bool.{Bool, true, false, ◌&&◌, ◌||◌, not, or-true}
use mathlib.Core.List.{List, [], ◌∷◌, head_d}
use mathlib.Core.Logic.{◌⊎◌, inl, inr}
use Prim.Native.Nat.{ℕ, ◌-◌, ◌%◌, ◌≤◌, ◌<◌}
use native.Mathlib.Omega.{arith}
use borrow.Author.Tests.{eq-eqb, ne_eqb, eqb-false, lt-ltb, lt-leb, leb-true, leb-false, not-true}
use lib.Dec.{leb, ltb, eqb}
use Rattle.store_types.specs.Limits.{no_tag, most_tags}
use Rattle.lists.proofs.Tests.{by_test, and_left, and_right, and_both}
use Rattle.store_types.specs.Layout.{at_mate, at_up, at_kind, field}
use Rattle.tree.specs.Row.{member}
use Rattle.tree_laws.proofs.Rows.{member_first, member_later}
use Rattle.calls.specs.Kind.{begin, end, text, code, kind_word}
use Rattle.calls.specs.Store.{Store, fact, count, row}
use Rattle.calls.specs.Words.{Says}
use Rattle.calls_laws.proofs.Tests.{Sound}
use Rattle.calls_laws.proofs.Nesting.{Ends, Step, begins, ends, stands, Pass, chain_mark}
use Rattle.calls_laws.proofs.Sections.{row_below, pass_row, At, pass_at, closed_at, mate_fits, up_fits}
use Rattle.walk_model.specs.Walk.{marked_word, inner_fits, end_fits, kind_fits, open_after}
use Rattle.walk_model.proofs.Passes.{kinds_pass}
use Rattle.demands.specs.Words.{is_marked}
use Rattle.demands.specs.Sound.{Nests}
use Rattle.demands.proofs.Said.{sound_said, tag_said}
use Rattle.demands.proofs.Asked.{marked_said}

-- FROM A STORE. A stack of tags, each with the one below it as its up
abbrev Stacked : Store → List ℕ → Type 0
Stacked st [] = Unit {0}
Stacked st (o ∷ os) = (o < count st) × ((fact st o).up ≡ head_d os no_tag) × Stacked st os

-- a kind's word, marked or not
kind_code : (m : Bool) → (kind_word begin m % 16 ≡ 1) × (kind_word end m % 16 ≡ 2) × (kind_word text m % 16 ≡ 3)
unfolding kind_word code
kind_code true = (refl, refl, refl)
kind_code false = (refl, refl, refl)

module _ (ws : List ℕ) (st : Store) (h : Says ws st) where
  own : Sound st
  own = sound_said ws st h

  -- ONE TAG, and what nests behind it with the stack that it leaves
  module _ (o x m : ℕ) (xs : List ℕ) (l : x < count st) (onward : (ps : List ℕ) → head_d ps no_tag ≡ m → Stacked st ps → Nests ws ps xs) where
    -- an end closes the innermost
    closing : (os : List ℕ) → head_d os no_tag ≡ o → Stacked st os → (o ≡ no_tag → ⊥) → Ends st.facts o x m → Nests ws os (x ∷ xs)
    unfolding Nests head_d
    closing [] e s some b = absurd (some (sym e))
    closing (q ∷ os) e s some b =
        let own_words = tag_said ws st h x l in
        let its_words = tag_said ws st h q s.0 in
        let above : (fact st o).up ≡ head_d os no_tag = rw (← e) s.1 in
        inr (inl (
          rw (own_words.kind_is, b.kind) (kind_code (fact st x).marked).1,
          (
            q,
            os,
            refl,
            own_words.mate_word ∙ (b.mate ∙ sym e),
            its_words.mate_word ∙ rw e b.back,
            own_words.up_word ∙ (b.up ∙ above),
            onward os (sym above ∙ sym b.next) s.2,
          ),
        ))

    stacked : (os : List ℕ) → head_d os no_tag ≡ o → Stacked st os → Step st.facts no_tag o x m → Nests ws os (x ∷ xs)
    unfolding Nests head_d
    stacked os e s (begins b) =
        let words = tag_said ws st h x l in
        inl (
          rw (words.kind_is, b.kind) (kind_code (fact st x).marked).0,
          words.up_word ∙ (b.up ∙ sym e),
          onward (x ∷ os) (sym b.next) (l, b.up ∙ sym e, s),
        )
    stacked os e s (ends some b) = closing os e s some b
    stacked os e s (stands b) =
        let words = tag_said ws st h x l in
        inr (inr (
          rw (words.kind_is, b.kind) (kind_code (fact st x).marked).2,
          words.mate_word ∙ b.mate,
          words.up_word ∙ (b.up ∙ sym e),
          onward os (e ∙ sym b.next) s,
        ))

  -- the pass along a row, with the stack whose innermost is the open begin
  stacks : (xs os : List ℕ) (o : ℕ) → head_d os no_tag ≡ o → Stacked st os → ((x : ℕ) → member x xs ≡ true → x < count st) →
      Pass st.facts no_tag o xs no_tag → Nests ws os xs
  unfolding Nests head_d
  stacks [] [] o e s below p = refl
  stacks [] (q ∷ os) o e s below p = absurd (omega (arith, s.0, own.few))
  stacks (x ∷ xs) os o e s below (m, step, rest) =
      stacked o x m xs (below x (member_first x xs))
      (λ ps f t. stacks xs ps m f t (λ y i. below y (member_later y x xs i)) rest) os e s step

  pub nests_said : Nests ws [] (row st)
  unfolding head_d
  nests_said = stacks (row st) [] no_tag refl tt (row_below own) (pass_row own)

  -- MARKS: under a marked begin, and of mates
  module _ (x : ℕ) (l : x < count st) where
    mark_under : (a : At st x) → Step st.facts no_tag a.before x a.behind → (fact st (fact st x).up).marked ≡ true → (fact st x).marked ≡ true
    mark_under a (begins b) m = b.mark (rw b.up at m)
    mark_under a (ends shut b) m = b.mark ∙ chain_mark shut a.chain (rw b.up at m)
    mark_under a (stands b) m = b.mark (rw b.up at m)

    mark_mate : (a : At st x) → Step st.facts no_tag a.before x a.behind → (fact st (fact st x).mate).marked ≡ (fact st x).marked
    mark_mate a (begins b) = (closed_at own x l a b).closes.mark
    mark_mate a (ends shut b) = rw b.mate (sym b.mark)
    mark_mate a (stands b) = rw b.mate

    pub under_said : (field ws x at_up ≡ no_tag → ⊥) → is_marked ws (field ws x at_up) ≡ true → is_marked ws x ≡ true
    under_said some m = go (up_fits own x l)
      where
        up : field ws x at_up ≡ (fact st x).up
        up = (tag_said ws st h x l).up_word

        go : ((fact st x).up ≡ no_tag) ⊎ ((fact st x).up < count st) → is_marked ws x ≡ true
        go (inl none) = absurd (some (up ∙ none))
        go (inr k) =
            let a = pass_at own x l in
            marked_said ws st h x l ∙ mark_under a a.step (sym (marked_said ws st h (fact st x).up k) ∙ rw up at m)

    pub mates_said : is_marked ws (field ws x at_mate) ≡ is_marked ws x
    mates_said =
        let a = pass_at own x l in
        let mate = (tag_said ws st h x l).mate_word in
        rw mate (marked_said ws st h (fact st x).mate (mate_fits own x l) ∙ (mark_mate a a.step ∙ sym (marked_said ws st h x l)))

-- TO THE PASS. A stack of begins over words, each with the one below it as its up
abbrev OpenStack : List ℕ → (n : ℕ) → List ℕ → Type 0
OpenStack ws n [] = Unit {0}
OpenStack ws n (o ∷ os) = (o < n) × (field ws o at_kind % 16 ≡ 1) × (field ws o at_up ≡ head_d os no_tag) × OpenStack ws n os

module _ (ws : List ℕ) (n : ℕ) (few : n ≤ most_tags) (kinds : (x : ℕ) → x < n → field ws x at_kind < 32)
    (under : (x : ℕ) → x < n → (field ws x at_up ≡ no_tag → ⊥) → is_marked ws (field ws x at_up) ≡ true → is_marked ws x ≡ true)
    (mates : (x : ℕ) → x < n → is_marked ws (field ws x at_mate) ≡ is_marked ws x) where
  -- the innermost of a stack is no tag or a tag
  head_fits : (os : List ℕ) → OpenStack ws n os → (eqb (head_d os no_tag) no_tag || ltb (head_d os no_tag) n) ≡ true
  unfolding head_d
  head_fits [] s = refl
  head_fits (o ∷ os) s = rw (lt-ltb o n s.0) (or-true (eqb o no_tag))

  -- a begin or text under o
  inner_passes : (o x : ℕ) → x < n → field ws x at_up ≡ o → inner_fits ws o x (field ws x at_kind) ≡ true
  unfolding inner_fits marked_word is_marked
  inner_passes o x l up =
      and_both (eq-eqb _ _ up)
      (by_test (not (eqb o no_tag) && leb 16 (field ws o at_kind))
      (λ t. let some = eqb-false o no_tag (not-true _ (and_left (not (eqb o no_tag)) (leb 16 (field ws o at_kind)) t)) in
      let marked : leb 16 (field ws x at_kind) ≡ true =
      under x l (λ none. some (sym up ∙ none)) (rw up (and_right (not (eqb o no_tag)) (leb 16 (field ws o at_kind)) t)) in
      rw marked)
      (λ t. rw t (or-true (leb 16 (field ws x at_kind)))))

  -- an end's word is one more than its begin's, as they are marked together
  one_more : (x o : ℕ) → x < n → o < n → field ws x at_kind % 16 ≡ 2 → field ws o at_kind % 16 ≡ 1 → field ws x at_mate ≡ o → field ws x at_kind - 1 ≡ field ws o at_kind
  unfolding is_marked
  one_more x o l k cx co mate =
      let together : leb 16 (field ws o at_kind) ≡ leb 16 (field ws x at_kind) = rw mate at (mates x l) in
      by_test (leb 16 (field ws x at_kind))
      (λ t. let high = leb-true 16 (field ws x at_kind) t in
      let high_o = leb-true 16 (field ws o at_kind) (together ∙ t) in
      omega (arith, kinds x l, kinds o k))
      (λ t. let low = leb-false 16 (field ws x at_kind) t in
      let low_o = leb-false 16 (field ws o at_kind) (together ∙ t) in
      omega arith)

  end_passes : (x o : ℕ) (os : List ℕ) → x < n → OpenStack ws n (o ∷ os) → field ws x at_kind % 16 ≡ 2 → field ws x at_mate ≡ o → field ws o at_mate ≡ x →
      field ws x at_up ≡ head_d os no_tag → end_fits ws n o x (field ws x at_kind) ≡ true
  unfolding end_fits
  end_passes x o os l s c mate back up =
      let some = ne_eqb o no_tag (λ e. omega (arith, s.0)) in
      let ups : field ws x at_up ≡ field ws o at_up = up ∙ sym s.2 in
      let fits : (eqb (field ws x at_up) no_tag || ltb (field ws x at_up) n) ≡ true = rw up (head_fits os s.3) in
      and_both (and_both (ap not some) (and_both (eq-eqb _ _ mate) (eq-eqb _ _ back)))
      (and_both (and_both (eq-eqb _ _ ups) (eq-eqb _ _ (one_more x o l s.0 c s.1 mate))) fits)

  -- a row that nests with a stack passes from its innermost on
  pub passes_nested : (xs os : List ℕ) → OpenStack ws n os → ((x : ℕ) → member x xs ≡ true → x < n) → Nests ws os xs →
      kinds_pass ws n (head_d os no_tag) xs ≡ true
  unfolding Nests head_d kind_fits open_after
  passes_nested [] os s below e = rw e
  passes_nested (x ∷ xs) os s below (inl (c, up, rest)) =
      let l = below x (member_first x xs) in
      rw (lt-leb 32 (field ws x at_kind) (kinds x l), c)
      (and_both (inner_passes (head_d os no_tag) x l up) (passes_nested xs (x ∷ os) (l, c, up, s) (λ y i. below y (member_later y x xs i)) rest))
  passes_nested (x ∷ xs) os s below (inr (inl (c, (o, around, e, mate, back, up, rest)))) =
      let l = below x (member_first x xs) in
      let t : OpenStack ws n (o ∷ around) = rw e at s in
      rw (e, lt-leb 32 (field ws x at_kind) (kinds x l), c)
      (and_both (end_passes x o around l t c mate back up) (rw up (passes_nested xs around t.3 (λ y i. below y (member_later y x xs i)) rest)))
  passes_nested (x ∷ xs) os s below (inr (inr (c, mate, up, rest))) =
      let l = below x (member_first x xs) in
      rw (lt-leb 32 (field ws x at_kind) (kinds x l), c)
      (and_both (and_both (eq-eqb _ _ mate) (inner_passes (head_d os no_tag) x l up)) (passes_nested xs os s (λ y i. below y (member_later y x xs i)) rest))
