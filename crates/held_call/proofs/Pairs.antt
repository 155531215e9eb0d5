-- Hold and the held-pair question, by what the words say. Assumes nothing.
use mathlib.Core.Path.{◌≡◌, sym, ◌∙◌}
use mathlib.Core.Bool.{Bool, true, false, ◌&&◌, not, cond, and-false, or-true}
use mathlib.Core.List.{List}
use mathlib.Core.Logic.{◌⊎◌, inl, inr}
use Prim.Native.Nat.{ℕ, ◌%◌, ◌≤◌, ◌<◌}
use borrow.Author.Tests.{eq-eqb, ne_eqb, lt-leb, le-leb, lt-ltb, le-ltb, leb-true, leb-false, eqb-true}
use lib.Dec.{ltb, leb, eqb}
use Rattle.lists.specs.Lists.{first}
use Rattle.store_types.specs.declared.TagId.{TagId}
use Rattle.store_types.specs.declared.Label.{Label}
use Rattle.store_types.specs.declared.HeldPair.{HeldPair}
use Rattle.store_types.specs.declared.Answer.TheVariants.{Yes, No, Stale}
use Rattle.lists.proofs.Tests.{and_left, and_right, by_test}
use Rattle.lists.specs.Fronts.{replied}
use Rattle.store_types.specs.Layout.{at_count, at_book, at_kind, word_at, field, label_at}
use Rattle.calls.specs.Kind.{is_begin}
use Rattle.calls.specs.Store.{fact, count, label}
use Rattle.calls.specs.Mark.{section_refusal}
use Rattle.calls.specs.Held.{hold_pair, encloses, current, question_tests, question}
use Rattle.calls.specs.Words.{Says}
use Rattle.calls.specs.Replies.{refusal_over, said, hold_reply, question_reply}
use Rattle.calls.specs.Promise.{LabelsTell}
use Rattle.calls_laws.proofs.Marks.{accepted_section}
use Rattle.calls_laws.proofs.Pairs.{labels_tell}
use Rattle.calls_laws.proofs.WordSteps.{header_said}
use Rattle.store_refuse.specs.Needs.{TagSaid}
use Rattle.held_call.specs.Needs.{PairAsked}
use Rattle.store_refuse.proofs.Laws.{refused_said, accepted_says, accepted_store, words_of_tag, kind_of_tag, mate_of_tag, no_tag_from}
use Rattle.std.specs.Prelude.{Ok, Err}

-- HOLD
pub section_tag : (ws : List ℕ) (x : ℕ) → refusal_over ws (section_refusal x) ≡ 0 → TagSaid ws x
section_tag ws x e =
    record {
      says = accepted_says ws (section_refusal x) e;
      tag = (accepted_section x (said ws) (accepted_store ws (section_refusal x) e)).tag;
    }

pub hold_held : (ws : List ℕ) (t : TagId) (a b : Label) → refusal_over ws (section_refusal t.0) ≡ 0 → a.0 ≡ label_at ws t.0 →
    b.0 ≡ label (said ws) (fact (said ws) t.0).mate → Ok (record { book = word_at ws at_book; tag = t; start = a; end = b }) ≡ hold_reply t.0 ws
unfolding hold_reply replied hold_pair
hold_held ws t a b e s f =
    let h = section_tag ws t.0 e in
    let number = (header_said ws (said ws) h.says).number in
    let starts : a.0 ≡ label (said ws) t.0 = s ∙ (words_of_tag h).label_word in
    rw (e, ← number, ← starts, ← f)

-- THE QUESTION
module _ (ws : List ℕ) (p : HeldPair) (d : ℕ) where
  replies : Says ws (said ws) → question_reply p d ws ≡ question p d (said ws)
  unfolding question_reply replied
  replies says = rw (refused_said ws (λ st. 0) says)

  pub other_book : Says ws (said ws) → (p.book ≡ word_at ws at_book → ⊥) → Ok Stale ≡ question_reply p d ws
  unfolding question question_tests first
  other_book says n = sym (replies says ∙ rw (ne_eqb p.book (said ws).number (λ e. n (e ∙ sym (header_said ws (said ws) says).number))))

  -- the book, then 8 and 10
  this_book : Says ws (said ws) → p.book ≡ word_at ws at_book → p.book ≡ (said ws).number
  this_book says e = e ∙ (header_said ws (said ws) says).number

  pub no_such_tag : Says ws (said ws) → p.book ≡ word_at ws at_book → (word_at ws at_count ≤ p.tag.0) ⊎ (word_at ws at_count ≤ d) → Err 8 ≡ question_reply p d ws
  unfolding question question_tests first
  no_such_tag says e (inl l) = sym (replies says ∙ rw (eq-eqb p.book (said ws).number (this_book says e), no_tag_from ws says p.tag.0 l))
  no_such_tag says e (inr l) =
      sym (replies says ∙ rw (eq-eqb p.book (said ws).number (this_book says e), no_tag_from ws says d l, or-true (leb (count (said ws)) p.tag.0)))

  pub not_begin : TagSaid ws p.tag.0 → TagSaid ws d → p.book ≡ word_at ws at_book → (field ws p.tag.0 at_kind % 16 ≡ 1 → ⊥) →
      Err 10 ≡ question_reply p d ws
  unfolding question question_tests first
  not_begin x y e n =
      let begins : is_begin (fact (said ws) p.tag.0).kind ≡ false = sym (kind_of_tag x).begins ∙ ne_eqb _ _ n in
      sym (replies x.says ∙ rw (
        eq-eqb p.book (said ws).number (this_book x.says e),
        lt-leb (count (said ws)) p.tag.0 x.tag,
        lt-leb (count (said ws)) d y.tag,
        begins,
      ))

  pub pair_asked : TagSaid ws p.tag.0 → TagSaid ws d → p.book ≡ word_at ws at_book → field ws p.tag.0 at_kind % 16 ≡ 1 → PairAsked ws p d
  pair_asked x y e b =
      record { section = x; other = y; book = this_book x.says e; begins = sym (kind_of_tag x).begins ∙ eq-eqb (field ws p.tag.0 at_kind % 16) 1 b }

  -- then stale, 9, yes or no
  module _ (h : PairAsked ws p d) where
    if_asked : question_reply p d ws ≡ cond (not (current (said ws) p)) (Ok Stale)
        (cond (leb 16 (field ws d at_kind)) (Err 9) (Ok (cond (encloses (said ws) p.tag.0 d) Yes No)))
    unfolding question question_tests first
    if_asked =
        replies h.other.says
        ∙ rw (
          eq-eqb p.book (said ws).number h.book,
          lt-leb (count (said ws)) p.tag.0 h.section.tag,
          lt-leb (count (said ws)) d h.other.tag,
          h.begins,
          (kind_of_tag h.other).marks,
        )

    pub outdated : current (said ws) p ≡ false → Ok Stale ≡ question_reply p d ws
    outdated c = sym (if_asked ∙ rw c)

    pub other_marked : current (said ws) p ≡ true → 16 ≤ field ws d at_kind → Err 9 ≡ question_reply p d ws
    other_marked c m = sym (if_asked ∙ rw (c, le-leb 16 (field ws d at_kind) m))

    -- by the labels of a current pair, which are its section's
    by_labels : current (said ws) p ≡ true → encloses (said ws) p.tag.0 d ≡ (ltb p.start.0 (label_at ws d) && ltb (label_at ws d) p.end.0)
    unfolding encloses current LabelsTell Says
    by_labels c =
        let st = said ws in
        let x = p.tag.0 in
        let m = (fact st x).mate in
        let starts = eqb p.start.0 (label st x) in
        let ends = eqb p.end.0 (label st m) in
        let labels = and_left (starts && ends) (not (fact st x).marked) c in
        rw (
          ← labels_tell st x d h.other.says.0 h.section.tag h.other.tag,
          ← labels_tell st d m h.other.says.0 h.other.tag (mate_of_tag h.section).tag,
          (words_of_tag h.other).label_word,
          eqb-true p.start.0 (label st x) (and_left starts ends labels),
          eqb-true p.end.0 (label st m) (and_right starts ends labels),
        )

    pub tells : current (said ws) p ≡ true → field ws d at_kind < 16 → (t : Bool) → (ltb p.start.0 (label_at ws d) && ltb (label_at ws d) p.end.0) ≡ t →
        Ok (cond t Yes No) ≡ question_reply p d ws
    tells c m t e = sym (if_asked ∙ rw (c, lt-leb 16 (field ws d at_kind) m, by_labels c, e))

-- WHETHER A PAIR IS CURRENT
not_leb : (a b : ℕ) → not (leb a b) ≡ ltb b a
not_leb a b =
    by_test (leb a b) (λ t. rw (t, le-ltb b a (leb-true a b t))) (λ t. rw (t, lt-ltb b a (leb-false a b t)))

module _ (ws : List ℕ) (p : HeldPair) (h : TagSaid ws p.tag.0) where
  abbrev end_now : ℕ
  end_now = label (said ws) (fact (said ws) p.tag.0).mate

  by_words : current (said ws) p ≡ ((eqb p.start.0 (label_at ws p.tag.0) && eqb p.end.0 end_now) && ltb (field ws p.tag.0 at_kind) 16)
  unfolding current
  by_words = rw ((words_of_tag h).label_word, ← not_leb 16 (field ws p.tag.0 at_kind), (kind_of_tag h).marks)

  pub start_moved : (p.start.0 ≡ label_at ws p.tag.0 → ⊥) → current (said ws) p ≡ false
  start_moved n = by_words ∙ rw (ne_eqb p.start.0 (label_at ws p.tag.0) n)

  pub end_moved : (p.end.0 ≡ end_now → ⊥) → current (said ws) p ≡ false
  end_moved n = by_words ∙ rw (ne_eqb p.end.0 end_now n, and-false (eqb p.start.0 (label_at ws p.tag.0)))

  pub unmoved : p.start.0 ≡ label_at ws p.tag.0 → p.end.0 ≡ end_now → current (said ws) p ≡ ltb (field ws p.tag.0 at_kind) 16
  unmoved s e = by_words ∙ rw (eq-eqb p.start.0 (label_at ws p.tag.0) s, eq-eqb p.end.0 end_now e)
