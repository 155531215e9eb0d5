-- Demand 2 over words: the held-pair question answers by what stands along next, and a held pair holds the label words.
-- Assumes nothing.
use mathlib.Core.Path.{◌≡◌, refl, sym, ◌∙◌}
use mathlib.Core.Bool.{Bool, true, false}
use mathlib.Core.List.{List}
use mathlib.Core.Logic.{◌↔◌, ◌⊎◌, inl, inr}
use Prim.Native.Nat.{ℕ, ◌%◌, ◌<◌}
use native.Mathlib.Omega.{arith}
use borrow.Author.Tests.{eqb-true, eq-eqb}
use lib.Dec.{eqb}
use Rattle.lists.proofs.Replied.{replied_answer}
use Rattle.store_types.specs.declared.HeldPair.{HeldPair}
use Rattle.store_types.specs.declared.Answer.{Answer}
use Rattle.store_types.specs.declared.Answer.TheVariants.{Yes, No, Stale}
use Rattle.store_types.specs.Layout.{at_book, at_mate, word_at, field, label_at}
use Rattle.lists.specs.Fronts.{replied}
use Rattle.lists.proofs.Replied.{replied_accepted}
use Rattle.calls.specs.Kind.{Kind, begin, end, text, code, kind_word, is_begin}
use Rattle.calls.specs.Store.{Store, fact, count, row, label}
use Rattle.calls.specs.Mark.{section_refusal}
use Rattle.calls.specs.Held.{hold_pair, question}
use Rattle.calls.specs.Words.{Says}
use Rattle.calls.specs.Replies.{said, refusal_over, question_reply, hold_reply}
use Rattle.calls.specs.Promise.{Encloses, Current, Asked, PairsRight, YesOrNo}
use Rattle.calls_laws.proofs.Reader.{kind_back}
use Rattle.calls_laws.proofs.Sections.{distinct_row, in_row, mate_fits}
use Rattle.calls_laws.proofs.Marks.{accepted_section}
use Rattle.calls_laws.proofs.Pairs.{pairs_right}
use Rattle.calls_laws.proofs.WordSteps.{said_store, refusal_said, refusal_passed, header_said}
use Rattle.demands.specs.Words.{is_marked}
use Rattle.demands.specs.Promise.{AskedWords, CurrentWords, Enclosed, QuestionRight, HoldRight, YesOrNoWords}
use Rattle.demands.proofs.Said.{sound_said, tag_said, book_row}
use Rattle.demands.proofs.Places.{stand_of, places_of}
use Rattle.std.specs.Prelude.{Ok, Err}

-- A BEGIN by its word
pub begin_code : (k : Kind) (m : Bool) → eqb (kind_word k m % 16) 1 ≡ is_begin k
unfolding is_begin kind_word code
begin_code begin true = refl
begin_code begin false = refl
begin_code end true = refl
begin_code end false = refl
begin_code text true = refl
begin_code text false = refl

-- WORDS THAT SAY A STORE: what is asked of the one is asked of the other
module _ (ws : List ℕ) (st : Store) (h : Says ws st) where
  pub marked_said : (x : ℕ) → x < count st → is_marked ws x ≡ (fact st x).marked
  unfolding is_marked
  marked_said x l = rw (tag_said ws st h x l).kind_is (kind_back (fact st x).kind (fact st x).marked).1

  -- the label word of a tag, and of its mate
  pub label_said : (x : ℕ) → x < count st → label_at ws x ≡ label st x
  label_said x l = (tag_said ws st h x l).label_word

  mate_label_said : (x : ℕ) → x < count st → label_at ws (field ws x at_mate) ≡ label st (fact st x).mate
  mate_label_said x l = rw (tag_said ws st h x l).mate_word (label_said (fact st x).mate (mate_fits (sound_said ws st h) x l))

  module _ (p : HeldPair) where
    asked_said : (d : ℕ) → Asked p d st → AskedWords p d ws
    asked_said d a =
        let issued = (header_said ws st h).issued in
        record {
          tag = omega (arith, a.tag);
          other = omega (arith, a.other);
          begin = rw (tag_said ws st h p.tag.0 a.tag).kind_is (eqb-true _ 1 (begin_code (fact st p.tag.0).kind _ ∙ a.begin));
        }

    said_asked : (d : ℕ) → AskedWords p d ws → Asked p d st
    said_asked d a =
        let issued = (header_said ws st h).issued in
        let tag : p.tag.0 < count st = omega (arith, a.tag) in
        record {
          tag = tag;
          other = omega (arith, a.other);
          begin = sym (begin_code (fact st p.tag.0).kind _) ∙ eq-eqb _ 1 (rw (tag_said ws st h p.tag.0 tag).kind_is at a.begin);
        }

    module _ (l : p.tag.0 < count st) where
      current_said : Current p st → CurrentWords p ws
      current_said c =
          record {
            book = c.book ∙ sym (header_said ws st h).number;
            start = c.start ∙ sym (label_said p.tag.0 l);
            end = c.end ∙ sym (mate_label_said p.tag.0 l);
            unmarked = marked_said p.tag.0 l ∙ c.unmarked;
          }

      said_current : CurrentWords p ws → Current p st
      said_current c =
          record {
            book = c.book ∙ (header_said ws st h).number;
            start = c.start ∙ label_said p.tag.0 l;
            end = c.end ∙ mate_label_said p.tag.0 l;
            unmarked = sym (marked_said p.tag.0 l) ∙ c.unmarked;
          }

      -- enclosure by places is what stands along next
      enclosed_said : (d : ℕ) → d < count st → Encloses st p.tag.0 d ↔ Enclosed p d ws
      unfolding Encloses Enclosed
      enclosed_said d k =
          let own = sound_said ws st h in
          let x = p.tag.0 in
          let mate = (tag_said ws st h x l).mate_word in
          let along = (book_row ws st h).next in (
            λ e. rw mate
                (stand_of ws (row st) along (distinct_row own) x d (fact st x).mate (in_row own x l) (in_row own d k) (in_row own _ (mate_fits own x l)) e.0 e.1),
            λ s. places_of ws (row st) along (distinct_row own) x d (fact st x).mate (rw mate at s),
          )

-- AN ANSWER is over words that say a store, and the store's
answered_said : (p : HeldPair) (d : ℕ) (ws : List ℕ) (a : Answer) → question_reply p d ws ≡ Ok a → Says ws (said ws) × (question p d (said ws) ≡ Ok a)
unfolding question_reply
answered_said p d ws a e =
    let (z, q) = replied_accepted Err (refusal_over ws (λ st. 0)) (question p d (said ws)) (Ok a) (λ i e. let z : ◌≡◌ {A = ℕ} 0 1 = cc in omega arith) e in ((refusal_passed ws (λ st. 0) z).0, q)

said_answered : (p : HeldPair) (d : ℕ) (ws : List ℕ) (st : Store) → Says ws st → question_reply p d ws ≡ question p d st
unfolding question_reply replied
said_answered p d ws st h = rw (refusal_said ws st h (λ st. 0), said_store ws st h)

-- a yes or no of the store is one of the words, and back
module _ {p : HeldPair} {d : ℕ} {ws : List ℕ} {st : Store} {A B : Type 0} (h : Says ws st) where
  words_tell : YesOrNo p d st A → B → YesOrNoWords p d ws B
  words_tell y b =
      let a = y.asked in
      record {
        says = (st, h);
        asked = asked_said ws st h p d a;
        current = current_said ws st h p a.tag y.current;
        unmarked = marked_said ws st h d a.other ∙ y.unmarked;
        tells = b;
      }

  store_tells : YesOrNoWords p d ws A → B → YesOrNo p d st B
  store_tells y b =
      let a = said_asked ws st h p d y.asked in
      record {
        asked = a;
        current = said_current ws st h p a.tag y.current;
        unmarked = sym (marked_said ws st h d a.other) ∙ y.unmarked;
        tells = b;
      }

-- yes, no and stale, each if and only if
pub question_right : QuestionRight
unfolding QuestionRight PairsRight
question_right p d ws =
    record {
      if_yes = (
        λ e. let (h, q) = answered_said p d ws Yes e in
            let st = said ws in
            let y = (pairs_right p d st).if_yes.0 q in
            let a = y.asked in
            words_tell h y ((enclosed_said ws st h p a.tag d a.other).0 y.tells),
        λ y. let (st, h) = y.says in
            let a = said_asked ws st h p d y.asked in
            said_answered p d ws st h ∙ (pairs_right p d st).if_yes.1 (store_tells h y ((enclosed_said ws st h p a.tag d a.other).1 y.tells)),
      );
      if_no = (
        λ e. let (h, q) = answered_said p d ws No e in
            let st = said ws in
            let y = (pairs_right p d st).if_no.0 q in
            let a = y.asked in
            words_tell h y (λ s. y.tells ((enclosed_said ws st h p a.tag d a.other).1 s)),
        λ y. let (st, h) = y.says in
            let a = said_asked ws st h p d y.asked in
            said_answered p d ws st h ∙ (pairs_right p d st).if_no.1 (store_tells h y (λ s. y.tells ((enclosed_said ws st h p a.tag d a.other).0 s))),
      );
      if_stale = (
        λ e. let (h, q) = answered_said p d ws Stale e in ((said ws, h), stale_said p d ws (said ws) h ((pairs_right p d (said ws)).if_stale.0 q)),
        λ (known, why). let (st, h) = known in said_answered p d ws st h ∙ (pairs_right p d st).if_stale.1 (said_stale p d ws st h why),
      );
    }
  where
    stale_said : (p : HeldPair) (d : ℕ) (ws : List ℕ) (st : Store) → Says ws st →
        (p.book ≡ st.number → ⊥) ⊎ ((p.book ≡ st.number) × Asked p d st × (Current p st → ⊥)) →
        (p.book ≡ word_at ws at_book → ⊥) ⊎ ((p.book ≡ word_at ws at_book) × AskedWords p d ws × (CurrentWords p ws → ⊥))
    stale_said p d ws st h (inl n) = inl (λ e. n (e ∙ (header_said ws st h).number))
    stale_said p d ws st h (inr (e, a, n)) =
        inr (e ∙ sym (header_said ws st h).number, asked_said ws st h p d a, λ c. n (said_current ws st h p a.tag c))

    said_stale : (p : HeldPair) (d : ℕ) (ws : List ℕ) (st : Store) → Says ws st →
        (p.book ≡ word_at ws at_book → ⊥) ⊎ ((p.book ≡ word_at ws at_book) × AskedWords p d ws × (CurrentWords p ws → ⊥)) →
        (p.book ≡ st.number → ⊥) ⊎ ((p.book ≡ st.number) × Asked p d st × (Current p st → ⊥))
    said_stale p d ws st h (inl n) = inl (λ e. n (e ∙ sym (header_said ws st h).number))
    said_stale p d ws st h (inr (e, a, n)) =
        let b = said_asked ws st h p d a in inr (e ∙ (header_said ws st h).number, b, λ c. n (current_said ws st h p b.tag c))

-- HOLD
pub hold_right : HoldRight
unfolding HoldRight hold_reply hold_pair
hold_right x p ws e =
    let (z, same) = replied_answer (refusal_over ws (section_refusal x)) (hold_pair x (said ws)) p e in
    let (h, fine) = refusal_passed ws (section_refusal x) z in
    let l = (accepted_section x (said ws) fine).tag in
    rw (← same) (record {
      book = sym (header_said ws (said ws) h).number;
      tag = refl;
      start = sym (label_said ws (said ws) h x l);
      end = sym (mate_label_said ws (said ws) h x l);
    })
