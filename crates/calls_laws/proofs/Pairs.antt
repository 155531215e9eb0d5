-- Labels tell places, the held-pair question is answered right, and the labels of a current pair tell enclosure.
-- Assumes nothing.
use mathlib.Core.Path.{◌≡◌, refl, sym, ◌∙◌}
use mathlib.Core.Bool.{Bool, true, false, ◌&&◌, ◌||◌, not, cond, true≢false}
use mathlib.Core.Logic.{◌↔◌, ◌⊎◌, inl, inr}
use Prim.Native.Nat.{ℕ, ◌<◌}
use native.Mathlib.Omega.{arith}
use borrow.Author.Tests.{lt-ltb, lt-leb, eq-eqb, ne_eqb, ltb-true, leb-false, eqb-true, eqb-false, not-true, not-false}
use lib.Dec.{ltb, leb, eqb}
use lib.ListN.{length}
use Rattle.lists.specs.Lists.{first}
use Rattle.store_types.specs.declared.HeldPair.{HeldPair}
use Rattle.store_types.specs.declared.Answer.{Answer}
use Rattle.store_types.specs.declared.Answer.TheVariants.{Yes, No, Stale}
use Rattle.lists.proofs.Tests.{and_left, and_right, and_both, by_test, fails, or_left_false, or_right_false}
use Rattle.tree.specs.Book.{label_of, labels_of}
use Rattle.tree.specs.Promise.{LabelsRise}
use Rattle.tree_laws.proofs.Rows.{place_of_member, member_all_below}
use Rattle.tree_laws.proofs.Labels.{length_labels, rising_of, rising_compare, labels_rise}
use Rattle.calls.specs.Kind.{begin, end, is_begin}
use Rattle.calls.specs.Store.{Store, fact, count, row, place_of, width, label}
use Rattle.calls.specs.Sound.{sound}
use Rattle.calls.specs.Held.{encloses, current, question_tests, question}
use Rattle.calls.specs.Promise.{LabelsTell, Encloses, Current, Asked, PairsRight, PairLabelsTell, YesOrNo}
use Rattle.calls_laws.proofs.Widths.{store_widths}
use Rattle.calls_laws.proofs.Sections.{mate_fits}
use Rattle.calls_laws.proofs.Tests.{Sound, sane, facts_of}
use Rattle.std.specs.Prelude.{Result, Ok, Err}

-- LABELS TELL

-- a tag of a sound store stands in its row
pub placed : {st : Store} (x : ℕ) → Sound st → x < count st → place_of st x < length (row st)
placed {st} x h l = place_of_member x (row st) (member_all_below (count st) x (row st) h.each l)

-- in a sound store comparing labels is comparing places
pub labels_tell : LabelsTell
unfolding LabelsTell LabelsRise label_of
labels_tell st x y e x_fits y_fits =
    let h = facts_of st e in
    let rising = rising_of _ (labels_of (width st) st.book) (labels_rise (width st) st.book (store_widths st) (sane h)) in
    let many = length_labels st.book.root (width st) st.book.under 0 in
    rising_compare 0 _ (labels_of (width st) st.book) rising (place_of st x) (place_of st y)
    (omega (arith, placed x h x_fits)) (omega (arith, placed y h y_fits))

-- THE QUESTION

-- a first test that leads elsewhere has failed, and the rest is the outcome
passed : {A : Type 0} (t : Bool) (u v w : A) → (u ≡ w → ⊥) → cond t u v ≡ w → (t ≡ false) × (v ≡ w)
passed true u v w other e = absurd (other e)
passed false u v w other e = (refl, e)

-- an answer, as a reply to the question
abbrev replies : Answer → Result Answer ℕ
replies a = Ok a

refused_not : (k : ℕ) (a : Answer) → Err k ≡ replies a → ⊥
refused_not k a e = let z : ◌≡◌ {A = ℕ} 0 1 = cc in omega arith

-- the tests as facts
asked_of : (p : HeldPair) (d : ℕ) (st : Store) → (leb (count st) p.tag.0 || leb (count st) d) ≡ false →
    not (is_begin (fact st p.tag.0).kind) ≡ false → Asked p d st
asked_of p d st e b =
    record {
      tag = leb-false _ _ (or_left_false (leb (count st) p.tag.0) (leb (count st) d) e);
      other = leb-false _ _ (or_right_false (leb (count st) p.tag.0) (leb (count st) d) e);
      begin = not-false _ b;
    }

current_of : (p : HeldPair) (st : Store) → eqb p.book st.number ≡ true → current st p ≡ true → Current p st
unfolding current
current_of p st b e =
    let starts = eqb p.start.0 (label st p.tag.0) in
    let ends = eqb p.end.0 (label st (fact st p.tag.0).mate) in
    let unmarked = not (fact st p.tag.0).marked in
    let labels = and_left (starts && ends) unmarked e in
    record {
      book = eqb-true _ _ b;
      start = eqb-true _ _ (and_left starts ends labels);
      end = eqb-true _ _ (and_right starts ends labels);
      unmarked = not-true _ (and_right (starts && ends) unmarked e);
    }

current_test : (p : HeldPair) (st : Store) → Current p st → current st p ≡ true
unfolding current
current_test p st h = and_both (and_both (eq-eqb _ _ h.start) (eq-eqb _ _ h.end)) (rw h.unmarked)

encloses_of : (st : Store) (x d : ℕ) → encloses st x d ≡ true → Encloses st x d
unfolding encloses Encloses
encloses_of st x d e =
    let behind = ltb (place_of st x) (place_of st d) in
    let before = ltb (place_of st d) (place_of st (fact st x).mate) in
    (ltb-true _ _ (and_left behind before e), ltb-true _ _ (and_right behind before e))

encloses_test : (st : Store) (x d : ℕ) → Encloses st x d → encloses st x d ≡ true
unfolding encloses Encloses
encloses_test st x d h = and_both (lt-ltb _ _ h.0) (lt-ltb _ _ h.1)

-- what is left of the question where the pair is of this book and may be asked
abbrev if_current : (p : HeldPair) (d : ℕ) (st : Store) → Result Answer ℕ
if_current p d st = cond (fact st d).marked (Err 9) (Ok (cond (encloses st p.tag.0 d) Yes No))

asked_question : (p : HeldPair) (d : ℕ) (st : Store) → p.book ≡ st.number → Asked p d st →
    question p d st ≡ cond (not (current st p)) (Ok Stale) (if_current p d st)
unfolding question question_tests first
asked_question p d st b h =
    rw (eq-eqb p.book st.number b, lt-leb (count st) p.tag.0 h.tag, lt-leb (count st) d h.other, h.begin)

-- and back: the pair may be asked where the question is answered, and it is of this book
question_asked : (p : HeldPair) (d : ℕ) (st : Store) (a : Answer) → eqb p.book st.number ≡ true → question p d st ≡ Ok a →
    Asked p d st × (cond (not (current st p)) (Ok Stale) (if_current p d st) ≡ Ok a)
unfolding question question_tests first
question_asked p d st a b e =
    let tags = passed (leb (count st) p.tag.0 || leb (count st) d) (Err 8) _ (Ok a) (refused_not 8 a) (rw b at e) in
    let kind = passed (not (is_begin (fact st p.tag.0).kind)) (Err 10) _ (Ok a) (refused_not 10 a) tags.1 in
    (asked_of p d st tags.0 kind.0, kind.1)

-- yes and no speak of a current pair and a tag that is not marked
answers : (p : HeldPair) (d : ℕ) (st : Store) → Asked p d st → Current p st → (fact st d).marked ≡ false →
    question p d st ≡ Ok (cond (encloses st p.tag.0 d) Yes No)
answers p d st h c m = asked_question p d st c.book h ∙ rw (current_test p st c, m)

answered : (p : HeldPair) (d : ℕ) (st : Store) (a : Answer) → (replies Stale ≡ Ok a → ⊥) → question p d st ≡ Ok a →
    YesOrNo p d st (replies (cond (encloses st p.tag.0 d) Yes No) ≡ Ok a)
unfolding question question_tests first
answered p d st a fresh e =
    let book = not-false _ (passed (not (eqb p.book st.number)) (Ok Stale) _ (Ok a) fresh e).0 in
    let asked = question_asked p d st a book e in
    let now = passed (not (current st p)) (Ok Stale) (if_current p d st) (Ok a) fresh asked.1 in
    let tag = passed (fact st d).marked (Err 9) _ (Ok a) (refused_not 9 a) now.1 in
    record { asked = asked.0; current = current_of p st book (not-false _ now.0); unmarked = tag.0; tells = tag.1 }

said_yes : (t : Bool) → replies (cond t Yes No) ≡ Ok Yes → t ≡ true
said_yes true e = refl
said_yes false e = cc

said_no : (t : Bool) → replies (cond t Yes No) ≡ Ok No → t ≡ false
said_no true e = cc
said_no false e = refl

not_stale : (t : Bool) → replies (cond t Yes No) ≡ Ok Stale → ⊥
not_stale true e = let z : ◌≡◌ {A = ℕ} 0 1 = cc in omega arith
not_stale false e = let z : ◌≡◌ {A = ℕ} 0 1 = cc in omega arith

-- stale: another book, or a pair of this book whose labels or mark are not the section's now
stale_of : (p : HeldPair) (d : ℕ) (st : Store) → question p d st ≡ Ok Stale →
    (p.book ≡ st.number → ⊥) ⊎ ((p.book ≡ st.number) × Asked p d st × (Current p st → ⊥))
stale_of p d st e =
    by_test (eqb p.book st.number)
    (λ b. let asked = question_asked p d st Stale b e in inr (eqb-true _ _ b, asked.0, λ c. outdated (rw (current_test p st c) at asked.1)))
    (λ b. inl (eqb-false _ _ b))
  where
    outdated : if_current p d st ≡ Ok Stale → ⊥
    outdated q =
        not_stale (encloses st p.tag.0 d)
        (passed (fact st d).marked (Err 9) (Ok (cond (encloses st p.tag.0 d) Yes No)) (Ok Stale) (refused_not 9 Stale) q).1

stale_test : (p : HeldPair) (d : ℕ) (st : Store) →
    (p.book ≡ st.number → ⊥) ⊎ ((p.book ≡ st.number) × Asked p d st × (Current p st → ⊥)) → question p d st ≡ Ok Stale
unfolding question question_tests first
stale_test p d st (inl other) = rw (ne_eqb p.book st.number other)
stale_test p d st (inr h) =
    asked_question p d st h.0 h.1
    ∙ rw (fails (current st p) (λ c. h.2 (current_of p st (eq-eqb _ _ h.0) c)))

-- the same, where enclosure is told in another way
told : {p : HeldPair} {d : ℕ} {st : Store} {A B : Type 0} → YesOrNo p d st A → B → YesOrNo p d st B
told h b = record { asked = h.asked; current = h.current; unmarked = h.unmarked; tells = b }

-- yes, no and stale, each if and only if
pub pairs_right : PairsRight
unfolding PairsRight
pairs_right p d st =
    record {
      if_yes = (
        λ e. let a = answered p d st Yes (λ q. not_stale true (sym q)) e in told a (encloses_of st p.tag.0 d (said_yes _ a.tells)),
        λ h. answers p d st h.asked h.current h.unmarked ∙ rw (encloses_test st p.tag.0 d h.tells),
      );
      if_no = (
        λ e. let a = answered p d st No (λ q. not_stale false (sym q)) e in told a (λ i. true≢false (sym (encloses_test st p.tag.0 d i) ∙ said_no _ a.tells)),
        λ h. answers p d st h.asked h.current h.unmarked ∙ rw (fails (encloses st p.tag.0 d) (λ i. h.tells (encloses_of st p.tag.0 d i))),
      );
      if_stale = (stale_of p d st, stale_test p d st);
    }

-- WHAT A CURRENT PAIR'S LABELS TELL

-- in a sound store a label is below another just where the place is
label_before : (st : Store) (x y : ℕ) → sound st ≡ true → x < count st → y < count st → (label st x < label st y) ↔ (place_of st x < place_of st y)
unfolding LabelsTell
label_before st x y e x_fits y_fits =
    let tell = labels_tell st x y e x_fits y_fits in
    (λ h. ltb-true _ _ (sym tell ∙ lt-ltb _ _ h), λ h. ltb-true _ _ (tell ∙ lt-ltb _ _ h))

-- enclosure is what the labels of a current pair tell
pub pair_labels_tell : PairLabelsTell
unfolding PairLabelsTell Encloses
pair_labels_tell p d st e h c =
    let behind = label_before st p.tag.0 d e h.tag h.other in
    let before = label_before st d (fact st p.tag.0).mate e h.other (mate_fits (facts_of st e) p.tag.0 h.tag) in (
      λ i. (rw c.start (behind.1 i.0), rw c.end (before.1 i.1)),
      λ l. (behind.0 (rw c.start at l.0), before.0 (rw c.end at l.1)),
    )
